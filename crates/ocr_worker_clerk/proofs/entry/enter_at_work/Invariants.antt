use Rattle.ocr_worker_clerk.proofs.entry.enter_at_work.Given as goal

abbrev pub ghost-prepare : goal.ghost-prepare
ghost-prepare g a = g.h
