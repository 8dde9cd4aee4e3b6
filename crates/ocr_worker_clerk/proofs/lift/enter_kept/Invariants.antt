use Rattle.ocr_worker_clerk.proofs.lift.enter_kept.Given as goal

abbrev pub ghost-enter_at_work : goal.ghost-enter_at_work
ghost-enter_at_work g a = g.h
