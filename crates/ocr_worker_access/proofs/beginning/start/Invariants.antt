use Rattle.ocr_worker_access.proofs.beginning.start.Given as goal

abbrev pub ghost-enter_at_hand : goal.ghost-enter_at_hand
ghost-enter_at_hand g a = g.h
