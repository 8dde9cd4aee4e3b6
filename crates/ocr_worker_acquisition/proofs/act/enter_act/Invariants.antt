use Rattle.ocr_worker_acquisition.proofs.act.enter_act.Given as goal

abbrev pub ghost-enter_kept : goal.ghost-enter_kept
ghost-enter_kept g a = g.h
