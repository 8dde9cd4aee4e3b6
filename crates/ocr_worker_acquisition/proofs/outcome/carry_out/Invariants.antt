use Rattle.ocr_worker_acquisition.proofs.outcome.carry_out.Given as goal

abbrev pub ghost-enter_act : goal.ghost-enter_act
ghost-enter_act g a = g.h
