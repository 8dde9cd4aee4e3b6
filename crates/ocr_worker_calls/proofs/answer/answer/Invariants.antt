use Rattle.ocr_worker_calls.proofs.answer.answer.Given as goal

abbrev pub ghost-make : goal.ghost-make
ghost-make g a = g.g
