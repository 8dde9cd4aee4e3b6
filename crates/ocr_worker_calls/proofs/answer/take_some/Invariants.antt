use Rattle.ocr_worker_calls.proofs.answer.take_some.Given as goal

abbrev pub ghost-take_new : goal.ghost-take_new
ghost-take_new g a = g.g
