use Rattle.ocr_worker_calls.proofs.answer.take_made.Given as goal

abbrev pub ghost-take_some : goal.ghost-take_some
ghost-take_some g a = g.g
