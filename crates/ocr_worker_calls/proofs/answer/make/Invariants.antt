use Rattle.ocr_worker_calls.proofs.answer.make.Given as goal

abbrev pub ghost-take_made : goal.ghost-take_made
ghost-take_made g a = g.g.1
