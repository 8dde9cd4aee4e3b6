use Rattle.ocr_worker_body.proofs.desk.answer.Given as goal

abbrev pub ghost-make_call : goal.ghost-make_call
ghost-make_call g a = g.b
