use Rattle.ocr_worker_body.proofs.desk.load_word.Given as goal

abbrev pub ghost-load : goal.ghost-load
ghost-load g a = g.b
