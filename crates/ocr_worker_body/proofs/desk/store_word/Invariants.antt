use Rattle.ocr_worker_body.proofs.desk.store_word.Given as goal

abbrev pub ghost-store : goal.ghost-store
ghost-store g a = g.b
