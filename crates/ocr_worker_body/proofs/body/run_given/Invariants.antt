use Rattle.ocr_worker_body.proofs.body.run_given.Given as goal

abbrev pub ghost-end_body : goal.ghost-end_body
ghost-end_body g a = g.b
