use Rattle.ocr_worker_calls.proofs.creation.create_bare.Given as goal

abbrev pub ghost-create_from : goal.ghost-create_from
ghost-create_from g a = g.s
