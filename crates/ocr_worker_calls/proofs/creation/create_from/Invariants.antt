use Rattle.ocr_worker_calls.proofs.creation.create_from.Given as goal

abbrev pub ghost-create : goal.ghost-create
ghost-create g a = g.s
