use Rattle.ocr_worker_access.proofs.conclusion.count_any.Given as goal

abbrev pub ghost-count_new : goal.ghost-count_new
ghost-count_new g a = g.s
