use Rattle.ocr_worker_access.proofs.loads.load.Given as goal

abbrev pub ghost-load_shared : goal.ghost-load_shared
ghost-load_shared g a = (g.b, a.clerk.now)
