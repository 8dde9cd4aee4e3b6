use Rattle.ocr_worker_access.proofs.stores.store.Given as goal

abbrev pub ghost-store_lent : goal.ghost-store_lent
ghost-store_lent g a = g.b

abbrev pub ghost-store_shared : goal.ghost-store_shared
ghost-store_shared g a = (g.b, a.clerk.now)
