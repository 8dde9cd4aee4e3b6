use Rattle.ocr_worker_access.proofs.stores.store_shared.Given as goal

abbrev pub ghost-lift_shared : goal.ghost-lift_shared
ghost-lift_shared g a = g.s.0

abbrev pub ghost-enter_access : goal.ghost-enter_access
ghost-enter_access g a = g.s
