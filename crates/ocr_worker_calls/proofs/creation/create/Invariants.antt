use Rattle.ocr_worker_calls.proofs.creation.create.Given as goal

abbrev pub ghost-take_both : goal.ghost-take_both
ghost-take_both g a = g.s

abbrev pub ghost-enter_new : goal.ghost-enter_new
ghost-enter_new g a = (g.s.0, (g.s.1, a.clerk.now))
