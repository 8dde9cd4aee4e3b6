use Rattle.ocr_worker_calls.proofs.choice.make_edt.Given as goal

abbrev pub ghost-create_bare : goal.ghost-create_bare
ghost-create_bare g a = (g.b, a.clerk.now)

abbrev pub ghost-make_from : goal.ghost-make_from
ghost-make_from g a = (g.b, a.clerk.now)
