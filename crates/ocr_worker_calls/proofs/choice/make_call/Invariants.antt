use Rattle.ocr_worker_calls.proofs.choice.make_call.Given as goal

abbrev pub ghost-make_edt : goal.ghost-make_edt
ghost-make_edt g a = g.b

abbrev pub ghost-print : goal.ghost-print
ghost-print g a = g.b

abbrev pub ghost-make_from : goal.ghost-make_from
ghost-make_from g a = (g.b, a.clerk.now)
