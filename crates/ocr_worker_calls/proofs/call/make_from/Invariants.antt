use Rattle.ocr_worker_calls.proofs.call.make_from.Given as goal

abbrev pub ghost-ask : goal.ghost-ask
ghost-ask g a = g.s.0

abbrev pub ghost-answer : goal.ghost-answer
ghost-answer g a = g.s

abbrev pub ghost-enter_asked : goal.ghost-enter_asked
ghost-enter_asked g a = g.s
