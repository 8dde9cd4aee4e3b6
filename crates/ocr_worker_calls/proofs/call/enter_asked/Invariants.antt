use Rattle.ocr_worker_calls.proofs.Makes.{with_first}
use Rattle.ocr_worker_calls.proofs.call.enter_asked.Given as goal

abbrev pub ghost-enter_call : goal.ghost-enter_call
ghost-enter_call g a = (g.s.0, with_first g.s.1 a.parts.items)

abbrev pub ghost-conclude : goal.ghost-conclude
ghost-conclude g a = (g.s.0, (a.others.now, a.resumed.now))
