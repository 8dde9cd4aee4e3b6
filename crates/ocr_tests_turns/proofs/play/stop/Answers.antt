use Rattle.std.proofs.Common.{ap, arith}
use Rattle.ocr_tests_turns.proofs.Adds.{may_stop}
use Rattle.ocr_tests_turns.proofs.play.stop.Goals as goal

pub close-requires-clause-may : goal.close-requires-clause-may
close-requires-clause-may c = λ goes. may_stop c.args.turns.now.1 c.raise.new.clerk.view (let more = ap (λ v. v.spares) c.raise.ensures.view in omega arith)
