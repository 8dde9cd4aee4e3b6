use Rattle.ocr_tests_stops.proofs.Made.{may_close, may_give_up}
use Rattle.ocr_tests_stops.proofs.closer.act.Goals as goal

pub lower-requires-clause-may : goal.lower-requires-clause-may
lower-requires-clause-may c = may_give_up c.args.turns.now c.args.clerk.now c.requires

pub close-requires-clause-may : goal.close-requires-clause-may
close-requires-clause-may c = λ _. may_close c.args.turns.now c.args.clerk.now c.requires
