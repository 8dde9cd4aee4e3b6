use Rattle.ocr_tests_count.proofs.SoloSteps.{may_stop}
use Rattle.ocr_tests_count.proofs.life.stop.Goals as goal

pub close-requires-clause-may : goal.close-requires-clause-may
close-requires-clause-may c = λ goes. may_stop c.args.turns.now.1 c.args.clerk.now.view c.requires.unit
