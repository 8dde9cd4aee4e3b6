use Rattle.ocr_tests_count.proofs.SoloSteps.{over}
use Rattle.ocr_tests_count.proofs.life.destroy.Goals as goal

pub drop_claim-requires-clause-over : goal.drop_claim-requires-clause-over
drop_claim-requires-clause-over c = over c.args.turns.now c.args.clerk.now c.enter.new.clerk (c.in_ok-enter.ensures c.if-not-branch.false).0
