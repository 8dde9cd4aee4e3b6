use Rattle.ocr_worker_clerk.proofs.Push.{none_then}
use Rattle.ocr_worker_calls.proofs.creation.create.Goals as goal

pub returns-clause-pushed : goal.returns-clause-pushed
returns-clause-pushed g c =
    none_then c.args.clerk.now c.take_both.new.clerk c.enter_new.new.clerk c.args.hand.now c.enter_new.new.hand c.in_ok-new.ensures.readied c.in_ok-enter_new.ensures.pushed
