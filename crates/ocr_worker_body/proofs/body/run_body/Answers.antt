use Rattle.ocr_worker_clerk.proofs.Push.{pushes_ok}
use Rattle.ocr_worker_body.proofs.body.run_body.Goals as goal

pub returns-clause-pushed : goal.returns-clause-pushed
returns-clause-pushed g c = pushes_ok c.run_given.result c.args.clerk.now c.begin.new.clerk c.run_given.new.clerk c.args.hand.now c.run_given.new.hand c.in_ok-given.ensures.readied c.run_given.ensures.pushed
