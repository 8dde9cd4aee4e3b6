use Rattle.ocr_worker_clerk.proofs.Goes.{stays_both}
use Rattle.ocr_worker_acquisition.proofs.acquisition.further_rounds.Goals as goal

pub returns-in_err-payloads-clause-stays : goal.returns-in_err-payloads-clause-stays
returns-in_err-payloads-clause-stays g c = stays_both c.args.clerk.now c.loop.clerk c.round.new.clerk c.loop.invariant.5 c.round.ensures.stays

pub returns-in-Ready-clause-stays : goal.returns-in-Ready-clause-stays
returns-in-Ready-clause-stays g c = stays_both c.args.clerk.now c.loop.clerk c.round.new.clerk c.loop.invariant.5 c.round.ensures.stays

pub returns-in-Parked-clause-stays : goal.returns-in-Parked-clause-stays
returns-in-Parked-clause-stays g c = stays_both c.args.clerk.now c.loop.clerk c.round.new.clerk c.loop.invariant.5 c.round.ensures.stays
