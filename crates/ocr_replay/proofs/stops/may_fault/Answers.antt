use Rattle.ocr_replay.proofs.Some.{fault_by}
use Rattle.ocr_replay.proofs.stops.may_fault.Goals as goal

pub returns : goal.returns
returns c = λ s past rows front. fault_by s past rows c.args.table.now c.args.verdicts.now c.args.edt c.args.fault c.fault_of-why.result c.stops.result c.fault_of-why.ensures front (c.stops.ensures s past rows front)
