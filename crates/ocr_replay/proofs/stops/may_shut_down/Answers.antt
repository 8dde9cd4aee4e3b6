use Rattle.ocr_replay.proofs.Some.{shutdown_by}
use Rattle.ocr_replay.proofs.stops.may_shut_down.Goals as goal

pub returns : goal.returns
returns c = λ s past rows front. shutdown_by s past rows c.args.table.now c.args.verdicts.now c.args.edt c.stops.result front (c.stops.ensures s past rows front)
