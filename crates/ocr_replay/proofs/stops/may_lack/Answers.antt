use Rattle.ocr_replay.proofs.Some.{objects_by}
use Rattle.ocr_replay.proofs.stops.may_lack.Goals as goal

pub returns : goal.returns
returns c = λ s past rows front. objects_by s past rows c.args.table.now c.args.verdicts.now c.some_creates.result front (c.some_creates.ensures s past rows front)
