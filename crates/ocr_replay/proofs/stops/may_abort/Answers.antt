use Rattle.ocr_replay.proofs.Some.{abort_by}
use Rattle.ocr_replay.proofs.stops.may_abort.Goals as goal

pub returns : goal.returns
returns c = λ s past rows front. abort_by s past rows c.args.table.now c.args.verdicts.now c.args.edt c.args.code c.stops.result front (c.stops.ensures s past rows front)
