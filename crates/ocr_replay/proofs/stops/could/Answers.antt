use Rattle.ocr_replay.proofs.Some.{could_by}
use Rattle.ocr_replay.proofs.stops.could.Goals as goal

pub returns : goal.returns
returns c = λ s past rows front roomy. could_by s past c.args.edt c.args.weight c.is_one-one.result c.in_ok-wakes.wakes c.both-goes.result c.runs_weighed-runs.result c.either.result
    c.is_one-one.ensures (c.in_ok-wakes.ensures s past front.of front.run) c.both-goes.ensures (c.runs_weighed-runs.ensures s past rows front roomy) c.either.ensures
