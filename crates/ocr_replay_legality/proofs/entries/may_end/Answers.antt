use Rattle.ocr_replay_legality.proofs.CallTests.{end_answered}
use Rattle.ocr_replay_legality.proofs.entries.may_end.Goals as goal

pub returns : goal.returns
returns c = λ s past of run g. end_answered s past c.args.table.now c.args.edt c.both.result c.is_running-running.result c.is_nothing-here.result c.least_held.result c.both.ensures c.is_running-running.ensures c.is_nothing-here.ensures c.least_held.ensures of run g
