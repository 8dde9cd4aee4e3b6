use Rattle.ocr_replay_legality.proofs.CallTests.{free_answered}
use Rattle.ocr_replay_legality.proofs.entries.may_free.Goals as goal

pub returns : goal.returns
returns c = λ s past of run w. free_answered s past c.args.table.now c.args.edt c.args.block c.both.result c.is_running-running.result c.is_this-here.result c.least_held.result c.both.ensures c.is_running-running.ensures c.is_this-here.ensures c.least_held.ensures of run w
