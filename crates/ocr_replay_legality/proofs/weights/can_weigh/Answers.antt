use Rattle.ocr_replay_legality.proofs.Asks.{weigh}
use Rattle.ocr_replay_legality.proofs.weights.can_weigh.Goals as goal

pub returns : goal.returns
returns c = λ s past of run roomy. weigh s past c.args.table.now c.args.room c.args.edt c.args.call.now c.args.count c.args.weight c.accepts-done.result c.may_ask-may.result c.weighs_so-so.result c.both.result of run roomy c.accepts-done.ensures c.may_ask-may.ensures c.weighs_so-so.ensures c.both.ensures
