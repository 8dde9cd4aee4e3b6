use Rattle.ocr_replay_legality.proofs.CallTests.{call_answered}
use Rattle.ocr_replay_legality.proofs.entries.may_call.Goals as goal

pub returns : goal.returns
returns c = λ s past of run w. call_answered s past c.args.table.now c.args.edt c.args.home c.args.call.now c.args.answer.now c.is_call_so.result c.is_call_so.ensures of run w
