use Rattle.ocr_machine_state.proofs.Tables.{full_is}
use Rattle.ocr_machine_state.proofs.state.State.is_full.Goals as goal

pub returns : goal.returns
returns c = λ s past of. rw c.is_full_here.ensures (full_is s past c.args.self.now c.args.edt of)
