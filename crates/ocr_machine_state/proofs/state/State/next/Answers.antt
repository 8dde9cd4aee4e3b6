use Rattle.std.proofs.Common.{◌∙◌}
use Rattle.ocr_machine_effects.proofs.Places.{ok_with}
use Rattle.ocr_machine_state.proofs.Tables.{next_is}
use Rattle.ocr_machine_state.proofs.state.State.next.Goals as goal

pub returns : goal.returns
returns c = ok_with c.next_here.result c.next_here.ensures (λ n is. λ s past of. is ∙ next_is s past c.args.self.now c.args.edt of)
