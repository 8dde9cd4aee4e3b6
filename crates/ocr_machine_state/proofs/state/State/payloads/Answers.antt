use Rattle.std.proofs.Common.{◌∙◌}
use Rattle.ocr_machine_effects.proofs.Places.{ok_with}
use Rattle.ocr_machine_state.proofs.Tables.{payloads_are}
use Rattle.ocr_machine_state.proofs.state.State.payloads.Goals as goal

pub returns : goal.returns
returns c = ok_with c.payloads_here.result c.payloads_here.ensures (λ v is. λ s past of. is ∙ payloads_are s past c.args.self.now c.args.edt of)
