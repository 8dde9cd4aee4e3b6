use Rattle.std.proofs.Common.{◌∙◌}
use Rattle.ocr_machine_effects.proofs.Places.{ok_with}
use Rattle.ocr_machine_state.proofs.Tables.{depv_is}
use Rattle.ocr_machine_state.proofs.state.State.depv.Goals as goal

pub returns : goal.returns
returns c = ok_with c.depv_here.result c.depv_here.ensures (λ v is. λ s past of running. is ∙ depv_is s past c.args.self.now c.args.edt of running)
