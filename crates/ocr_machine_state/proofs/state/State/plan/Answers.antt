use Rattle.std.proofs.Common.{◌∙◌}
use Rattle.ocr_machine_effects.proofs.Places.{ok_with}
use Rattle.ocr_machine_state.proofs.Tables.{plan_is}
use Rattle.ocr_machine_state.proofs.state.State.plan.Goals as goal

pub returns-clause-plan : goal.returns-clause-plan
returns-clause-plan c = ok_with c.plan_here.result c.plan_here.ensures.plan (λ p is. λ s past of. is ∙ plan_is s past c.args.self.now c.args.edt of)
