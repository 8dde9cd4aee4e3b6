use Rattle.std.proofs.Common.{◌≡◌, ◌∙◌, ◌+◌, ℕ, List, ap, subst}
use Rattle.ocr_machine_parts.specs.Effects.{settled_core}
use Rattle.ocr_slots.specs.declared.Slot.{Slot}
use Rattle.ocr_worker_body.specs.Given.{are_used}
use Rattle.ocr_worker_body.specs.Start.{IsRead, StepsCore}
use Rattle.ocr_worker_body.proofs.Givens.{face_same, given_is}
use Rattle.ocr_worker_body.proofs.given.begin.Goals as goal

pub returns-clause-given : goal.returns-clause-given
returns-clause-given g c =
    let a = c.args in let T = a.job.now.turns.now in let P = a.job.now.program.now in
    let place_is : c.limit.result + c.edt-2.inside.0 ≡ T.1.limit + a.edt = λ i. c.limit.ensures i + c.edt-2.view_is i in
    let steps = subst (λ (n : ℕ). StepsCore n settled_core c.start.new.clerk c.settle_core.new.clerk) place_is c.settle_core.ensures in
    let read = subst (λ (n : ℕ). IsRead n c.deref.result.now a.payloads.now c.in-Ok-read_given.given c.settle_core.new.clerk) place_is c.in-Ok-read_given.ensures in
    let used_is = c.deref.ensures.value ∙ (c.in-Ok.ensures ∙ ap (λ (s : List Slot). are_used s) (face_same T P a.edt c.edt.inside.0 a.payloads.now a.clerk.now c.slots_at.result.now c.requires.work c.requires.can c.edt.view_is c.slots_at.ensures)) in
    given_is T P a.edt a.payloads.now a.clerk.now c.start.new.clerk c.settle_core.new.clerk c.in_ok-start.ensures.work c.requires.can c.in_ok-start.ensures.begun steps c.in-Ok-read_given.given c.deref.result.now used_is read
