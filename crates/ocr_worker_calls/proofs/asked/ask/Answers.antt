use Rattle.std.proofs.Common.{◌≡◌, ◌≤◌, ◌+◌, ℕ, List, [], ◌∷◌, length, Option, Some, ap, sym, ◌∙◌, subst, arith}
use Rattle.std.specs.List.{All}
use Rattle.ocr_machine_parts.specs.declared.part.Part.{Part}
use Rattle.ocr_machine_parts.specs.declared.part.Part.TheVariants as part
use Rattle.ocr_machine_parts.specs.Codes.{code_of}
use Rattle.ocr_machine_parts.specs.Taken.{face_in}
use Rattle.ocr_worker_clerk.specs.Work.{Took}
use Rattle.ocr_worker_clerk.proofs.Whole.{lifted_length, lifted_work}
use Rattle.ocr_worker_access.specs.Calls.{faces_of, home_for}
use Rattle.ocr_worker_access.specs.Access.{first_in}
use Rattle.ocr_worker_access.proofs.Asked.{faces_few, faces_low, home_none, lifted_is, rest_is, taken_at_hand, taken_once, took_is}
use Rattle.ocr_worker_calls.proofs.asked.ask.Goals as goal

pub core_at-requires : goal.core_at-requires
core_at-requires g c =
    let r = c.requires.1.1 in
    let at : c.limit-limit.result + c.edt.inside.0 ≡ c.args.job.now.turns.now.1.limit + c.args.edt = λ i. c.limit-limit.ensures i + c.edt.view_is i in
    (r.1.0.core, subst (λ (n : ℕ). c.args.clerk.now.parts ≡ (n, Some (part.Core r.1.0.core)) ∷ []) (sym at) r.1.0.hand)

pub take_parts-requires-clause-places : goal.take_parts-requires-clause-places
take_parts-requires-clause-places g c =
    let L = c.args.job.now.turns.now.1.limit in let call = c.args.call.now in let home = c.home_for-home.result in
    let listed : c.deref.result.now ≡ (L + c.args.edt) ∷ faces_of L home call = c.deref.ensures ∙ (c.in-Ok-named_places.ensures.places ∙ ap (λ (n : ℕ). (n + c.args.edt) ∷ faces_of n home call) c.limit-limit.ensures) in
    subst (All (λ p. p ≤ L + L)) (sym (rest_is c.deref.result.now (L + c.args.edt) (faces_of L home call) listed)) (faces_low L home call (λ off. c.home_for-home.ensures ∙ home_none call (part.Core c.core_at.result.now) off))

pub take_parts-requires-clause-room : goal.take_parts-requires-clause-room
take_parts-requires-clause-room g c =
    let L = c.args.job.now.turns.now.1.limit in let call = c.args.call.now in let home = c.home_for-home.result in let r = c.requires.1.1 in
    let listed : c.deref.result.now ≡ (L + c.args.edt) ∷ faces_of L home call = c.deref.ensures ∙ (c.in-Ok-named_places.ensures.places ∙ ap (λ (n : ℕ). (n + c.args.edt) ∷ faces_of n home call) c.limit-limit.ensures) in
    let one = ap (λ (l : List (ℕ × Option Part)). length l) r.1.0.hand in
    let rest = ap (λ (l : List ℕ). length l) (rest_is c.deref.result.now (L + c.args.edt) (faces_of L home call) listed) in
    let few = faces_few L home call r.1.1 in omega (arith, one, rest, few)

pub lift_parts-requires-clause-hand : goal.lift_parts-requires-clause-hand
lift_parts-requires-clause-hand g c =
    let t = c.args.job.now.turns.now.1 in let L = t.limit in let call = c.args.call.now in let home = c.home_for-home.result in let r = c.requires.1.1 in
    let named = c.in-Ok-named_places.ensures.places ∙ ap (λ (n : ℕ). (n + c.args.edt) ∷ faces_of n home call) c.limit-limit.ensures in
    let took = subst (Took c.args.clerk.now c.take_parts.new.clerk) (rest_is c.deref.result.now (L + c.args.edt) (faces_of L home call) (c.deref.ensures ∙ named)) c.in_ok-take_parts.ensures.took in
    taken_at_hand t c.args.edt c.args.clerk.now c.take_parts.new.clerk (faces_of L home call) c.deref-2.result.now (took_is t c.args.edt g.b c.args.clerk.now c.take_parts.new.clerk (faces_of L home call) r.1.0 took) (c.deref-2.ensures ∙ named)

pub lift_parts-requires-clause-once : goal.lift_parts-requires-clause-once
lift_parts-requires-clause-once g c =
    let t = c.args.job.now.turns.now.1 in let L = t.limit in let call = c.args.call.now in let home = c.home_for-home.result in let r = c.requires.1.1 in
    let named = c.in-Ok-named_places.ensures.places ∙ ap (λ (n : ℕ). (n + c.args.edt) ∷ faces_of n home call) c.limit-limit.ensures in
    let took = subst (Took c.args.clerk.now c.take_parts.new.clerk) (rest_is c.deref.result.now (L + c.args.edt) (faces_of L home call) (c.deref.ensures ∙ named)) c.in_ok-take_parts.ensures.took in
    taken_once c.args.job.now.turns.now c.args.job.now.program.now c.args.edt c.args.clerk.now c.take_parts.new.clerk (faces_of L home call) (took_is t c.args.edt g.b c.args.clerk.now c.take_parts.new.clerk (faces_of L home call) r.1.0 took) c.in_ok-take_parts.ensures.work

pub returns-clause-work : goal.returns-clause-work
returns-clause-work g c =
    let e = c.in-Ok-lift_parts.ensures in
    lifted_work c.args.job.now.turns.now c.args.job.now.program.now c.take_parts.new.clerk c.lift_parts.new.clerk c.in_ok-take_parts.ensures.work e.same.0 e.same.1 e.same.2 (ap (λ (l : List (ℕ × Option Part)). length l) e.left ∙ lifted_length c.take_parts.new.clerk.parts)

pub returns-clause-lifted : goal.returns-clause-lifted
returns-clause-lifted g c =
    let t = c.args.job.now.turns.now.1 in let L = t.limit in let call = c.args.call.now in let home = c.home_for-home.result in let r = c.requires.1.1 in
    let e = c.in-Ok-lift_parts.ensures in
    let named = c.in-Ok-named_places.ensures.places ∙ ap (λ (n : ℕ). (n + c.args.edt) ∷ faces_of n home call) c.limit-limit.ensures in
    let took = subst (Took c.args.clerk.now c.take_parts.new.clerk) (rest_is c.deref.result.now (L + c.args.edt) (faces_of L home call) (c.deref.ensures ∙ named)) c.in_ok-take_parts.ensures.took in
    lifted_is t c.args.edt c.args.clerk.now c.take_parts.new.clerk c.lift_parts.new.clerk (faces_of L home call) c.in-Ok-lift_parts.parts.items (took_is t c.args.edt g.b c.args.clerk.now c.take_parts.new.clerk (faces_of L home call) r.1.0 took) r.1.0.taken.drawn e.same.1 e.parts e.left

pub returns-clause-code : goal.returns-clause-code
returns-clause-code g c =
    let e1 = c.limit-limit.ensures in let e2 = c.deref-3.ensures.value in
    c.decide-code.ensures ∙ (λ i. code_of c.args.edt (face_in (e1 i) (e2 i)) c.args.call.now)

pub returns-clause-home : goal.returns-clause-home
returns-clause-home g c = c.home_for-home.ensures ∙ sym (ap (λ (l : List (ℕ × Option Part)). home_for c.args.call.now (first_in l)) c.core_at.ensures)
