use Rattle.std.proofs.Common.{◌≡◌, ◌∙◌, ◌+◌, ◌∷◌, [], ℕ, List, length, Some, refl, ap, sym, subst, arith}
use Rattle.std.specs.Prelude.{OnOk}
use Rattle.ocr_body_meaning.specs.Behaviour.{IsNextWith}
use Rattle.ocr_body_meaning.specs.Body.{says}
use Rattle.ocr_body_meaning.specs.Holds.{private_of}
use Rattle.ocr_body_meaning.specs.declared.call.Call as body
use Rattle.ocr_machine_history.specs.declared.entry.Entry.{Entry}
use Rattle.ocr_machine_history.specs.declared.entry.What.{What}
use Rattle.ocr_machine_parts.specs.declared.part.Part.{Part}
use Rattle.ocr_machine_parts.specs.declared.part.Part.TheVariants as part
use Rattle.ocr_turns_rule.specs.Sums.{find}
use Rattle.ocr_worker_machine.specs.Clerks.{IsStep, OcrView}
use Rattle.ocr_worker_machine.specs.Ocr.{wakes}
use Rattle.ocr_worker_clerk.specs.Entry.{CanMake, OcrKnown}
use Rattle.ocr_worker_clerk.specs.Work.{EntersAs, in_hand}
use Rattle.ocr_worker_clerk.proofs.Push.{entered_readies, pushes_ok}
use Rattle.ocr_worker_access.specs.Access.{AreOthers, HasEntered, IsCalled, holds_at, home_at}
use Rattle.ocr_worker_access.specs.Served.{own_log}
use Rattle.ocr_worker_calls.specs.Creation.{HasAtHand, IsMadeOf, call_of, made_answer, made_entry}
use Rattle.ocr_worker_calls.proofs.Created.{called, core_found, face_found, has_entered, mid_at_hand, mid_can, mid_duties, mid_step, others_at}
use Rattle.ocr_worker_calls.proofs.Makes.{called_so}
use Rattle.ocr_worker_clerk.proofs.Whole.{lifted_work}
use Rattle.ocr_worker_calls.proofs.creation.enter_new.Goals as goal

pub put_new-requires-clause-face : goal.put_new-requires-clause-face
put_new-requires-clause-face g c =
    let r = c.requires.1.1 in let a = c.args in let t = a.job.now.turns.now.1 in
    let next = subst (λ (k : body.Call). IsNextWith k (private_of k (holds_at g.s.1.0)) (says g.s.0 (own_log g.s.1.0.view.log a.edt))) r.1.1.1.1.0 r.1.1.1.0 in
    let home = subst (λ (k : body.Call). home_at g.s.1.0 k ≡ 0) r.1.1.1.1.0 r.1.1.1.1.1.1.0 in
    let hand = subst (λ (k : OcrKnown). HasAtHand t a.edt g.s.1.0 k (a.bare.now.template ∷ a.new ∷ (t.limit + a.new) ∷ []) (a.new ∷ [])) r.0 r.1.1.1.1.1.1.1.1.0 in
    let found = subst (λ (k : OcrKnown). find a.bare.now.template k.parts ≡ Some (Some (part.Template a.made.now))) r.0 r.1.1.1.1.1.1.1.1.1.0 in
    face_found a.job.now.turns.now a.job.now.program.now a.edt g.s.0 g.s.1.0 a.clerk.now a.bare.now a.made.now a.slots a.new r.1.0 r.1.1.0 next r.1.1.1.1.1.0 home r.1.1.1.1.1.1.1.0.0 r.1.1.1.1.1.1.1.0.1 hand found r.1.1.1.1.1.1.1.1.1.1

pub put_new-requires-clause-core : goal.put_new-requires-clause-core
put_new-requires-clause-core g c =
    let r = c.requires.1.1 in let a = c.args in let t = a.job.now.turns.now.1 in
    let next = subst (λ (k : body.Call). IsNextWith k (private_of k (holds_at g.s.1.0)) (says g.s.0 (own_log g.s.1.0.view.log a.edt))) r.1.1.1.1.0 r.1.1.1.0 in
    let home = subst (λ (k : body.Call). home_at g.s.1.0 k ≡ 0) r.1.1.1.1.0 r.1.1.1.1.1.1.0 in
    let hand = subst (λ (k : OcrKnown). HasAtHand t a.edt g.s.1.0 k (a.bare.now.template ∷ a.new ∷ (t.limit + a.new) ∷ []) (a.new ∷ [])) r.0 r.1.1.1.1.1.1.1.1.0 in
    let found = subst (λ (k : OcrKnown). find a.bare.now.template k.parts ≡ Some (Some (part.Template a.made.now))) r.0 r.1.1.1.1.1.1.1.1.1.0 in
    subst (λ (k : ℕ). (x : Part) × (find (k + a.new) a.clerk.now.parts ≡ Some (Some x))) (sym c.limit-limit.ensures) (core_found a.job.now.turns.now a.job.now.program.now a.edt g.s.0 g.s.1.0 a.clerk.now a.bare.now a.made.now a.slots a.new r.1.0 r.1.1.0 next r.1.1.1.1.1.0 home r.1.1.1.1.1.1.1.0.0 r.1.1.1.1.1.1.1.0.1 hand found r.1.1.1.1.1.1.1.1.1.1)

pub enter_at_hand-requires : goal.enter_at_hand-requires
enter_at_hand-requires g c κs within =
    let r = c.requires.1.1 in let a = c.args in let t = a.job.now.turns.now.1 in
    let next = subst (λ (k : body.Call). IsNextWith k (private_of k (holds_at g.s.1.0)) (says g.s.0 (own_log g.s.1.0.view.log a.edt))) r.1.1.1.1.0 r.1.1.1.0 in
    let home = subst (λ (k : body.Call). home_at g.s.1.0 k ≡ 0) r.1.1.1.1.0 r.1.1.1.1.1.1.0 in
    let hand = subst (λ (k : OcrKnown). HasAtHand t a.edt g.s.1.0 k (a.bare.now.template ∷ a.new ∷ (t.limit + a.new) ∷ []) (a.new ∷ [])) r.0 r.1.1.1.1.1.1.1.1.0 in
    let found = subst (λ (k : OcrKnown). find a.bare.now.template k.parts ≡ Some (Some (part.Template a.made.now))) r.0 r.1.1.1.1.1.1.1.1.1.0 in
    let put = subst (λ (k : ℕ). IsMadeOf k a.new a.bare.now a.made.now.function a.slots a.clerk.now.parts c.put_new.new.clerk.parts) c.limit-limit.ensures c.in-Ok.ensures.parts in
    let e_is : c.in-Ok-new_entry.entry ≡ made_entry a.edt (call_of a.bare.now) a.new = c.in-Ok-new_entry.ensures in
    let none = c.new.ensures.items in let rest = c.put_new.ensures.rest in (
      within.0,
      (
        within.1,
        (
          lifted_work a.job.now.turns.now a.job.now.program.now a.clerk.now c.put_new.new.clerk r.1.0 rest.0 rest.1 rest.2 rest.3,
          (
            mid_at_hand a.job.now.turns.now a.job.now.program.now a.edt g.s.0 g.s.1.0 a.clerk.now a.bare.now a.made.now a.slots a.new r.1.0 r.1.1.0 next r.1.1.1.1.1.0 home r.1.1.1.1.1.1.1.0.0 r.1.1.1.1.1.1.1.0.1 hand found r.1.1.1.1.1.1.1.1.1.1 c.put_new.new.clerk c.put_new.ensures.rest.1 put,
            (
              subst (λ (e : Entry). (was : List (ℕ × Part)) × CanMake t c.put_new.new.clerk.view e (record { members = []; parts = in_hand g.s.1.1.parts }) was) (sym e_is)
                  (subst (λ (k : OcrKnown). (was : List (ℕ × Part)) × CanMake t c.put_new.new.clerk.view (made_entry a.edt (call_of a.bare.now) a.new) (record { members = []; parts = in_hand k.parts }) was) (sym r.0) (mid_can a.job.now.turns.now a.job.now.program.now a.edt g.s.0 g.s.1.0 a.clerk.now a.bare.now a.made.now a.slots a.new r.1.0 r.1.1.0 next r.1.1.1.1.1.0 home r.1.1.1.1.1.1.1.0.0 r.1.1.1.1.1.1.1.0.1 hand found r.1.1.1.1.1.1.1.1.1.1 c.put_new.new.clerk c.put_new.ensures.rest.1 put)),
              (
                subst (λ (l : List What). IsStep t.limit c.in-Ok-new_entry.entry [] (in_hand g.s.1.1.parts) (in_hand c.put_new.new.clerk.parts) l) (sym none)
                    (subst (λ (e : Entry). IsStep t.limit e [] (in_hand g.s.1.1.parts) (in_hand c.put_new.new.clerk.parts) []) (sym e_is)
                    (subst (λ (k : OcrKnown). IsStep t.limit (made_entry a.edt (call_of a.bare.now) a.new) [] (in_hand k.parts) (in_hand c.put_new.new.clerk.parts) []) (sym r.0) (mid_step a.job.now.turns.now a.job.now.program.now a.edt g.s.0 g.s.1.0 a.clerk.now a.bare.now a.made.now a.slots a.new r.1.0 r.1.1.0 next r.1.1.1.1.1.0 home r.1.1.1.1.1.1.1.0.0 r.1.1.1.1.1.1.1.0.1 hand found r.1.1.1.1.1.1.1.1.1.1 c.put_new.new.clerk c.put_new.ensures.rest.1 put))),
                (
                  (let l = ap (λ (l : List What). length l) none in omega (arith, l)),
                  (
                    mid_duties a.job.now.turns.now a.job.now.program.now a.edt g.s.0 g.s.1.0 a.clerk.now a.bare.now a.made.now a.slots a.new r.1.0 r.1.1.0 next r.1.1.1.1.1.0 home r.1.1.1.1.1.1.1.0.0 r.1.1.1.1.1.1.1.0.1 hand found r.1.1.1.1.1.1.1.1.1.1 c.put_new.new.clerk c.put_new.ensures.rest.1 put,
                    subst (λ (e : Entry). wakes t.limit e c.put_new.new.clerk.view.parts ≡ []) (sym e_is) refl,
                  ),
                ),
              ),
            ),
          ),
        ),
      ),
    )

pub conclude-requires : goal.conclude-requires
conclude-requires g c κs within =
    let r = c.requires.1.1 in let a = c.args in let t = a.job.now.turns.now.1 in
    let next = subst (λ (k : body.Call). IsNextWith k (private_of k (holds_at g.s.1.0)) (says g.s.0 (own_log g.s.1.0.view.log a.edt))) r.1.1.1.1.0 r.1.1.1.0 in
    let home = subst (λ (k : body.Call). home_at g.s.1.0 k ≡ 0) r.1.1.1.1.0 r.1.1.1.1.1.1.0 in
    let hand = subst (λ (k : OcrKnown). HasAtHand t a.edt g.s.1.0 k (a.bare.now.template ∷ a.new ∷ (t.limit + a.new) ∷ []) (a.new ∷ [])) r.0 r.1.1.1.1.1.1.1.1.0 in
    let found = subst (λ (k : OcrKnown). find a.bare.now.template k.parts ≡ Some (Some (part.Template a.made.now))) r.0 r.1.1.1.1.1.1.1.1.1.0 in
    let put = subst (λ (k : ℕ). IsMadeOf k a.new a.bare.now a.made.now.function a.slots a.clerk.now.parts c.put_new.new.clerk.parts) c.limit-limit.ensures c.in-Ok.ensures.parts in
    let e_is : c.in-Ok-new_entry.entry ≡ made_entry a.edt (call_of a.bare.now) a.new = c.in-Ok-new_entry.ensures in
    let done = subst (λ (k : OcrKnown). EntersAs t c.put_new.new.clerk c.enter_at_hand.new.clerk (made_entry a.edt (call_of a.bare.now) a.new) (record { members = []; parts = in_hand k.parts })) r.0
    (subst (λ (e : Entry). EntersAs t c.put_new.new.clerk c.enter_at_hand.new.clerk e (record { members = []; parts = in_hand g.s.1.1.parts })) e_is c.in_ok-enter_at_hand.ensures.entered) in
    let e = c.in_ok-enter_at_hand.ensures in (
      within.0,
      (
        within.1,
        (
          (refl, refl),
          (
            e.work,
            (
              subst (λ (k : ℕ). HasEntered t a.edt g.s.0 c.enter_at_hand.new.clerk (a.bare.now.template ∷ a.new ∷ (k + a.new) ∷ []) ((a.new, a.slots) ∷ []) []) (sym c.limit-limit.ensures) (has_entered a.job.now.turns.now a.job.now.program.now a.edt g.s.0 g.s.1.0 a.clerk.now a.bare.now a.made.now a.slots a.new r.1.0 r.1.1.0 next r.1.1.1.1.1.0 home r.1.1.1.1.1.1.1.0.0 r.1.1.1.1.1.1.1.0.1 hand found r.1.1.1.1.1.1.1.1.1.1 c.put_new.new.clerk c.put_new.ensures.rest.1 put c.enter_at_hand.new.clerk done),
              subst (λ (k : ℕ). AreOthers t a.edt (a.bare.now.template ∷ a.new ∷ (k + a.new) ∷ [])) (sym c.limit-limit.ensures) (others_at a.job.now.turns.now a.job.now.program.now a.edt g.s.0 g.s.1.0 a.clerk.now a.bare.now a.made.now a.slots a.new r.1.0 r.1.1.0 next r.1.1.1.1.1.0 home r.1.1.1.1.1.1.1.0.0 r.1.1.1.1.1.1.1.0.1 hand found r.1.1.1.1.1.1.1.1.1.1),
            ),
          ),
        ),
      ),
    )

pub returns-clause-pushed : goal.returns-clause-pushed
returns-clause-pushed g c =
    let a = c.args in let new = c.enter_at_hand.new.clerk in
    let none = entered_readies a.job.now.turns.now.1 c.put_new.new.clerk new c.in-Ok-new_entry.entry (record { members = []; parts = in_hand g.s.1.1.parts }) c.in_ok-enter_at_hand.ensures.entered
    ∙ ap (λ (v : OcrView). v.debts.readied) c.put_new.ensures.rest.1 in
    pushes_ok c.conclude.result a.clerk.now new c.conclude.new.clerk a.hand.now c.conclude.new.hand none c.conclude.ensures.pushed

pub returns-clause-called : goal.returns-clause-called
returns-clause-called g c =
    let r = c.requires.1.1 in let a = c.args in let t = a.job.now.turns.now.1 in
    let next = subst (λ (k : body.Call). IsNextWith k (private_of k (holds_at g.s.1.0)) (says g.s.0 (own_log g.s.1.0.view.log a.edt))) r.1.1.1.1.0 r.1.1.1.0 in
    let home = subst (λ (k : body.Call). home_at g.s.1.0 k ≡ 0) r.1.1.1.1.0 r.1.1.1.1.1.1.0 in
    let hand = subst (λ (k : OcrKnown). HasAtHand t a.edt g.s.1.0 k (a.bare.now.template ∷ a.new ∷ (t.limit + a.new) ∷ []) (a.new ∷ [])) r.0 r.1.1.1.1.1.1.1.1.0 in
    let found = subst (λ (k : OcrKnown). find a.bare.now.template k.parts ≡ Some (Some (part.Template a.made.now))) r.0 r.1.1.1.1.1.1.1.1.1.0 in
    let put = subst (λ (k : ℕ). IsMadeOf k a.new a.bare.now a.made.now.function a.slots a.clerk.now.parts c.put_new.new.clerk.parts) c.limit-limit.ensures c.in-Ok.ensures.parts in
    let e_is : c.in-Ok-new_entry.entry ≡ made_entry a.edt (call_of a.bare.now) a.new = c.in-Ok-new_entry.ensures in
    let done = subst (λ (k : OcrKnown). EntersAs t c.put_new.new.clerk c.enter_at_hand.new.clerk (made_entry a.edt (call_of a.bare.now) a.new) (record { members = []; parts = in_hand k.parts })) r.0
    (subst (λ (e : Entry). EntersAs t c.put_new.new.clerk c.enter_at_hand.new.clerk e (record { members = []; parts = in_hand g.s.1.1.parts })) e_is c.in_ok-enter_at_hand.ensures.entered) in
    subst (λ (k : body.Call). OnOk c.conclude.result (IsCalled a.edt k (made_answer a.new) g.s.1.0 c.conclude.new.clerk)) (sym r.1.1.1.1.0)
    (called_so c.conclude.result a.edt (call_of a.bare.now) (made_answer a.new) g.s.1.0 g.s.1.0 c.enter_at_hand.new.clerk c.conclude.new.clerk c.conclude.ensures.log c.conclude.ensures.holds (called a.job.now.turns.now a.job.now.program.now a.edt g.s.0 g.s.1.0 a.clerk.now a.bare.now a.made.now a.slots a.new r.1.0 r.1.1.0 next r.1.1.1.1.1.0 home r.1.1.1.1.1.1.1.0.0 r.1.1.1.1.1.1.1.0.1 hand found r.1.1.1.1.1.1.1.1.1.1 c.put_new.new.clerk c.put_new.ensures.rest.1 put c.enter_at_hand.new.clerk done) refl refl)
