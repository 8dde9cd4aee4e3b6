-- What an EDT holds after its call.
use Rattle.std.proofs.Common.{◌≡◌, ℕ, ◌/◌, not, List, [], Bool, true, false, Option, Some, None, ◌==◌, if◌then◌else◌, refl, sym, ◌∙◌, ap, subst, is_some, inl, inr}
use Rattle.std.proofs.lemmas.Bool.{eqb-true}
use Rattle.std.proofs.lemmas.Bool.Decides.{eqb_tells}
use Rattle.ocr_base.proofs.Booleans.{eqb_flips, same}
use Rattle.ocr_acquire.specs.declared.Mode.{Mode}
use Rattle.ocr_acquire.specs.declared.Mode.TheVariants as mode
use Rattle.ocr_edt.specs.declared.Edt.{Edt}
use Rattle.ocr_edt.specs.declared.Edt.TheVariants as phase
use Rattle.ocr_edt.specs.Phases.{without, placed_by, name_of}
use Rattle.ocr_edt.proofs.Holds as holds
use Rattle.ocr_body_meaning.specs.declared.call.Call as body
use Rattle.ocr_body_meaning.specs.declared.call.Call.TheVariants as call
use Rattle.ocr_body_meaning.specs.declared.call.Answer.{Answer}
use Rattle.ocr_machine_parts.specs.declared.part.Core.{Core}
use Rattle.ocr_machine_parts.specs.declared.part.Part.{Part}
use Rattle.ocr_machine_parts.specs.declared.part.Part.TheVariants as part
use Rattle.ocr_machine_parts.proofs.Lent.{kept_after_put, loan_kept}
use Rattle.ocr_machine_parts.proofs.After.{linked_core, deps_core}
use Rattle.ocr_acquire.specs.Mode.{mode_in}
use Rattle.ocr_body_meaning.specs.Holds.{after_call, creator_hold, is_done, with_hold}
use Rattle.ocr_machine_parts.specs.Bodies.{hold_of, holds_on}
use Rattle.ocr_machine_parts.specs.Effects.{joined, called, dropped_edt, dropping_core, holding_core, holding_edt}
use Rattle.ocr_machine_parts.specs.Kinds.{holds_of, is_running, kept_on, mode_on, on_core, work_in}
use Rattle.ocr_machine_parts.specs.Laws.{HoldsLaw}
use Rattle.ocr_machine_parts.specs.LegalOn.{IsCallOn}
use Rattle.ocr_machine_parts.specs.Loans.{kept_created}
use Rattle.ocr_machine_parts.specs.Parts.{Parts}
use Rattle.ocr_machine_parts.specs.declared.loans.Kept.{Kept}

-- MODES
mode_without : (g d : ℕ) (xs : List (ℕ × Mode)) → mode_in d (without g xs) ≡ (if g == d then None else mode_in d xs)
mode_without g d xs = elim (eqb_tells d g) [
  | inl q ↦ rw (eqb_flips g d ∙ q.0) (ap (λ (b : ℕ). mode_in b (without g xs)) q.1 ∙ holds.mode_in-without g xs)
  | inr q ↦ rw (eqb_flips g d ∙ q.0) (holds.mode_in-other g d xs q.0)
]

mode_holding : (g d : ℕ) (xs : List (ℕ × Mode)) → mode_in d (placed_by name_of (g, mode.Rw) (without g xs)) ≡ (if g == d then Some mode.Rw else mode_in d xs)
mode_holding g d xs = elim (eqb_tells d g) [
  | inl q ↦ rw (eqb_flips g d ∙ q.0) (ap (λ (b : ℕ). mode_in b (placed_by name_of (g, mode.Rw) (without g xs))) q.1 ∙ holds.mode_in-placed g mode.Rw (without g xs) (holds.mode_in-without g xs))
  | inr q ↦ rw (eqb_flips g d ∙ q.0) (holds.mode_in-placed_other g d mode.Rw (without g xs) q.0 ∙ holds.mode_in-other g d xs q.0)
]

-- THE CORE after the call
none_either : (b : Bool) → ◌≡◌ {A = Option Mode} None (if b then None else None)
none_either true = refl
none_either false = refl

edt_dropped_mode : (e : Edt) (g d : ℕ) → mode_in d (holds_of (work_in (dropped_edt g e))) ≡ (if g == d then None else mode_in d (holds_of (work_in e)))
edt_dropped_mode (phase.Running s) g d = mode_without g d s.holds
edt_dropped_mode other g d = none_either (g == d)

edt_held_mode : (e : Edt) (g d : ℕ) → is_some (work_in e) ≡ true → mode_in d (holds_of (work_in (holding_edt g e))) ≡ (if g == d then Some mode.Rw else mode_in d (holds_of (work_in e)))
edt_held_mode (phase.Running s) g d running = mode_holding g d s.holds
edt_held_mode other g d running = cc

core_dropped_mode : (x : Part) (g d : ℕ) → mode_on (on_core x (dropping_core g)) d ≡ (if g == d then None else mode_on x d)
core_dropped_mode (part.Core c) g d = edt_dropped_mode c.edt g d
core_dropped_mode other g d = none_either (g == d)

core_dropped_kept : (x : Part) (g d : ℕ) → (g == d) ≡ false → kept_on (on_core x (dropping_core g)) d ≡ kept_on x d
core_dropped_kept (part.Core c) g d apart = loan_kept g d c.loans apart
core_dropped_kept other g d apart = refl

core_held_mode : (x : Part) (g z d : ℕ) → is_running x ≡ true → mode_on (on_core x (holding_core g z)) d ≡ (if g == d then Some mode.Rw else mode_on x d)
core_held_mode (part.Core c) g z d running = edt_held_mode c.edt g d running
core_held_mode other g z d running = cc

core_held_kept : (x : Part) (g z d : ℕ) → is_running x ≡ true → kept_on (on_core x (holding_core g z)) d ≡ (if g == d then Some (kept_created z) else kept_on x d)
core_held_kept (part.Core c) g z d running = kept_after_put g d (kept_created z) c.loans
core_held_kept other g z d running = cc

same_core : (x : Part) → on_core x (λ c. c) ≡ x
same_core (part.Core c) = refl
same_core other = refl

-- a number that has no core is not the number of the EDT that runs
other_number : (f : Parts) (t : ℕ) (a : Answer) → f.core a.value ≡ part.Vacant → is_running (f.core t) ≡ true → (a.value == t) ≡ false
other_number f t a none running = elim (a.value == t) as (λ b. (a.value == t) ≡ b → b ≡ false) [
  | true ↦ λ here. absurd (let gone : f.core t ≡ part.Vacant = subst (λ (k : ℕ). f.core k ≡ part.Vacant) (eqb-true a.value t here) none in cc (sym (ap is_running gone) ∙ running))
  | false ↦ λ _. refl
] refl

-- HOLDS
not_held : (k : Option Kept) → hold_of None k ≡ None
not_held None = refl
not_held (Some k) = refl

no_hold : (m : Option Mode) (k : Option Kept) → m ≡ None → hold_of m k ≡ None
no_hold m k is = ap (λ (o : Option Mode). hold_of o k) is ∙ not_held k

none_if : (b : Bool) (x : Option Mode) → b ≡ true → ◌≡◌ {A = Option Mode} (if b then None else x) None
none_if b x is = rw is refl

kept_if : (b : Bool) (x : Option Mode) → b ≡ false → (if b then None else x) ≡ x
kept_if b x is = rw is refl

created_hold : (b : Bool) (z : ℕ) (m : Option Mode) (k : Option Kept) → hold_of (if b then Some mode.Rw else m) (if b then Some (kept_created z) else k) ≡ (if b then Some (record { mode = mode.Rw; size = z; began = []; writes = [] }) else hold_of m k)
created_hold true z m k = refl
created_hold false z m k = refl

done_held : (limit : ℕ) (f : Parts) (t home : ℕ) (c : body.Call) (a : Answer) (w : List (ℕ × ℕ)) → IsCallOn limit f t home c a w → is_done a.code ≡ true
    → (d : ℕ) → holds_on (called t c a w f) t d ≡ after_call c a (holds_on f t) d
done_held limit f t home (call.DbRelease g) a w legal on d =
    let now : Part = on_core (f.core t) (dropping_core g) in
    rw (on, same t)
    (elim (g == d) as (λ b. (g == d) ≡ b → hold_of (mode_on now d) (kept_on now d) ≡ (if b then None else holds_on f t d)) [
      | true ↦ λ here. no_hold _ _ (core_dropped_mode (f.core t) g d ∙ none_if (g == d) (mode_on (f.core t) d) here)
      | false ↦ λ off. (λ i. hold_of ((core_dropped_mode (f.core t) g d ∙ kept_if (g == d) (mode_on (f.core t) d) off) i) (core_dropped_kept (f.core t) g d off i))
    ] refl)
done_held limit f t home (call.DbDestroy g) a w legal on d =
    let now : Part = on_core (f.core t) (dropping_core g) in
    rw (on, same t)
    (elim (g == d) as (λ b. (g == d) ≡ b → hold_of (mode_on now d) (kept_on now d) ≡ (if b then None else holds_on f t d)) [
      | true ↦ λ here. no_hold _ _ (core_dropped_mode (f.core t) g d ∙ none_if (g == d) (mode_on (f.core t) d) here)
      | false ↦ λ off. (λ i. hold_of ((core_dropped_mode (f.core t) g d ∙ kept_if (g == d) (mode_on (f.core t) d) off) i) (core_dropped_kept (f.core t) g d off i))
    ] refl)
done_held limit f t home (call.DbCreate n fl) a w legal on d =
    let now : Bool → Part = λ b. on_core (f.core t) (λ (c : Core). if b then holding_core a.value (n / 8) c else c) in
    rw (on, same t)
    (elim (fl == 0) as (λ b. hold_of (mode_on (now b) d) (kept_on (now b) d) ≡ (if b then with_hold a.value (Some (creator_hold n)) (holds_on f t) else holds_on f t) d) [
      | true ↦ (λ i. hold_of (core_held_mode (f.core t) a.value (n / 8) d legal.running i) (core_held_kept (f.core t) a.value (n / 8) d legal.running i)) ∙ created_hold (a.value == d) (n / 8) (mode_on (f.core t) d) (kept_on (f.core t) d)
      | false ↦ ap (λ (x : Part). hold_of (mode_on x d) (kept_on x d)) (same_core (f.core t))
    ])
done_held limit f t home (call.AddDependence from x i m) a w legal on d = rw on (ap (λ (y : Part). hold_of (mode_on y d) (kept_on y d)) (linked_core (not (from == 0)) from _ _ t))
done_held limit f t home (call.EdtCreate from pc params dc deps flags output) a w legal on d =
    let apart : (a.value == t) ≡ false = other_number f t a (legal.value.no_core on) legal.running in
    rw on (ap (λ (y : Part). hold_of (mode_on y d) (kept_on y d)) (deps_core a.value 0 deps _ t ∙ same_there (a.value == t) _ (f.core t) apart))
  where
    same_there : (b : Bool) (x y : Part) → b ≡ false → (if b then x else y) ≡ y
    same_there b x y off = rw off refl
done_held limit f t home other a w legal on d = rw on refl

pub holds_law : HoldsLaw
holds_law limit f t home c a w legal d = elim (is_done a.code) as (λ b. is_done a.code ≡ b → holds_on (if b then joined c home (called t c a w f) else f) t d ≡ after_call c a (holds_on f t) d) [
  | true ↦ λ on. done_held limit f t home c a w legal on d
  | false ↦ λ off. rw off refl
] refl
