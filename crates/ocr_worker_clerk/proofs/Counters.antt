-- Each event at hand can be counted once more.
use Rattle.std.proofs.Common.{◌≡◌, ℕ, ◌-◌, ◌<◌, ◌^◌, Bool, true, false, ◌==◌, if◌then◌else◌, List, [], ◌∷◌, refl, ap, sym, ◌∙◌, subst, arith}
use Rattle.ocr_acquire.specs.declared.Mode.{Mode}
use Rattle.ocr_machine_history.specs.declared.entry.Entry.{Entry}
use Rattle.ocr_machine_history.specs.declared.entry.Entry.TheVariants.{Acquire, Wait, StaleAcquire, Start}
use Rattle.ocr_machine_parts.specs.declared.part.Part.{Part}
use Rattle.ocr_machine_parts.specs.declared.part.Part.TheVariants as part
use Rattle.ocr_machine_parts.specs.Progress.{readied}
use Rattle.ocr_machine_parts.specs.Kinds.{counted_on}
use Rattle.ocr_machine_parts.specs.Parts.{Parts}
use Rattle.ocr_machine_parts.specs.Taken.{as_face, face_in, is_within, look, parts_in}
use Rattle.ocr_worker_machine.specs.Clerks.{OcrTerms, OcrView}
use Rattle.ocr_worker_clerk.specs.Entry.{CanMake, PlannedParts}

-- AN EDT that is made ready changes no face
readied_faces : (ms : List (ℕ × Mode)) (e : Entry) (f : Parts) → (readied ms e f).face ≡ f.face
readied_faces ms (Acquire t d) f = refl
readied_faces ms (Wait t d) f = refl
readied_faces ms (StaleAcquire t d) f = refl
readied_faces ms (Start t) f = refl
readied_faces ms other f = refl

pub hand_counters : (t : OcrTerms) (limit : ℕ) (v : OcrView) (e : Entry) (h : PlannedParts) (ps : List (ℕ × Part)) → limit ≡ t.limit → CanMake t v e h ps → (g : ℕ) → counted_on (face_in limit ps g) < 2 ^ 64 - 1
hand_counters t limit v e h ps lim can g =
    let faces = ap (λ (f : Parts). f.face) can.ready ∙ readied_faces h.members e (parts_in t.limit h.parts) in
    subst (λ (n : ℕ). counted_on (face_in n ps g) < 2 ^ 64 - 1) (sym lim) (subst (λ (f : ℕ → Part). counted_on (f g) < 2 ^ 64 - 1) (sym faces) (can.counters g))

-- PARTS that count nothing
abbrev pub CountNothing : List (ℕ × Part) → Type 0
CountNothing [] = Unit {0}
CountNothing (p ∷ rest) = (counted_on p.1 ≡ 0) × CountNothing rest

look_none : (ps : List (ℕ × Part)) (g : ℕ) → CountNothing ps → counted_on (look ps g) ≡ 0
look_none [] g none = refl
look_none (p ∷ rest) g none = elim (p.0 == g) as (λ b. counted_on (if b then p.1 else look rest g) ≡ 0) [ true ↦ none.0 | false ↦ look_none rest g none.1 ]

face_none : (x : Part) → counted_on x ≡ 0 → counted_on (as_face x) ≡ 0
face_none (part.Core c) none = refl
face_none other none = none

face_if : (b : Bool) (x : Part) → counted_on x ≡ 0 → counted_on (if b then as_face x else part.Vacant) ≡ 0
face_if true x none = face_none x none
face_if false x none = refl

pub none_counted : (limit : ℕ) (ps : List (ℕ × Part)) → CountNothing ps → (g : ℕ) → counted_on (face_in limit ps g) < 2 ^ 64 - 1
none_counted limit ps none g = let is = face_if (is_within limit g) (look ps g) (look_none ps g none) in omega (arith, is)
