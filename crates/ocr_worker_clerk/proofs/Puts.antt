-- Parts of a hand that are found and replaced.
use Rattle.std.proofs.Common.{◌≡◌, ◌≢◌, ℕ, ◌==◌, true, false, if◌then◌else◌, List, [], ◌∷◌, length, Option, Some, refl, ap, subst, arith}
use Rattle.std.proofs.lemmas.Bool.{eqb-true}
use Rattle.ocr_base.proofs.Booleans.{same as number_same}
use Rattle.ocr_slots.specs.declared.Slot.{Slot}
use Rattle.ocr_machine_parts.specs.declared.part.Core.{Core}
use Rattle.ocr_machine_parts.specs.declared.part.Part.{Part}
use Rattle.ocr_machine_parts.specs.declared.part.Part.TheVariants as part
use Rattle.ocr_turns_rule.specs.Sums.{find, replace}
use Rattle.ocr_worker_clerk.proofs.Hands.{apart_is}

abbrev Hands : Type 0
Hands = List (ℕ × Option Part)

pub find_other : (p q : ℕ) (a : Option Part) (xs : Hands) → p ≢ q → find p (replace q a xs) ≡ find p xs
find_other p q a [] off = refl
find_other p q a (x ∷ xs) off = elim (q == x.0) as (λ b. (q == x.0) ≡ b → find p (if b then (q, a) ∷ xs else x ∷ replace q a xs) ≡ (if p == x.0 then Some x.1 else find p xs)) [
  | true ↦ λ is.
      let one : (p == q) ≡ false = apart_is p q off in
      let two : (p == x.0) ≡ false = subst (λ (n : ℕ). (p == n) ≡ false) (eqb-true q x.0 is) one in
      rw (one, two) refl
  | false ↦ λ _. elim (p == x.0) as (λ b. (if b then Some x.1 else find p (replace q a xs)) ≡ (if b then Some x.1 else find p xs)) [ true ↦ refl | false ↦ find_other p q a xs off ]
] refl

pub find_replaced : (p : ℕ) (a : Option Part) (xs : Hands) (y : Option Part) → find p xs ≡ Some y → find p (replace p a xs) ≡ Some a
find_replaced p a [] y is = cc is
find_replaced p a (x ∷ xs) y is = elim (p == x.0) as (λ b. (p == x.0) ≡ b → (if b then Some x.1 else find p xs) ≡ Some y → find p (if b then (p, a) ∷ xs else x ∷ replace p a xs) ≡ Some a) [
  | true ↦ λ _ _. rw (number_same p) refl
  | false ↦ λ off is. rw off (find_replaced p a xs y is)
] refl is

pub long_replaced : (p : ℕ) (a : Option Part) (xs : Hands) → length (replace p a xs) ≡ length xs
long_replaced p a [] = refl
long_replaced p a (x ∷ xs) = elim (p == x.0) as (λ b. length (if b then (p, a) ∷ xs else x ∷ replace p a xs) ≡ length (x ∷ xs)) [
  | true ↦ refl
  | false ↦ let r = long_replaced p a xs in omega (arith, r)
]

pub item_same : (x y : Part) → Some (Some x) ≡ Some (Some y) → x ≡ y
item_same x y is = cc is

abbrev slots_on : Part → List Slot
slots_on (part.Edt slots) = slots
slots_on other = []

pub edt_same : (a b : List Slot) → part.Edt a ≡ part.Edt b → a ≡ b
edt_same a b is = ap slots_on is

abbrev core_on : Part → Core → Core
core_on (part.Core c) d = c
core_on other d = d

pub core_same : (c d : Core) → part.Core c ≡ part.Core d → c ≡ d
core_same c d is = ap (λ (x : Part). core_on x c) is

-- the first part of a list is one core
abbrev first_core : List (ℕ × Part) → Core → Core
first_core [] d = d
first_core (p ∷ rest) d = core_on p.1 d

pub first_same : (p q : ℕ) (c d : Core) (xs ys : List (ℕ × Part)) → (p, part.Core c) ∷ xs ≡ (q, part.Core d) ∷ ys → c ≡ d
first_same p q c d xs ys is = ap (λ (l : List (ℕ × Part)). first_core l c) is
