-- Rising lists of blocks with their modes.
use Rattle.std.proofs.Common.{◌≡◌, ℕ, ◌<◌, ◌≤◌, List, [], ◌∷◌, inl, inr, refl, sym, arith, ap}
use Rattle.std.specs.List.{Contains}
use Rattle.ocr_acquire.specs.declared.Mode.{Mode}
use Rattle.ocr_acquire.specs.Plan.{RisesFrom}
use Rattle.ocr_acquire.proofs.Members.{Contains-nil, Contains-here, Contains-there, Contains-cases}

pub rises_below : (low lower : ℕ) (plan : List (ℕ × Mode)) → lower ≤ low → RisesFrom low plan → RisesFrom lower plan
rises_below low lower [] le h = h
rises_below low lower (e ∷ rest) le h = (omega (arith, h.0), h.1)

-- each block of a rising list is above its start
pub rises_above : (low : ℕ) (plan : List (ℕ × Mode)) (e : ℕ × Mode) → RisesFrom low plan → Contains plan e → low < e.0
rises_above low [] e h i = absurd (Contains-nil e i)
rises_above low (f ∷ rest) e h i = elim (Contains-cases f e rest i) [
  | inl q ↦ let s : f.0 ≡ e.0 = ap (λ (p : ℕ × Mode). p.0) q in omega (arith, h.0)
  | inr r ↦ let b : f.0 < e.0 = rises_above f.0 rest e h.1 r in omega (arith, h.0)
]

-- two that contain each other's first have the same first
heads : (low : ℕ) (x y : ℕ × Mode) (xs ys : List (ℕ × Mode)) → RisesFrom low (x ∷ xs) → RisesFrom low (y ∷ ys)
    → Contains (y ∷ ys) x → Contains (x ∷ xs) y → x ≡ y
heads low x y xs ys h g i j = elim (Contains-cases y x ys i) [
  | inl e ↦ sym e
  | inr r ↦ elim (Contains-cases x y xs j) [
    | inl e ↦ e
    | inr s ↦ let a : y.0 < x.0 = rises_above y.0 ys x g.1 r in let b : x.0 < y.0 = rises_above x.0 xs y h.1 s in absurd (omega arith)
  ]
]

-- what is above the first is in the rest
tails : (low : ℕ) (y e : ℕ × Mode) (ys : List (ℕ × Mode)) → y.0 ≤ low → low < e.0 → Contains (y ∷ ys) e → Contains ys e
tails low y e ys le lt i = elim (Contains-cases y e ys i) [
  | inl q ↦ let s : y.0 ≡ e.0 = ap (λ (p : ℕ × Mode). p.0) q in absurd (omega arith)
  | inr r ↦ r
]

-- two rising lists that contain the same are the same
pub same_from_members : (low : ℕ) (one other : List (ℕ × Mode)) → RisesFrom low one → RisesFrom low other
    → ((e : ℕ × Mode) → Contains one e → Contains other e) → ((e : ℕ × Mode) → Contains other e → Contains one e) → one ≡ other
same_from_members low [] [] h g there back = refl
same_from_members low [] (y ∷ ys) h g there back = absurd (Contains-nil y (back y (Contains-here y y ys refl)))
same_from_members low (x ∷ xs) [] h g there back = absurd (Contains-nil x (there x (Contains-here x x xs refl)))
same_from_members low (x ∷ xs) (y ∷ ys) h g there back =
    let first : x ≡ y = heads low x y xs ys h g (there x (Contains-here x x xs refl)) (back y (Contains-here y y ys refl)) in
    let s : x.0 ≡ y.0 = ap (λ (p : ℕ × Mode). p.0) first in
    let hs : RisesFrom x.0 xs = h.1 in
    let gs : RisesFrom x.0 ys = rises_below y.0 x.0 ys (omega arith) g.1 in
    let rest : xs ≡ ys = same_from_members x.0 xs ys hs gs
    (λ e i. tails x.0 y e ys (omega arith) (rises_above x.0 xs e hs i) (there e (Contains-there x e xs i)))
    (λ e i. tails x.0 x e xs (omega arith) (rises_above x.0 ys e gs i) (back e (Contains-there y e ys i))) in
    cc
