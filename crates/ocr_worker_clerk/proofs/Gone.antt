-- Numbered lists of which items are taken out one by one, and what a list of numbers weighs.
use Rattle.std.proofs.Common.{◌≡◌, ℕ, ◌+◌, ◌≤◌, ◌==◌, true, false, List, [], ◌∷◌, length, reverse, Option, Some, refl, ap, arith, if◌then◌else◌}
use Rattle.std.proofs.lemmas.List.{reverse-append}
use Rattle.ocr_base.proofs.Booleans.{same as number_same}
use Rattle.ocr_turns_rule.specs.Sums.{as_some, find, keys, one_at, remove_at, sum_of, weigh}
use Rattle.ocr_turns_rule.proofs.Numbered.{weigh_remove}
use Rattle.ocr_turns_rule.proofs.Totals.{sum_append}

module _ {A : Type 0} where
  pub weigh_numbers : (f : ℕ → ℕ) (xs : List (ℕ × A)) → weigh f xs ≡ sum_of f (keys xs)
  weigh_numbers f [] = refl
  weigh_numbers f (x ∷ xs) = ap (λ (n : ℕ). f x.0 + n) (weigh_numbers f xs)

  -- one less
  weigh_each : (xs : List (ℕ × A)) → weigh (λ _. 1) xs ≡ length xs
  weigh_each [] = refl
  weigh_each (x ∷ xs) = let r = weigh_each xs in omega (arith, r)

  pub less_long : (p : ℕ) (xs : List (ℕ × A)) → 1 ≤ weigh (one_at p) xs → length (remove_at p xs) + 1 ≡ length xs
  less_long p xs there = let a = weigh_remove (λ _. 1) p xs there in let b = weigh_each (remove_at p xs) in let d = weigh_each xs in omega (arith, a, b, d)

  -- what is there at no number is empty
  pub none_left : (xs : List (ℕ × A)) → ((p : ℕ) → weigh (one_at p) xs ≡ 0) → xs ≡ []
  none_left [] none = refl
  none_left (x ∷ xs) none = let one : one_at x.0 x.0 ≡ 1 = rw (number_same x.0) refl in let n = none x.0 in absurd (omega (arith, one, n))

  -- where all are there
  pub some_found : (p : ℕ) (xs : List (ℕ × A)) (a : A) → find p xs ≡ Some a → find p (as_some xs) ≡ Some (Some a)
  some_found p [] a is = cc is
  some_found p (x ∷ xs) a is = elim (p == x.0) as (λ b. (if b then Some x.1 else find p xs) ≡ Some a → (if b then Some (Some x.1) else find p (as_some xs)) ≡ Some (Some a)) [
    | true ↦ λ here. ap (λ (o : Option A). Some o) here
    | false ↦ λ later. some_found p xs a later
  ] is

  pub some_removed : (p : ℕ) (xs : List (ℕ × A)) → remove_at p (as_some xs) ≡ as_some (remove_at p xs)
  some_removed p [] = refl
  some_removed p (x ∷ xs) = elim (p == x.0) as (λ b. (if b then as_some xs else (x.0, Some x.1) ∷ remove_at p (as_some xs)) ≡ as_some (if b then xs else x ∷ remove_at p xs)) [
    | true ↦ refl
    | false ↦ ap (λ (l : List (ℕ × Option A)). (x.0, Some x.1) ∷ l) (some_removed p xs)
  ]

pub sum_reversed : (f : ℕ → ℕ) (ns : List ℕ) → sum_of f (reverse ns) ≡ sum_of f ns
sum_reversed f [] = refl
sum_reversed f (n ∷ ns) =
    let a = ap (sum_of f) (reverse-append (n ∷ []) ns) in let b = sum_append f (reverse ns) (n ∷ []) in
    let r = sum_reversed f ns in omega (arith, a, b, r)
