-- Messages by their names, each of which is pending at most once, and what they weigh.
use Rattle.std.proofs.Common.{◌≡◌, ℕ, zero, suc, ◌+◌, ◌<◌, ◌≤◌, List, [], ◌∷◌, ◌++◌, Bool, true, false, ◌==◌, ◌&&◌, if◌then◌else◌, Option, Some, None, refl, sym, ◌∙◌, ap, arith, rules, length}
use Rattle.std.specs.Prelude.{slice_index_or}
use Rattle.std.proofs.lemmas.Grind.{common_steps}
use Rattle.std.proofs.lemmas.Bool.{eqb-true}
use mathlib.Core.Option.{some, some-injective, some-ne-none}
use lib.ListN.{get_elem?}
use Rattle.ocr_base.specs.Mail.{named, same_name, drop_one, without, tally}
use Rattle.ocr_base.specs.Mail as mail

-- MESSAGES: each name is pending at most once
abbrev pub one : ℕ × ℕ → ℕ × ℕ → ℕ
one nm x = if (nm.0 == x.0) && (nm.1 == x.1) then 1 else 0

module _ {N : Type 0} where
  pub tally_append : (f : ℕ × ℕ → ℕ) (xs ys : List (ℕ × ℕ × N)) → tally f (xs ++ ys) ≡ tally f xs + tally f ys
  tally_append f [] ys = omega arith
  tally_append f (x ∷ xs) ys = let r = tally_append f xs ys in omega (arith, r)

  pub drop_less : (f : ℕ × ℕ → ℕ) (nm : ℕ × ℕ) (xs : List (ℕ × ℕ × N)) → tally f (drop_one nm xs) ≤ tally f xs
  drop_less f nm [] = omega arith
  drop_less f nm (x ∷ xs) = elim (same_name nm x) as (λ b. tally f (if b then xs else x ∷ drop_one nm xs) ≤ f (x.0, x.1) + tally f xs) [
    | true ↦ omega arith
    | false ↦ let r = drop_less f nm xs in omega arith
  ]

  less : (f : ℕ × ℕ → ℕ) (o : Option (ℕ × ℕ)) (xs : List (ℕ × ℕ × N)) → tally f (without o xs) ≤ tally f xs
  less f None xs = omega arith
  less f (Some nm) xs = drop_less f nm xs

  named_low : (nm : ℕ × ℕ) (n i : ℕ) (xs : List N) → nm.1 < i → tally (one nm) (named n i xs) ≡ 0
  named_low nm n i [] lt = refl
  named_low nm n i (x ∷ xs) lt = let r = named_low nm n (suc i) xs (omega arith) in let z = apart nm n i lt in omega (arith, r, z)
    where
      apart : (nm : ℕ × ℕ) (n i : ℕ) → nm.1 < i → one nm (n, i) ≡ 0
      apart nm n i lt = grind (arith, common_steps)

  pub named_once : (nm : ℕ × ℕ) (n i : ℕ) (xs : List N) → tally (one nm) (named n i xs) ≤ 1
  named_once nm n i [] = omega arith
  named_once nm n i (x ∷ xs) = elim (nm.1 == i) as (λ b. (nm.1 == i) ≡ b → one nm (n, i) + tally (one nm) (named n (suc i) xs) ≤ 1) [
    | true ↦ λ is. let e : nm.1 ≡ i = eqb-true nm.1 i is in let r = named_low nm n (suc i) xs (omega arith) in let m = most nm n i in omega (arith, r, m)
    | false ↦ λ off. let r = named_once nm n (suc i) xs in let z = none nm n i off in omega (arith, r, z)
  ] refl
    where
      most : (nm : ℕ × ℕ) (n i : ℕ) → one nm (n, i) ≤ 1
      most nm n i = elim ((nm.0 == n) && (nm.1 == i)) as (λ b. (if b then 1 else 0) ≤ 1) [ true ↦ omega arith | false ↦ omega arith ]

      none : (nm : ℕ × ℕ) (n i : ℕ) → (nm.1 == i) ≡ false → one nm (n, i) ≡ 0
      none nm n i off = rw off (and_false (nm.0 == n))
        where
          and_false : (b : Bool) → ◌≡◌ {A = ℕ} (if b && false then 1 else 0) 0
          and_false true = refl
          and_false false = refl

  pub named_other : (nm : ℕ × ℕ) (n i : ℕ) (xs : List N) → (nm.0 == n) ≡ false → tally (one nm) (named n i xs) ≡ 0
  named_other nm n i [] off = refl
  named_other nm n i (x ∷ xs) off = let r = named_other nm n (suc i) xs off in let z : one nm (n, i) ≡ 0 = rw off refl in omega (arith, r, z)

module _ {E N : Type 0} (send : List E → E → List N) (deliver : E → Option (ℕ × ℕ)) where
  not_yet : (past : List E) (nm : ℕ × ℕ) → length past ≤ nm.0 → tally (one nm) (mail.pending send deliver past) ≡ 0
  not_yet [] nm le = refl
  not_yet (e ∷ past) nm le =
      let r = not_yet past nm (omega (arith, le)) in
      let l = less (one nm) (deliver e) (mail.pending send deliver past) in
      let o : (nm.0 == length past) ≡ false = later nm.0 (length past) (omega (arith, le)) in
      let z = named_other nm (length past) 0 (send past e) o in
      let a = tally_append (one nm) (without (deliver e) (mail.pending send deliver past)) (named (length past) 0 (send past e)) in
      omega (arith, a, z, l, r)
    where
      later : (a b : ℕ) → b < a → (a == b) ≡ false
      later a b lt = grind (arith, common_steps)

  pub once_named : (past : List E) (nm : ℕ × ℕ) → tally (one nm) (mail.pending send deliver past) ≤ 1
  once_named [] nm = omega arith
  once_named (e ∷ past) nm =
      let l = less (one nm) (deliver e) (mail.pending send deliver past) in
      let a = tally_append (one nm) (without (deliver e) (mail.pending send deliver past)) (named (length past) 0 (send past e)) in
      elim (nm.0 == length past) as (λ b. (nm.0 == length past) ≡ b → tally (one nm) (mail.pending send deliver (e ∷ past)) ≤ 1) [
        | true ↦ λ is. let e0 : nm.0 ≡ length past = eqb-true nm.0 (length past) is in let r = not_yet past nm (omega arith) in let m = named_once nm (length past) 0 (send past e) in omega (arith, a, l, r, m)
        | false ↦ λ off. let r = once_named past nm in let z = named_other nm (length past) 0 (send past e) off in omega (arith, a, l, r, z)
      ] refl

-- WHAT MESSAGES BRING, each weighed
module _ {N : Type 0} (f : N → ℕ) where
  abbrev pub carried : List (ℕ × ℕ × N) → ℕ
  carried [] = 0
  carried (x ∷ xs) = f x.2 + carried xs

  abbrev pub weight : List N → ℕ
  weight [] = 0
  weight (x ∷ xs) = f x + weight xs

  pub weight_append : (xs ys : List N) → weight (xs ++ ys) ≡ weight xs + weight ys
  weight_append [] ys = omega arith
  weight_append (x ∷ xs) ys = let r = weight_append xs ys in omega (arith, r)

  pub carried_append : (xs ys : List (ℕ × ℕ × N)) → carried (xs ++ ys) ≡ carried xs + carried ys
  carried_append [] ys = omega arith
  carried_append (x ∷ xs) ys = let r = carried_append xs ys in omega (arith, r)

  pub carried_named : (n i : ℕ) (xs : List N) → carried (named n i xs) ≡ weight xs
  carried_named n i [] = refl
  carried_named n i (x ∷ xs) = let r = carried_named n (suc i) xs in omega (arith, r)

  one_same : (n i : ℕ) → one (n, i) (n, i) ≡ 1
  one_same n i = grind (arith, common_steps)

  has_one : (n i : ℕ) (x : N) (xs : List (ℕ × ℕ × N)) (k : ℕ) → get_elem? xs k ≡ some (n, i, x) → 1 ≤ tally (one (n, i)) xs
  has_one n i x [] k at = absurd (some-ne-none (n, i, x) (sym at))
  has_one n i x (y ∷ ys) zero at =
      let e : y ≡ (n, i, x) = some-injective y (n, i, x) at in
      let o : one (n, i) (y.0, y.1) ≡ 1 = ap (λ (z : ℕ × ℕ × N). one (n, i) (z.0, z.1)) e ∙ one_same n i in omega (arith, o)
  has_one n i x (y ∷ ys) (suc k) at = let r = has_one n i x ys k at in omega arith

  -- a message that goes takes its weight with it
  pub dropped : (n i : ℕ) (x : N) (xs : List (ℕ × ℕ × N)) (k : ℕ) → get_elem? xs k ≡ some (n, i, x) → tally (one (n, i)) xs ≤ 1 → carried (drop_one (n, i) xs) + f x ≡ carried xs
  dropped n i x [] k at most = absurd (some-ne-none (n, i, x) (sym at))
  dropped n i x (y ∷ ys) zero at most =
      let e : y ≡ (n, i, x) = some-injective y (n, i, x) at in
      let same : same_name (n, i) y ≡ true = ap (same_name (n, i)) e ∙ same_is n i in
      let w : f y.2 ≡ f x = ap (λ (z : ℕ × ℕ × N). f z.2) e in
      rw same (omega (arith, w))
    where
      same_is : (n i : ℕ) → ((n == n) && (i == i)) ≡ true
      same_is n i = search rules
  dropped n i x (y ∷ ys) (suc k) at most = elim (same_name (n, i) y) as (λ b. same_name (n, i) y ≡ b → carried (if b then ys else y ∷ drop_one (n, i) ys) + f x ≡ f y.2 + carried ys) [
    | true ↦ λ is. let o : one (n, i) (y.0, y.1) ≡ 1 = rw is refl in let r = has_one n i x ys k at in absurd (omega (arith, o, r, most))
    | false ↦ λ _. let r = dropped n i x ys k at (omega (arith, most)) in omega (arith, r)
  ] refl

pub at_of : {A : Type 0} (xs : List A) (k : ℕ) (d x : A) → k < length xs → slice_index_or xs k d ≡ x → get_elem? xs k ≡ some x
at_of [] k d x lt is = absurd (omega (arith, lt))
at_of (y ∷ ys) zero d x lt is = ap (λ (z : _). some z) is
at_of (y ∷ ys) (suc k) d x lt is = at_of ys k d x (omega (arith, lt)) is
