-- Sums over views and logs.
use Rattle.std.proofs.Common.{◌≡◌, ◌≢◌, ℕ, zero, suc, ◌+◌, ◌*◌, ◌<◌, ◌≤◌, ◌⊎◌, inl, inr, ⊎_elim, List, [], ◌∷◌, ◌++◌, length, set, refl, ap, sym, ◌∙◌, arith, add-one, eq-eqb, ne_eqb, eqb-true, Bool, true, false, Option, Some, None, if◌then◌else◌, ◌&&◌, ◌||◌, ◌==◌, reverse}
use Rattle.std.proofs.lemmas.List.{reverse-append}
use Rattle.std.proofs.lemmas.Bool.{and_parts}
use mathlib.Core.Option.{some, some-injective, some-ne-none}
use mathlib.Core.Logic.{dite}
use native.Mathlib.Decide.{ℕ_discrete, dec_le}
use lib.ListN.{get_elem?}
use Rattle.ocr_turns_rule.specs.Sums.{total, weigh, weigh_all, one_at, below, sum_of, up_to, made_sum, less_one, less_all, HasAll, picked, is_among, entries, load_of}
use Rattle.ocr_turns_rule.specs.Rule.{LogOf}
use Rattle.ocr_base.specs.Mail.{tally, drop_one, same_name, without, Has}

module _ {V : Type 0} where
  pub total_set : (f : V → ℕ) (vs : List V) (i : ℕ) (v w : V) → get_elem? vs i ≡ some v → total f (set vs i w) + f v ≡ total f vs + f w
  total_set f [] i v w at = absurd (some-ne-none v (sym at))
  total_set f (x ∷ xs) zero v w at = let e = ap f (some-injective x v at) in omega arith
  total_set f (x ∷ xs) (suc i) v w at = let r = total_set f xs i v w at in omega arith

  pub total_bound : (f g : V → ℕ) (c : ℕ) (vs : List V) → ((i : ℕ) (v : V) → get_elem? vs i ≡ some v → f v ≤ g v * c) → total f vs ≤ total g vs * c
  total_bound f g c [] each = omega arith
  total_bound f g c (x ∷ xs) each = let h = each zero x refl in let r = total_bound f g c xs (λ i v at. each (suc i) v at) in omega arith

pub weigh_snoc : {E : Type 0} (f : ℕ → ℕ) (xs : List (ℕ × E)) (n : ℕ) (e : E) → weigh f (xs ++ (n, e) ∷ []) ≡ weigh f xs + f n
weigh_snoc f [] n e = omega arith
weigh_snoc f (x ∷ xs) n e = let r = weigh_snoc f xs n e in omega arith

pub below_more : (f : ℕ → ℕ) (n : ℕ) → below f (n + 1) ≡ f n + below f n
below_more f n = rw add-one refl

pub below_ones : (n : ℕ) → below (λ _. 1) n ≡ n
below_ones zero = refl
below_ones (suc n) = let r = below_ones n in omega arith

module _ {A : Type 0} where
  pub at_snoc_at : (l : List A) (a b : A) (j : ℕ) → get_elem? (l ++ a ∷ []) j ≡ some b → ((j < length l) × (get_elem? l j ≡ some b)) ⊎ ((j ≡ length l) × (a ≡ b))
  at_snoc_at [] a b zero e = inr (refl, some-injective a b e)
  at_snoc_at [] a b (suc j) e = absurd (some-ne-none b (sym e))
  at_snoc_at (x ∷ xs) a b zero e = inl (omega arith, e)
  at_snoc_at (x ∷ xs) a b (suc j) e = ⊎_elim (λ h. inl (omega arith, h.1)) (λ h. inr (ap suc h.0, h.1)) (at_snoc_at xs a b j e)

  pub at_less : (l : List A) (j : ℕ) (b : A) → get_elem? l j ≡ some b → j < length l
  at_less [] j b e = absurd (some-ne-none b (sym e))
  at_less (x ∷ xs) zero b e = omega arith
  at_less (x ∷ xs) (suc j) b e = let r = at_less xs j b e in omega arith

module _ {V : Type 0} where
  pub total_one : (f : V → ℕ) (vs : List V) (i : ℕ) (v : V) → get_elem? vs i ≡ some v → f v ≤ total f vs
  total_one f [] i v at = absurd (some-ne-none v (sym at))
  total_one f (x ∷ xs) zero v at = let e = ap f (some-injective x v at) in omega arith
  total_one f (x ∷ xs) (suc i) v at = let r = total_one f xs i v at in omega arith

  pub total_two : (f : V → ℕ) (vs : List V) (i j : ℕ) (v w : V) → i ≢ j → get_elem? vs i ≡ some v → get_elem? vs j ≡ some w → f v + f w ≤ total f vs
  total_two f [] i j v w ne at bt = absurd (some-ne-none v (sym at))
  total_two f (x ∷ xs) zero zero v w ne at bt = absurd (ne refl)
  total_two f (x ∷ xs) zero (suc j) v w ne at bt = let e = ap f (some-injective x v at) in let r = total_one f xs j w bt in omega arith
  total_two f (x ∷ xs) (suc i) zero v w ne at bt = let e = ap f (some-injective x w bt) in let r = total_one f xs i v at in omega arith
  total_two f (x ∷ xs) (suc i) (suc j) v w ne at bt = let r = total_two f xs i j v w (λ e. ne (ap suc e)) at bt in omega arith

-- what stands in a list has weight there
pub weigh_at : {E : Type 0} (ps : List (ℕ × E)) (k p : ℕ) (x : E) → get_elem? ps k ≡ some (p, x) → 1 ≤ weigh (one_at p) ps
weigh_at [] k p x at = absurd (some-ne-none (p, x) (sym at))
weigh_at (y ∷ ys) zero p x at = let e : y.0 ≡ p = ap (λ z. z.0) (some-injective y (p, x) at) in let t : one_at p y.0 ≡ 1 = rw (eq-eqb p y.0 (sym e)) refl in omega arith
weigh_at (y ∷ ys) (suc k) p x at = let r = weigh_at ys k p x at in omega arith

module _ {V : Type 0} where
  pub total_none : (f : V → ℕ) (vs : List V) → ((i : ℕ) (u : V) → get_elem? vs i ≡ some u → f u ≡ 0) → total f vs ≡ 0
  total_none f [] none = refl
  total_none f (x ∷ xs) none = let a = none zero x refl in let r = total_none f xs (λ i u at. none (suc i) u at) in omega arith

  -- where all others have nothing, one has all
  pub total_alone : (f : V → ℕ) (vs : List V) (id : ℕ) (v : V) → get_elem? vs id ≡ some v → ((i : ℕ) (u : V) → i ≢ id → get_elem? vs i ≡ some u → f u ≡ 0) → total f vs ≡ f v
  total_alone f [] id v at none = absurd (some-ne-none v (sym at))
  total_alone f (x ∷ xs) zero v at none = let e = ap f (some-injective x v at) in let r = total_none f xs (λ i u a. none (suc i) u (λ h. omega arith) a) in omega arith
  total_alone f (x ∷ xs) (suc id) v at none = let a = none zero x (λ h. omega arith) refl in let r = total_alone f xs id v at (λ i u ne a. none (suc i) u (λ h. ne (omega arith)) a) in omega arith

module _ {N : Type 0} (f : ℕ × ℕ → ℕ) where
  pub tally_append : (xs ys : List (ℕ × ℕ × N)) → tally f (xs ++ ys) ≡ tally f xs + tally f ys
  tally_append [] ys = omega arith
  tally_append (x ∷ xs) ys = let r = tally_append xs ys in omega arith

-- 1 where the name is nm
abbrev pub one_name : ℕ × ℕ → ℕ × ℕ → ℕ
one_name nm x = if (nm.0 == x.0) && (nm.1 == x.1) then 1 else 0

pub named_same : {N : Type 0} (nm : ℕ × ℕ) (x : ℕ × ℕ × N) → same_name nm x ≡ true → nm ≡ (x.0, x.1)
named_same nm x is = let b = and_parts (nm.0 == x.0) (nm.1 == x.1) is in let p : nm.0 ≡ x.0 = eqb-true nm.0 x.0 b.0 in let q : nm.1 ≡ x.1 = eqb-true nm.1 x.1 b.1 in λ i. (p i, q i)

module _ {N : Type 0} (f : ℕ × ℕ → ℕ) (nm : ℕ × ℕ) where
  -- what is dropped weighs what its name weighs
  by_name : (b : Bool) (x : ℕ × ℕ × N) (xs : List (ℕ × ℕ × N)) → same_name nm x ≡ b → (b ≡ false → tally f (drop_one nm xs) + f nm ≡ tally f xs) → tally f (if b then xs else x ∷ drop_one nm xs) + f nm ≡ f (x.0, x.1) + tally f xs
  by_name true x xs is later = let e : f nm ≡ f (x.0, x.1) = ap f (named_same nm x is) in omega arith
  by_name false x xs is later = let r = later refl in omega arith

  pub drop_tally : (xs : List (ℕ × ℕ × N)) → 1 ≤ tally (one_name nm) xs → tally f (drop_one nm xs) + f nm ≡ tally f xs
  drop_tally [] h = absurd (omega arith)
  drop_tally (x ∷ xs) h = by_name (same_name nm x) x xs refl (λ no. drop_tally xs (let z : one_name nm (x.0, x.1) ≡ 0 = rw no refl in omega arith))

pub has_tally : {N : Type 0} (xs : List (ℕ × ℕ × N)) (nm : ℕ × ℕ) (k : ℕ) (x : N) → get_elem? xs k ≡ some (nm.0, nm.1, x) → 1 ≤ tally (one_name nm) xs
has_tally [] nm k x at = absurd (some-ne-none (nm.0, nm.1, x) (sym at))
has_tally (y ∷ ys) nm zero x at =
    let e = some-injective y (nm.0, nm.1, x) at in
    let z : one_name nm (y.0, y.1) ≡ 1 = ap (λ w. one_name nm (w.0, w.1)) e ∙ rw (eq-eqb nm.0 nm.0 refl, eq-eqb nm.1 nm.1 refl) refl in omega arith
has_tally (y ∷ ys) nm (suc k) x at = let r = has_tally ys nm k x at in omega arith

both_of : (nm y : ℕ × ℕ) → ((nm.0 == y.0) && (nm.1 == y.1)) ≡ true → nm ≡ y
both_of nm y is = let b = and_parts (nm.0 == y.0) (nm.1 == y.1) is in let p : nm.0 ≡ y.0 = eqb-true nm.0 y.0 b.0 in let q : nm.1 ≡ y.1 = eqb-true nm.1 y.1 b.1 in λ i. (p i, q i)

pub tally_has : {N : Type 0} (xs : List (ℕ × ℕ × N)) (nm : ℕ × ℕ) → 1 ≤ tally (one_name nm) xs → (k : ℕ) × (x : N) × (get_elem? xs k ≡ some (nm.0, nm.1, x))
tally_has [] nm h = absurd (omega arith)
tally_has (y ∷ ys) nm h = elim ((nm.0 == y.0) && (nm.1 == y.1)) as (λ b. ((nm.0 == y.0) && (nm.1 == y.1)) ≡ b → 1 ≤ (if b then 1 else 0) + tally (one_name nm) ys → (k : ℕ) × (x : _) × (get_elem? (y ∷ ys) k ≡ some (nm.0, nm.1, x))) [
  | true ↦ λ is g. let e = both_of nm (y.0, y.1) is in (0, y.2, λ i. some ((sym e i).0, (sym e i).1, y.2))
  | false ↦ λ is g. let r = tally_has ys nm (omega arith) in (suc r.0, r.1, r.2)
] refl h

-- both lists lose the same
pub without_tally : {N : Type 0} (f : ℕ × ℕ → ℕ) (d : Option (ℕ × ℕ)) (xs ys : List (ℕ × ℕ × N)) → Has d xs → ((g : ℕ × ℕ → ℕ) → tally g xs ≤ tally g ys) → tally f (without d xs) + tally f ys ≡ tally f (without d ys) + tally f xs
without_tally f None xs ys has le = omega arith
without_tally f (Some nm) xs ys has le =
    let a = has_tally xs nm has.0 has.1 has.2 in let b = le (one_name nm) in
    let p = drop_tally f nm xs a in let q = drop_tally f nm ys (omega arith) in omega arith

-- numbers that are drawn and used
module _ {V : Type 0} where
  pub total_bound_more : (f g h : V → ℕ) (c : ℕ) (vs : List V) → ((i : ℕ) (v : V) → get_elem? vs i ≡ some v → f v ≤ g v * c + h v) → total f vs ≤ total g vs * c + total h vs
  total_bound_more f g h c [] each = omega arith
  total_bound_more f g h c (x ∷ xs) each = let a = each zero x refl in let r = total_bound_more f g h c xs (λ i v at. each (suc i) v at) in omega arith

module _ (f : ℕ → ℕ) where
  pub sum_append : (xs ys : List ℕ) → sum_of f (xs ++ ys) ≡ sum_of f xs + sum_of f ys
  sum_append [] ys = omega arith
  sum_append (x ∷ xs) ys = let r = sum_append xs ys in omega arith

by_number : (f : ℕ → ℕ) (n k : ℕ) (ks : List ℕ) (b : Bool) → (n == k) ≡ b → (b ≡ false → sum_of f (less_one n ks) + f n ≡ sum_of f ks) → sum_of f (if b then ks else k ∷ less_one n ks) + f n ≡ f k + sum_of f ks
by_number f n k ks true is later = let e : f n ≡ f k = ap f (eqb-true n k is) in omega arith
by_number f n k ks false is later = let r = later refl in omega arith

pub less_sum : (f : ℕ → ℕ) (n : ℕ) (ks : List ℕ) → 1 ≤ sum_of (one_at n) ks → sum_of f (less_one n ks) + f n ≡ sum_of f ks
less_sum f n [] h = absurd (omega arith)
less_sum f n (k ∷ ks) h = by_number f n k ks (n == k) refl (λ no. less_sum f n ks (let z : one_at n k ≡ 0 = rw no refl in omega arith))

pub less_all_sum : (f : ℕ → ℕ) (ns ks : List ℕ) → HasAll ns ks → sum_of f (less_all ns ks) + sum_of f ns ≡ sum_of f ks
less_all_sum f [] ks h = omega arith
less_all_sum f (n ∷ ns) ks h = let a = less_sum f n ks h.0 in let r = less_all_sum f ns (less_one n ks) h.1 in omega arith

pub made_snoc : {E : Type 0} (makes : E → List ℕ) (f : ℕ → ℕ) (J : List E) (e : E) → made_sum makes f (J ++ e ∷ []) ≡ made_sum makes f J + sum_of f (makes e)
made_snoc makes f [] e = omega arith
made_snoc makes f (x ∷ xs) e = let r = made_snoc makes f xs e in omega arith

-- a number weighs at most 1 among those up to n, and only there
one_below : (n k : ℕ) → n < k → one_at k n ≡ 0
one_below n k lt = rw (ne_eqb k n (λ e. omega arith)) refl

one_above : (n k : ℕ) → k < n → one_at k n ≡ 0
one_above n k lt = rw (ne_eqb k n (λ e. omega arith)) refl

pub up_to_none : (k n : ℕ) → n < k → up_to (one_at k) n ≡ 0
up_to_none k zero lt = refl
up_to_none k (suc n) lt = let a : one_at k (suc n) ≡ 0 = one_below (suc n) k lt in let r = up_to_none k n (omega arith) in omega arith

pub up_to_zero : (n : ℕ) → up_to (one_at 0) n ≡ 0
up_to_zero zero = refl
up_to_zero (suc n) = let a : one_at 0 (suc n) ≡ 0 = one_above (suc n) 0 (omega arith) in let r = up_to_zero n in omega arith

pub up_to_one : (k n : ℕ) → up_to (one_at k) n ≤ 1
up_to_one k zero = omega arith
up_to_one k (suc n) = dite (ℕ_discrete k (suc n))
    (λ e. let r : up_to (one_at k) n ≡ 0 = up_to_none k n (omega arith) in let a : one_at k (suc n) ≡ 1 = rw (eq-eqb k (suc n) e) refl in omega arith)
    (λ ne. let r = up_to_one k n in let a : one_at k (suc n) ≡ 0 = rw (ne_eqb k (suc n) ne) refl in omega arith)

pub up_to_range : (k n : ℕ) → 1 ≤ up_to (one_at k) n → (1 ≤ k) × (k ≤ n)
up_to_range k n h = (
  dite (ℕ_discrete k 0) (λ e. let z = ap (λ (x : ℕ). up_to (one_at x) n) e in let o = up_to_zero n in absurd (omega arith)) (λ ne. omega arith),
  dite (dec_le k n) (λ y. y) (λ no. let z = up_to_none k n (omega arith) in absurd (omega arith)),
)

-- entries that pass a test
module _ {A : Type 0} (test : A → Bool) where
  pub picked_append : (xs ys : List A) → picked test (xs ++ ys) ≡ picked test xs ++ picked test ys
  picked_append [] ys = refl
  picked_append (x ∷ xs) ys = elim (test x) as (λ b. (if b then x ∷ picked test (xs ++ ys) else picked test (xs ++ ys)) ≡ (if b then x ∷ picked test xs else picked test xs) ++ picked test ys) [
    | true ↦ ap (λ (l : List A). x ∷ l) (picked_append xs ys)
    | false ↦ picked_append xs ys
  ]

  pub among_append : (xs ys : List A) → is_among test (xs ++ ys) ≡ (is_among test xs || is_among test ys)
  among_append [] ys = refl
  among_append (x ∷ xs) ys = elim (test x) as (λ b. (b || is_among test (xs ++ ys)) ≡ ((b || is_among test xs) || is_among test ys)) [
    | true ↦ refl
    | false ↦ among_append xs ys
  ]

  first_picked : (y x : A) (ys : List A) (k : ℕ) → test y ≡ false → get_elem? (y ∷ ys) k ≡ some x → ((i : ℕ) → get_elem? ys i ≡ some x → test x ≡ false) → test x ≡ false
  first_picked y x ys zero off at later = ap test (sym (some-injective y x at)) ∙ off
  first_picked y x ys (suc k) off at later = later k at

  pub none_picked : (xs : List A) → picked test xs ≡ [] → (k : ℕ) (x : A) → get_elem? xs k ≡ some x → test x ≡ false
  none_picked [] none k x at = absurd (some-ne-none x (sym at))
  none_picked (y ∷ ys) none k x at = elim (test y) as (λ b. test y ≡ b → (if b then y ∷ picked test ys else picked test ys) ≡ [] → test x ≡ false) [
    | true ↦ λ is no. cc no
    | false ↦ λ is no. first_picked y x ys k is at (λ i there. none_picked ys no i x there)
  ] refl none

  pub picked_none : (xs : List A) → ((k : ℕ) (x : A) → get_elem? xs k ≡ some x → test x ≡ false) → picked test xs ≡ []
  picked_none [] none = refl
  picked_none (x ∷ xs) none = let a = none zero x refl in rw a (picked_none xs (λ k y at. none (suc k) y at))

module _ {E : Type 0} where
  pub entries_append : (xs ys : List (ℕ × E)) → entries (xs ++ ys) ≡ entries xs ++ entries ys
  entries_append [] ys = refl
  entries_append (x ∷ xs) ys = ap (λ (l : List E). x.1 ∷ l) (entries_append xs ys)

  entry_at : (log : List (ℕ × E)) (k : ℕ) (e : E) → get_elem? (entries log) k ≡ some e → (n : ℕ) × (get_elem? log k ≡ some (n, e))
  entry_at [] k e at = absurd (some-ne-none e (sym at))
  entry_at (x ∷ xs) zero e at = (x.0, ap (λ (y : E). some (x.0, y)) (some-injective x.1 e at))
  entry_at (x ∷ xs) (suc k) e at = entry_at xs k e at

  -- what the whole list has none of, a log of it has none of
  pub log_none : (test : E → Bool) (J : List E) (log : List (ℕ × E)) → LogOf J log → picked test J ≡ [] → picked test (entries log) ≡ []
  log_none test J log fits none = picked_none test (entries log) (λ k e at. let there = entry_at log k e at in none_picked test J none there.0 e (fits k there.0 e there.1))

module _ {V : Type 0} where
  pub total_snoc : (f : V → ℕ) (vs : List V) (v : V) → total f (vs ++ v ∷ []) ≡ total f vs + f v
  total_snoc f [] v = omega arith
  total_snoc f (x ∷ xs) v = let r = total_snoc f xs v in omega arith

  pub at_append : (l m : List V) (j : ℕ) (b : V) → get_elem? (l ++ m) j ≡ some b → (get_elem? l j ≡ some b) ⊎ ((i : ℕ) × (get_elem? m i ≡ some b))
  at_append [] m j b e = inr (j, e)
  at_append (x ∷ xs) m zero b e = inl e
  at_append (x ∷ xs) m (suc j) b e = at_append xs m j b e

  pub append_none : (xs : List V) → xs ++ [] ≡ xs
  append_none [] = refl
  append_none (x ∷ xs) = ap (λ l. x ∷ l) (append_none xs)

  pub reverse_twice : (xs : List V) → reverse (reverse xs) ≡ xs
  reverse_twice [] = refl
  reverse_twice (x ∷ xs) = ap reverse (reverse-append (x ∷ []) xs) ∙ (reverse-append (reverse xs) (x ∷ []) ∙ ap (λ l. x ∷ l) (reverse_twice xs))

module _ {A : Type 0} (f : ℕ → ℕ) where
  pub weigh_append : (xs ys : List (ℕ × A)) → weigh f (xs ++ ys) ≡ weigh f xs + weigh f ys
  weigh_append [] ys = omega arith
  weigh_append (x ∷ xs) ys = let r = weigh_append xs ys in omega arith

  pub weigh_all_append : (xs ys : List (List (ℕ × A))) → weigh_all f (xs ++ ys) ≡ weigh_all f xs + weigh_all f ys
  weigh_all_append [] ys = omega arith
  weigh_all_append (x ∷ xs) ys = let r = weigh_all_append xs ys in omega arith

pub load_snoc : {E : Type 0} (heavy : E → ℕ) (xs : List (ℕ × E)) (n : ℕ) (e : E) → load_of heavy (xs ++ (n, e) ∷ []) ≡ load_of heavy xs + heavy e
load_snoc heavy [] n e = omega arith
load_snoc heavy (x ∷ xs) n e = let r = load_snoc heavy xs n e in omega arith

pub one_here : (p : ℕ) → one_at p p ≡ 1
one_here p = rw (eq-eqb p p refl) refl

pub one_else : (p q : ℕ) → p ≢ q → one_at p q ≡ 0
one_else p q ne = rw (ne_eqb p q ne) refl

pub one_most : (p q : ℕ) → one_at p q ≤ 1
one_most p q = elim (p == q) as (λ b. (if b then 1 else 0) ≤ 1) [
  | true ↦ omega arith
  | false ↦ omega arith
]

pub one_same : (p q : ℕ) → 1 ≤ one_at p q → p ≡ q
one_same p q one = dite (ℕ_discrete p q) (λ e. e) (λ ne. let none = one_else p q ne in absurd (omega arith))

pub nothing_left : {A : Type 0} (l : List A) → length l ≡ 0 → l ≡ []
nothing_left [] h = refl
nothing_left (x ∷ xs) h = absurd (omega arith)
