-- A plan is what is left of the sorted slots, where of each block the last one stays.
use Rattle.std.proofs.Common.{◌≡◌, ◌⊎◌, ℕ, ◌<◌, ◌≤◌, List, [], ◌∷◌, suc, Bool, true, false, ◌==◌, nat_lt, if◌then◌else◌, inl, inr, refl, sym, arith, ap, ◌∙◌}
use native.Mathlib.Numerals.{unary_clauses}
use Rattle.std.specs.List.{All, Contains, filter}
use Rattle.std.specs.List.Sorted.{IsSortedBy, IsPermutation}
use Rattle.std.proofs.lemmas.Bool.{eqb-true, eqb-false, lt-ltb, le-ltb, eq-eqb}
use Rattle.std.proofs.lemmas.List.Elements.{All-head, All-tail, filter_passes}
use Rattle.std.proofs.lemmas.List.Sorted.{All-permutation, Contains-permutation, IsPermutation-sym}
use Rattle.ocr_acquire.specs.declared.Mode.{Mode}
use Rattle.ocr_acquire.specs.Mode.{rank_of}
use Rattle.ocr_acquire.specs.Plan.{IsWanted, IsPlan, stronger, put, asks, plan_of, last_of_each}
use Rattle.ocr_acquire.proofs.Members.{Contains-filter, filter-Contains}
use Rattle.ocr_acquire.proofs.Ranks as rank
use Rattle.ocr_acquire.proofs.Laws.{plan_law, only_plan_law}

abbrev pub IsUpTo : ℕ × Mode → ℕ × Mode → Type 0
IsUpTo e f = (e.0 < f.0) ⊎ ((e.0 ≡ f.0) × (rank_of e.1 ≤ rank_of f.1))

abbrev pub IsUpToFirst : ℕ × Mode → List (ℕ × Mode) → Type 0
IsUpToFirst e [] = Unit {0}
IsUpToFirst e (f ∷ _) = IsUpTo e f

-- by block, and of one block the weaker mode first
abbrev pub Ascends : List (ℕ × Mode) → Type 0
Ascends [] = Unit {0}
Ascends (e ∷ rest) = IsUpToFirst e rest × Ascends rest

pub ascends_from_sorted : (lt : ℕ × Mode → ℕ × Mode → Bool) → ((e f : ℕ × Mode) → lt f e ≡ false → IsUpTo e f)
    → (xs : List (ℕ × Mode)) → IsSortedBy lt xs → Ascends xs
ascends_from_sorted lt tells [] s = tt
ascends_from_sorted lt tells (x ∷ []) s = (tt, tt)
ascends_from_sorted lt tells (x ∷ y ∷ rest) s =
    (tells x y (s 0 x (omega arith) (omega arith)), ascends_from_sorted lt tells (y ∷ rest) (λ k d low high. simp unary_clauses (simp unary_clauses at (s (suc k) d (omega arith) (omega arith)))))

-- the first of what is left speaks of the first block, in no weaker mode
pub record BeginsWith (e : ℕ × Mode) (list : List (ℕ × Mode)) : Type 0 where
  pub mode : Mode
  pub rest : List (ℕ × Mode)
  pub is : list ≡ (e.0, mode) ∷ rest
  pub bound : rank_of e.1 ≤ rank_of mode

first_by : (x y : ℕ × Mode) (list : List (ℕ × Mode)) (t : Bool) → (x.0 == y.0) ≡ t → IsUpTo x y → BeginsWith y list
    → BeginsWith x (if t then list else x ∷ list)
first_by x y list true k u b = let same : x.0 ≡ y.0 = eqb-true x.0 y.0 k in elim u [
  | inl lt ↦ absurd (omega arith)
  | inr h ↦ record { mode = b.mode; rest = b.rest; is = rw same b.is; bound = omega (arith, h.1, b.bound) }
]
first_by x y list false k u b = record { mode = x.1; rest = list; is = refl; bound = omega arith }

pub first_of_last : (x : ℕ × Mode) (rest : List (ℕ × Mode)) → Ascends (x ∷ rest) → BeginsWith x (last_of_each (x ∷ rest))
first_of_last x [] h = record { mode = x.1; rest = []; is = refl; bound = omega arith }
first_of_last x (y ∷ rest) h = first_by x y (last_of_each (y ∷ rest)) (x.0 == y.0) refl h.0 (first_of_last y rest h.1)

front_same : (x y : ℕ × Mode) (m : Mode) (rest : List (ℕ × Mode)) → x.0 ≡ y.0 → rank_of x.1 ≤ rank_of m
    → put x.0 x.1 ((y.0, m) ∷ rest) ≡ (y.0, m) ∷ rest
front_same x y m rest e h =
    let a : nat_lt x.0 y.0 ≡ false = le-ltb x.0 y.0 (omega arith) in
    let b : (x.0 == y.0) ≡ true = eq-eqb x.0 y.0 e in
    rw (a, b) (ap (λ (p : ℕ × Mode). p ∷ rest) (rank.pair_eq x.0 y.0 (stronger x.1 m) m e (rank.stronger-right x.1 m h)))

front_apart : (x y : ℕ × Mode) (m : Mode) (rest : List (ℕ × Mode)) → x.0 < y.0 → put x.0 x.1 ((y.0, m) ∷ rest) ≡ x ∷ (y.0, m) ∷ rest
front_apart x y m rest h = let a : nat_lt x.0 y.0 ≡ true = lt-ltb x.0 y.0 h in rw a refl

front_by : (x y : ℕ × Mode) (list : List (ℕ × Mode)) (t : Bool) → (x.0 == y.0) ≡ t → IsUpTo x y → BeginsWith y list
    → put x.0 x.1 list ≡ (if t then list else x ∷ list)
front_by x y list true k u b = let same : x.0 ≡ y.0 = eqb-true x.0 y.0 k in
    let low : rank_of x.1 ≤ rank_of b.mode = elim u [ inl lt ↦ absurd (omega arith) | inr h ↦ omega (arith, h.1, b.bound) ] in
    rw b.is (front_same x y b.mode b.rest same low)
front_by x y list false k u b =
    let above : x.0 < y.0 = elim u [ inl lt ↦ lt | inr h ↦ absurd (eqb-false x.0 y.0 k h.0) ] in
    rw b.is (front_apart x y b.mode b.rest above)

taken : (t : Bool) (one other : List (ℕ × Mode)) → t ≡ true → (if t then one else other) ≡ one
taken true one other h = refl
taken false one other h = cc

abbrev IsAsking : ℕ × Mode → Type 0
IsAsking e = asks e ≡ true

last_is_plan : (xs : List (ℕ × Mode)) → Ascends xs → All IsAsking xs → plan_of xs ≡ last_of_each xs
last_is_plan [] h a = refl
last_is_plan (x ∷ []) h a = taken (asks x) (put x.0 x.1 []) [] (All-head IsAsking x [] a)
last_is_plan (x ∷ y ∷ rest) h a =
    taken (asks x) (put x.0 x.1 (plan_of (y ∷ rest))) (plan_of (y ∷ rest)) (All-head IsAsking x (y ∷ rest) a)
    ∙ ap (put x.0 x.1) (last_is_plan (y ∷ rest) h.1 (All-tail IsAsking x (y ∷ rest) a))
    ∙ front_by x y (last_of_each (y ∷ rest)) (x.0 == y.0) refl h.0 (first_of_last y rest h.1)

-- to leave out the slots that ask for nothing, and to sort, changes nothing of what is wanted
module _ (slots xs : List (ℕ × Mode)) (p : IsPermutation (filter asks slots) xs) where
  in_slots : (e : ℕ × Mode) → Contains xs e → Contains slots e
  in_slots e i = Contains-filter asks slots e (Contains-permutation xs (filter asks slots) e (IsPermutation-sym (filter asks slots) xs p) i)

  in_sorted : (e : ℕ × Mode) → asks e ≡ true → Contains slots e → Contains xs e
  in_sorted e a i = Contains-permutation (filter asks slots) xs e p (filter-Contains asks slots e a i)

  to_slots : (block : ℕ) (m : Mode) → IsWanted xs block m → IsWanted slots block m
  to_slots block m w = record {
    named = w.named;
    used = w.used;
    asked = in_slots (block, m) w.asked;
    strongest = λ other i. elim (rank.null_or_used other) [
      | inl z ↦ omega (arith, rank.rank_of-null other z)
      | inr u ↦ w.strongest other (in_sorted (block, other) (rank.asks-from (block, other) (omega (arith, w.named)) u) i)
    ];
  }

  from_slots : (block : ℕ) (m : Mode) → IsWanted slots block m → IsWanted xs block m
  from_slots block m w = record {
    named = w.named;
    used = w.used;
    asked = in_sorted (block, m) (rank.asks-from (block, m) (omega (arith, w.named)) w.used) w.asked;
    strongest = λ other i. w.strongest other (in_slots (block, other) i);
  }

  pub sorted_plan : Ascends xs → last_of_each xs ≡ plan_of slots
  sorted_plan s =
      let g = plan_law xs in
      let q : IsPlan slots (plan_of xs) = record {
        rising = g.rising;
        wanted = λ block m. (λ i. to_slots block m ((g.wanted block m).0 i), λ w. (g.wanted block m).1 (from_slots block m w));
      } in
      sym (last_is_plan xs s (All-permutation IsAsking (filter asks slots) xs p (filter_passes asks slots))) ∙ only_plan_law slots (plan_of xs) q
