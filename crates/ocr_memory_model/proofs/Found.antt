-- The races that are found among touches in their order: they rise, and they are those of two
-- touches that race.
use Rattle.std.proofs.Common.{◌≡◌, ◌<◌, inl, inr, ℕ, List, [], ◌∷◌, ◌++◌, Bool, true, false, if◌then◌else◌, refl, sym, ap, ◌∙◌, subst, arith}
use Rattle.std.proofs.lemmas.List.Elements.{Contains-append_left, Contains-append_right, Contains-append_cases}
use Rattle.std.proofs.lemmas.Map.Keys.{sorted_head, sorted_tail}
use Rattle.std.specs.List.{AllByRecursion, Contains}
use Rattle.std.specs.List.Sorted.{IsStrictlySortedBy}
use Rattle.std.specs.declared.cmp.Ordering.{Ordering}
use Rattle.std.specs.declared.cmp.Ordering.TheVariants.{Less}
use Rattle.ocr_acquire.proofs.Members.{Contains-nil, Contains-here, Contains-there, Contains-cases}
use Rattle.ocr_memory_model.specs.declared.race.Race.{Race}
use Rattle.ocr_memory_model.specs.declared.touch.Touch.{Touch}
use Rattle.ocr_memory_model.specs.RaceList.{race_cmp, IsRising}
use Rattle.ocr_memory_model.specs.Touches.{touch_cmp, is_same_word, race_of, are_racing, races_with, races_in}
use Rattle.ocr_memory_model.proofs.Ranks.{same_word, word_same, between, lesser_edt, races_rise, partners_rise}

-- LISTS
all_from : {A : Type 0} (P Q : A → Type 0) → ((x : A) → P x → Q x) → (xs : List A) → AllByRecursion P xs → AllByRecursion Q xs
all_from P Q f [] are = tt
all_from P Q f (x ∷ xs) are = (f x are.0, all_from P Q f xs are.1)

all_joined : {A : Type 0} (P : A → Type 0) (xs ys : List A) → AllByRecursion P xs → AllByRecursion P ys → AllByRecursion P (xs ++ ys)
all_joined P [] ys one other = other
all_joined P (x ∷ xs) ys one other = (one.0, all_joined P xs ys one.1 other)

pub all_at : {A : Type 0} (P : A → Type 0) (xs : List A) (x : A) → AllByRecursion P xs → Contains xs x → P x
all_at P [] x are there = absurd (Contains-nil x there)
all_at {A} P (y ∷ rest) x are there = elim (Contains-cases y x rest there) [
  | inl here ↦ subst P here are.0
  | inr later ↦ all_at P rest x are.1 later
]

sorted_none : {A : Type 0} (c : A → A → Ordering) → IsStrictlySortedBy c []
unfolding IsStrictlySortedBy
sorted_none c = tt

sorted_more : {A : Type 0} (c : A → A → Ordering) (x : A) (xs : List A) → AllByRecursion (λ y. c x y ≡ Less) xs → IsStrictlySortedBy c xs → IsStrictlySortedBy c (x ∷ xs)
unfolding IsStrictlySortedBy
sorted_more c x xs low rest = (low, rest)

sorted_joined : {A : Type 0} (c : A → A → Ordering) (xs ys : List A) → IsStrictlySortedBy c xs → IsStrictlySortedBy c ys → AllByRecursion (λ x. AllByRecursion (λ y. c x y ≡ Less) ys) xs → IsStrictlySortedBy c (xs ++ ys)
sorted_joined c [] ys one other low = other
sorted_joined {A} c (x ∷ xs) ys one other low =
    sorted_more c x (xs ++ ys) (all_joined (λ (y : A). c x y ≡ Less) xs ys (sorted_head c x xs one) low.0)
    (sorted_joined c xs ys (sorted_tail c x xs one) other low.1)

-- WHAT HOLDS OF EACH RACE
with_each : (P : Race → Type 0) (t : ℕ → ℕ → Bool) (x : Touch) (rest : List Touch) → AllByRecursion (λ y. is_same_word x y ≡ true → P (race_of x y)) rest → AllByRecursion P (races_with t x rest)
with_each P t x [] are = tt
with_each P t x (y ∷ rest) are = elim (is_same_word x y) as (λ b. is_same_word x y ≡ b → AllByRecursion P (if b then (if are_racing t x y then race_of x y ∷ [] else []) ++ races_with t x rest else [])) [
  | true ↦ λ is. elim (are_racing t x y) as (λ b. AllByRecursion P ((if b then race_of x y ∷ [] else []) ++ races_with t x rest)) [
    | true ↦ (are.0 is, with_each P t x rest are.1)
    | false ↦ with_each P t x rest are.1
  ]
  | false ↦ λ _. tt
] refl

in_each : (P : Race → Type 0) (t : ℕ → ℕ → Bool) (ts : List Touch) → AllByRecursion (λ x. (y : Touch) → P (race_of x y)) ts → AllByRecursion P (races_in t ts)
in_each P t [] are = tt
in_each P t (x ∷ rest) are =
    all_joined P (races_with t x rest) (races_in t rest)
    (with_each P t x rest (always rest))
    (in_each P t rest are.1)
  where
    always : (ys : List Touch) → AllByRecursion (λ y. is_same_word x y ≡ true → P (race_of x y)) ys
    always [] = tt
    always (y ∷ ys) = (λ _. are.0 y, always ys)

-- THEY RISE
with_rise : (t : ℕ → ℕ → Bool) (x : Touch) (rest : List Touch) → IsStrictlySortedBy touch_cmp rest → IsRising (races_with t x rest)
with_rise t x [] up = sorted_none race_cmp
with_rise t x (y ∷ rest) up = elim (is_same_word x y) as (λ b. is_same_word x y ≡ b → IsRising (if b then (if are_racing t x y then race_of x y ∷ [] else []) ++ races_with t x rest else [])) [
  | true ↦ λ is. elim (are_racing t x y) as (λ b. IsRising ((if b then race_of x y ∷ [] else []) ++ races_with t x rest)) [
    | true ↦ sorted_more race_cmp (race_of x y) (races_with t x rest)
        (with_each (λ r. race_cmp (race_of x y) r ≡ Less) t x rest
        (all_from (λ z. touch_cmp y z ≡ Less) (λ z. is_same_word x z ≡ true → race_cmp (race_of x y) (race_of x z) ≡ Less)
        (λ z low also. partners_rise x y z is low also) rest (sorted_head touch_cmp y rest up)))
        (with_rise t x rest (sorted_tail touch_cmp y rest up))
    | false ↦ with_rise t x rest (sorted_tail touch_cmp y rest up)
  ]
  | false ↦ λ _. sorted_none race_cmp
] refl

-- the races of the touches that come later come later
above : (t : ℕ → ℕ → Bool) (x y : Touch) (rest : List Touch) → AllByRecursion (λ z. touch_cmp x z ≡ Less) rest → AllByRecursion (λ q. race_cmp (race_of x y) q ≡ Less) (races_in t rest)
above t x y rest low =
    in_each (λ q. race_cmp (race_of x y) q ≡ Less) t rest
    (all_from (λ z. touch_cmp x z ≡ Less) (λ z. (w : Touch) → race_cmp (race_of x y) (race_of z w) ≡ Less) (λ z k w. races_rise x y z w k) rest low)

pub in_rise : (t : ℕ → ℕ → Bool) (ts : List Touch) → IsStrictlySortedBy touch_cmp ts → IsRising (races_in t ts)
in_rise t [] up = sorted_none race_cmp
in_rise t (x ∷ rest) up =
    let low : AllByRecursion (λ z. touch_cmp x z ≡ Less) rest = sorted_head touch_cmp x rest up in
    sorted_joined race_cmp (races_with t x rest) (races_in t rest) (with_rise t x rest (sorted_tail touch_cmp x rest up)) (in_rise t rest (sorted_tail touch_cmp x rest up))
    (with_each (λ r. AllByRecursion (λ q. race_cmp r q ≡ Less) (races_in t rest)) t x rest
    (all_from (λ z. touch_cmp x z ≡ Less) (λ y. is_same_word x y ≡ true → AllByRecursion (λ q. race_cmp (race_of x y) q ≡ Less) (races_in t rest)) (λ y _ _. above t x y rest low) rest low))

-- EACH IS THERE
found_with : (t : ℕ → ℕ → Bool) (x y : Touch) (rest : List Touch) → AllByRecursion (λ z. touch_cmp x z ≡ Less) rest → IsStrictlySortedBy touch_cmp rest → Contains rest y → is_same_word x y ≡ true → are_racing t x y ≡ true → Contains (races_with t x rest) (race_of x y)
found_with t x y [] low up there is race = absurd (Contains-nil y there)
found_with t x y (z ∷ rest) low up there is race = elim (Contains-cases z y rest there) [
  | inl here ↦
      let same : is_same_word x z ≡ true = subst (λ w. is_same_word x w ≡ true) (sym here) is in
      let racing : are_racing t x z ≡ true = subst (λ w. are_racing t x w ≡ true) (sym here) race in
      subst (λ b. Contains (if b then (if are_racing t x z then race_of x z ∷ [] else []) ++ races_with t x rest else []) (race_of x y)) (sym same)
      (subst (λ b. Contains ((if b then race_of x z ∷ [] else []) ++ races_with t x rest) (race_of x y)) (sym racing)
      (Contains-here (race_of x z) (race_of x y) (races_with t x rest) (ap (race_of x) here)))
  | inr later ↦
      let same : is_same_word x z ≡ true = between x z y low.0 (all_at (λ w. touch_cmp z w ≡ Less) rest y (sorted_head touch_cmp z rest up) later) is in
      subst (λ b. Contains (if b then (if are_racing t x z then race_of x z ∷ [] else []) ++ races_with t x rest else []) (race_of x y)) (sym same)
      (Contains-append_right (if are_racing t x z then race_of x z ∷ [] else []) (races_with t x rest) (race_of x y)
      (found_with t x y rest low.1 (sorted_tail touch_cmp z rest up) later is race))
]

same_flips : (x y : Touch) → is_same_word x y ≡ true → is_same_word y x ≡ true
same_flips x y is = let s = same_word x y is in word_same y x (sym s.0) (sym s.1)

pub found_in : (t : ℕ → ℕ → Bool) (x y : Touch) (ts : List Touch) → IsStrictlySortedBy touch_cmp ts → Contains ts x → Contains ts y → x.edt < y.edt → is_same_word x y ≡ true → are_racing t x y ≡ true → Contains (races_in t ts) (race_of x y)
found_in t x y [] up has_x has_y less is race = absurd (Contains-nil x has_x)
found_in t x y (z ∷ rest) up has_x has_y less is race =
    let low : AllByRecursion (λ w. touch_cmp z w ≡ Less) rest = sorted_head touch_cmp z rest up in
    let tail : IsStrictlySortedBy touch_cmp rest = sorted_tail touch_cmp z rest up in
    elim (Contains-cases z x rest has_x) [
      | inl here ↦ elim (Contains-cases z y rest has_y) [
        | inl also ↦ absurd (let e : x.edt ≡ y.edt = ap (λ (w : Touch). w.edt) (sym here ∙ also) in omega (arith, e, less))
        | inr later ↦ Contains-append_left (races_with t z rest) (races_in t rest) (race_of x y)
            (subst (λ w. Contains (races_with t z rest) (race_of w y)) here
            (found_with t z y rest low tail later (subst (λ w. is_same_word w y ≡ true) (sym here) is) (subst (λ w. are_racing t w y ≡ true) (sym here) race)))
      ]
      | inr after ↦ elim (Contains-cases z y rest has_y) [
        | inl here ↦ absurd (
            let first : touch_cmp y x ≡ Less = subst (λ w. touch_cmp w x ≡ Less) here (all_at (λ w. touch_cmp z w ≡ Less) rest x low after) in
            let k : y.edt < x.edt = lesser_edt y x first (same_flips x y is) in omega (arith, k, less))
        | inr later ↦ Contains-append_right (races_with t z rest) (races_in t rest) (race_of x y)
            (found_in t x y rest tail after later less is race)
      ]
    ]

-- AND NOTHING ELSE
pub record IsFound (t : ℕ → ℕ → Bool) (ts : List Touch) (x y : Touch) (r : Race) : Type 0 where
  pub one : Contains ts x
  pub other : Contains ts y
  pub less : x.edt < y.edt
  pub word : is_same_word x y ≡ true
  pub race : are_racing t x y ≡ true
  pub is : race_of x y ≡ r

record IsPartner (t : ℕ → ℕ → Bool) (x : Touch) (rest : List Touch) (y : Touch) (r : Race) : Type 0 where
  there : Contains rest y
  word : is_same_word x y ≡ true
  race : are_racing t x y ≡ true
  is : race_of x y ≡ r

partner_later : (t : ℕ → ℕ → Bool) (x y : Touch) (rest : List Touch) (r : Race) → (z : Touch) × IsPartner t x rest z r → (z : Touch) × IsPartner t x (y ∷ rest) z r
partner_later t x y rest r p =
    (p.0, record { there = Contains-there y p.0 rest p.1.there; word = p.1.word; race = p.1.race; is = p.1.is })

from_with : (t : ℕ → ℕ → Bool) (x : Touch) (rest : List Touch) (r : Race) → Contains (races_with t x rest) r → (y : Touch) × IsPartner t x rest y r
from_with t x [] r there = absurd (Contains-nil r there)
from_with t x (y ∷ rest) r there = elim (is_same_word x y) as (λ b. is_same_word x y ≡ b → Contains (if b then (if are_racing t x y then race_of x y ∷ [] else []) ++ races_with t x rest else []) r → (y' : Touch) × IsPartner t x (y ∷ rest) y' r) [
  | true ↦ λ is. elim (are_racing t x y) as (λ b. are_racing t x y ≡ b → Contains ((if b then race_of x y ∷ [] else []) ++ races_with t x rest) r → (y' : Touch) × IsPartner t x (y ∷ rest) y' r) [
    | true ↦ λ race k. elim (Contains-cases (race_of x y) r (races_with t x rest) k) [
      | inl here ↦ (y, record { there = Contains-here y y rest refl; word = is; race = race; is = here })
      | inr later ↦ partner_later t x y rest r (from_with t x rest r later)
    ]
    | false ↦ λ _ k. partner_later t x y rest r (from_with t x rest r k)
  ] refl
  | false ↦ λ _ k. absurd (Contains-nil r k)
] refl there

pub from_in : (t : ℕ → ℕ → Bool) (ts : List Touch) (r : Race) → IsStrictlySortedBy touch_cmp ts → Contains (races_in t ts) r → (x : Touch) × (y : Touch) × IsFound t ts x y r
from_in t [] r up there = absurd (Contains-nil r there)
from_in t (x ∷ rest) r up there = elim (Contains-append_cases (races_with t x rest) (races_in t rest) r there) [
  | inl here ↦
      let p = from_with t x rest r here in (
        x,
        p.0,
        record {
          one = Contains-here x x rest refl;
          other = Contains-there x p.0 rest p.1.there;
          less = lesser_edt x p.0 (all_at (λ w. touch_cmp x w ≡ Less) rest p.0 (sorted_head touch_cmp x rest up) p.1.there) p.1.word;
          word = p.1.word;
          race = p.1.race;
          is = p.1.is;
        },
      )
  | inr later ↦
      let p = from_in t rest r (sorted_tail touch_cmp x rest up) later in (
        p.0,
        p.1,
        record {
          one = Contains-there x p.0 rest p.2.one;
          other = Contains-there x p.1 rest p.2.other;
          less = p.2.less;
          word = p.2.word;
          race = p.2.race;
          is = p.2.is;
        },
      )
]
