-- Sets of places where there is one place more.
use Rattle.std.proofs.Common.{◌≡◌, ◌≤◌, ◌<◌, ℕ, suc, ◌+◌, ◌==◌, ◌||◌, ◌/◌, List, [], ◌∷◌, length, Bool, true, false, if◌then◌else◌, Some, None, refl, sym, ap, ◌∙◌, subst, arith}
use Rattle.std.specs.List.{AllByRecursion}
use Rattle.ocr_memory_model_rows.specs.Bundles.{row_in, noted, IsNoted}
use Rattle.ocr_memory_model_rows.specs.Order.{IsNextRow, IsBundle, AreBundles}
use Rattle.ocr_memory_model_rows.specs.Places.{Graph, reaches, reaches_any}
use Rattle.ocr_memory_model_rows.specs.Rows.{has}
use Rattle.ocr_memory_model_rows.specs.declared.bundles.Bundles.{Bundles}
use Rattle.ocr_memory_model_rows.proofs.Reach.{any_same, reach_new, reach_old}

all_from : (P Q : ℕ → Type 0) (xs : List ℕ) → ((n : ℕ) → P n → Q n) → AllByRecursion P xs → AllByRecursion Q xs
all_from P Q [] f are = tt
all_from P Q (x ∷ xs) f are = (f x are.0, all_from P Q xs f are.1)

-- the sets stay
same_any : (g : Graph) (causes : List ℕ) (a : ℕ) (places : List ℕ) → AllByRecursion (λ c. c < length g) places → reaches_any (causes ∷ g) a places ≡ reaches_any g a places
same_any g causes a places below = any_same (λ c. reaches (causes ∷ g) a c) (λ c. reaches g a c) places
    (all_from (λ c. c < length g) (λ c. reaches (causes ∷ g) a c ≡ reaches g a c) places (λ c h. reach_old g causes a c h) below)

pub bundle_kept : (g : Graph) (causes places row : List ℕ) → AllByRecursion (λ c. c < length g) places → IsBundle g places row → IsBundle (causes ∷ g) places row
bundle_kept g causes places row below is a = is a ∙ sym (same_any g causes a places below)

-- or have the place more
or_flips : (x y : Bool) → (x || y) ≡ (y || x)
or_flips true true = refl
or_flips true false = refl
or_flips false true = refl
or_flips false false = refl

pub bundle_more : (g : Graph) (causes places row old new : List ℕ) → AllByRecursion (λ c. c < length g) places → IsBundle g places old → IsNextRow g causes row → ((a : ℕ) → has new a ≡ (has old a || has row a)) → IsBundle (causes ∷ g) (length g ∷ places) new
bundle_more g causes places row old new below is next joined a =
    let x : has old a ≡ reaches_any (causes ∷ g) a places = bundle_kept g causes places old below is a in
    let y : has row a ≡ reaches (causes ∷ g) a (length g) = next.is a ∙ sym (reach_new g causes a) in
    joined a ∙ ap (λ b. b || has row a) x ∙ ap (λ b. reaches_any (causes ∷ g) a places || b) y ∙ or_flips (reaches_any (causes ∷ g) a places) (reaches (causes ∷ g) a (length g))

below_more : (g : Graph) (causes places : List ℕ) → AllByRecursion (λ c. c < length g) places → AllByRecursion (λ c. c < length (causes ∷ g)) places
below_more g causes places below = all_from (λ c. c < length g) (λ c. c < suc (length g)) places (λ c h. omega (arith, h)) below

pub noted_none : (g : Graph) (causes : List ℕ) (f h : ℕ → List ℕ) (bundles : Bundles) → AreBundles g f bundles → IsNoted None (length g) f h → AreBundles (causes ∷ g) h bundles
noted_none g causes f h bundles are same = record {
  room = λ n. let r = are.room n in omega (arith, r);
  below = λ n. subst (λ l. AllByRecursion (λ c. c < length (causes ∷ g)) l) (sym (same n)) (below_more g causes (f n) (are.below n));
  is = λ n. subst (λ l. IsBundle (causes ∷ g) l (row_in bundles.rows n)) (sym (same n)) (bundle_kept g causes (f n) (row_in bundles.rows n) (are.below n) (are.is n));
}

noted_below : (g : Graph) (causes : List ℕ) (number n : ℕ) (places : List ℕ) → AllByRecursion (λ c. c < length g) places → AllByRecursion (λ c. c < length (causes ∷ g)) (noted (Some number) (length g) n places)
noted_below g causes number n places below = elim (number == n) as (λ t. AllByRecursion (λ c. c < length (causes ∷ g)) (if t then length g ∷ places else places)) [
  | true ↦ (omega arith, below_more g causes places below)
  | false ↦ below_more g causes places below
]

noted_is : (g : Graph) (causes : List ℕ) (number n : ℕ) (places row old new : List ℕ) → AllByRecursion (λ c. c < length g) places → IsBundle g places old → IsNextRow g causes row → ((a : ℕ) → has new a ≡ (if number == n then has old a || has row a else has old a)) → IsBundle (causes ∷ g) (noted (Some number) (length g) n places) new
noted_is g causes number n places row old new below is next joined = elim (number == n) as (λ t. ((a : ℕ) → has new a ≡ (if t then has old a || has row a else has old a)) → IsBundle (causes ∷ g) (if t then length g ∷ places else places) new) [
  | true ↦ λ j. bundle_more g causes places row old new below is next j
  | false ↦ λ j a. j a ∙ bundle_kept g causes places old below is a
] joined

pub noted_some : (g : Graph) (causes : List ℕ) (f h : ℕ → List ℕ) (number : ℕ) (row : List ℕ) (old new : Bundles) → AreBundles g f old → IsNextRow g causes row → IsNoted (Some number) (length g) f h
    → ((n a : ℕ) → has (row_in new.rows n) a ≡ (if number == n then has (row_in old.rows n) a || has row a else has (row_in old.rows n) a))
    → ((n m : ℕ) → length (row_in old.rows n) ≤ m → length row ≤ m → length (row_in new.rows n) ≤ m) → AreBundles (causes ∷ g) h new
noted_some g causes f h number row old new are next same joined room = record {
  room = λ n. room n (length (causes ∷ g) / 64 + 1) (let r = are.room n in omega (arith, r)) (let r = next.room in omega (arith, r));
  below = λ n. subst (λ l. AllByRecursion (λ c. c < length (causes ∷ g)) l) (sym (same n)) (noted_below g causes number n (f n) (are.below n));
  is = λ n. subst (λ l. IsBundle (causes ∷ g) l (row_in new.rows n)) (sym (same n)) (noted_is g causes number n (f n) row (row_in old.rows n) (row_in new.rows n) (are.below n) (are.is n) next (joined n));
}
