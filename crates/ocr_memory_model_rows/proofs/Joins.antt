-- The row of the next place, with one more place or set of places before it.
use Rattle.std.proofs.Common.{◌≡◌, ◌≤◌, ◌<◌, ℕ, suc, ◌+◌, ◌==◌, ◌||◌, ◌/◌, ◌%◌, List, zero, [], ◌∷◌, ◌++◌, length, take, get_or, Bool, true, false, refl, sym, ap, ◌∙◌, subst, arith}
use Rattle.std.specs.List.{list_any}
use Rattle.std.proofs.lemmas.List.Folds.{list_any-append, list_any_more}
use Rattle.std.proofs.lemmas.Nat.Bits.{bit_at-zero}
use Rattle.ocr_memory_model_rows.specs.Order.{IsNextRow, IsBundle}
use Rattle.ocr_memory_model_rows.specs.Places.{Graph, reaches, reaches_any}
use Rattle.ocr_memory_model_rows.specs.Rows.{has}

or_swaps : (x y z : Bool) → ((x || y) || z) ≡ (x || (z || y))
or_swaps true y z = refl
or_swaps false true true = refl
or_swaps false true false = refl
or_swaps false false true = refl
or_swaps false false false = refl

-- the row grew to no more than the length that it has to have
same_length : (g : Graph) (old new other : List ℕ) → length old ≡ length g / 64 + 1 → length other ≤ length g / 64 + 1 → length old ≤ length new → ((n : ℕ) → length old ≤ n → length other ≤ n → length new ≤ n) → length new ≡ length g / 64 + 1
same_length g old new other is low least most = let m = most (length g / 64 + 1) (omega (arith, is)) low in omega (arith, is, least, m)

pub next_joined : (g : Graph) (causes xs old new other : List ℕ) → IsNextRow g causes old → length other ≤ length g / 64 + 1 → IsBundle g xs other → length old ≤ length new → ((n : ℕ) → length old ≤ n → length other ≤ n → length new ≤ n)
    → ((a : ℕ) → has new a ≡ (has old a || has other a)) → IsNextRow g (xs ++ causes) new
next_joined g causes xs old new other next low bundle least most joined = record {
  room = same_length g old new other next.room low least most;
  is = λ a. joined a ∙ ap (λ b. b || has other a) (next.is a) ∙ ap (λ b. ((a == length g) || reaches_any g a causes) || b) (bundle a)
      ∙ or_swaps (a == length g) (reaches_any g a causes) (reaches_any g a xs)
      ∙ ap (λ b. (a == length g) || b) (sym (list_any-append (λ c. reaches g a c) xs causes));
}

-- the same places in another order
pub next_same : (g : Graph) (one other row : List ℕ) → ((a : ℕ) → reaches_any g a one ≡ reaches_any g a other) → IsNextRow g one row → IsNextRow g other row
next_same g one other row same next = record {
  room = next.room;
  is = λ a. next.is a ∙ ap (λ b. (a == length g) || b) (same a);
}

or_moves : (x y z : Bool) → (x || (y || z)) ≡ ((y || x) || z)
or_moves true true z = refl
or_moves true false z = refl
or_moves false true z = refl
or_moves false false z = refl

pub next_taken : (g : Graph) (causes places row : List ℕ) (i place : ℕ) → i < length places → place ≡ get_or places i 0 → IsNextRow g (place ∷ (take i places ++ causes)) row → IsNextRow g (take (i + 1) places ++ causes) row
next_taken g causes places row i place low is next = next_same g (place ∷ (take i places ++ causes)) (take (i + 1) places ++ causes) row (λ a.
    let p : ℕ → Bool = λ c. reaches g a c in
    ap (λ b. reaches g a place || b) (list_any-append p (take i places) causes)
    ∙ or_moves (reaches g a place) (list_any p (take i places)) (list_any p causes)
    ∙ ap (λ c. (list_any p (take i places) || reaches g a c) || list_any p causes) is
    ∙ ap (λ b. b || list_any p causes) (sym (list_any_more p places i 0 low))
    ∙ sym (list_any-append p (take (i + 1) places) causes)) next

or_none : (x : Bool) → x ≡ (x || false)
or_none true = refl
or_none false = refl

pub place_bundle : (g : Graph) (place : ℕ) (row : List ℕ) → ((a : ℕ) → has row a ≡ reaches g a place) → IsBundle g (place ∷ []) row
place_bundle g place row is a = is a ∙ or_none (reaches g a place)

pub place_low : (g : Graph) (place : ℕ) (row : List ℕ) → place < length g → length row ≡ place / 64 + 1 → length row ≤ length g / 64 + 1
place_low g place row below is = omega (arith, below, is)

pub none_joined : (g : Graph) (causes xs row : List ℕ) → IsBundle g xs [] → IsNextRow g causes row → IsNextRow g (xs ++ causes) row
none_joined g causes xs row none next = next_same g causes (xs ++ causes) row (λ a.
    let off : reaches_any g a xs ≡ false = sym (none a) ∙ ap (λ n. n == 1) (bit_at-zero (a % 64)) in
    sym (list_any-append (λ c. reaches g a c) xs causes ∙ ap (λ b. b || reaches_any g a causes) off)) next

pub taken_all : (xs : List ℕ) (i : ℕ) → length xs ≤ i → take i xs ≡ xs
taken_all [] zero low = refl
taken_all [] (suc i) low = refl
taken_all (x ∷ xs) zero low = absurd (omega (arith, low))
taken_all (x ∷ xs) (suc i) low = ap (λ l. x ∷ l) (taken_all xs i (omega (arith, low)))

pub bundle_is : (g : Graph) (places one other : List ℕ) → one ≡ other → IsBundle g places other → IsBundle g places one
bundle_is g places one other same is = subst (IsBundle g places) (sym same) is

pub bundle_low : (g : Graph) (one other : List ℕ) → one ≡ other → length other ≤ length g / 64 + 1 → length one ≤ length g / 64 + 1
bundle_low g one other same is = subst (λ l. length l ≤ length g / 64 + 1) (sym same) is
