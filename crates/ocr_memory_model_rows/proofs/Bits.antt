-- Sets of places as words.
use Rattle.std.proofs.Common.{w64, ◌⊎◌, inl, inr, ◌≡◌, ◌≤◌, ◌<◌, ◌≢◌, ℕ, zero, suc, ◌*◌, ◌/◌, ◌%◌, ◌^◌, ◌==◌, ◌||◌, max, List, length, refl, sym, ap, ◌∙◌, arith, set}
use Rattle.std.specs.Prelude.{slice_index}
use Rattle.std.specs.Int.{bit_at}
use Rattle.std.specs.Int.Bits as bits
use Rattle.std.specs.Int.RustNames.{bit_or}
use Rattle.std.proofs.lemmas.Nat.Bits.{bit_at_or, bit_at-lt, bit_at-zero, bit_at_set_same, bit_at_set_other}
use Rattle.std.proofs.lemmas.Bool.{cases_order, cases_Bool, eqb-true, eq-eqb, eqb-false, ne_eqb}
use Rattle.std.proofs.lemmas.List.{get_or-set_other}
use Rattle.std.proofs.lemmas.Grind.{get_or-set_at}
use Rattle.ocr_memory_model_rows.specs.Rows.{has}

pub max_one : (p q : ℕ) → p < 2 → q < 2 → (max p q == 1) ≡ ((p == 1) || (q == 1))
max_one zero zero h k = refl
max_one zero (suc zero) h k = refl
max_one (suc zero) zero h k = refl
max_one (suc zero) (suc zero) h k = refl
max_one zero (suc (suc q)) h k = absurd (omega arith)
max_one (suc zero) (suc (suc q)) h k = absurd (omega arith)
max_one (suc (suc p)) q h k = absurd (omega arith)

pub bit_one_or : (x y i : ℕ) → (bit_at (bit_or x y) i == 1) ≡ ((bit_at x i == 1) || (bit_at y i == 1))
bit_one_or x y i =
    ap (λ b. b == 1) (bit_at_or x y i) ∙ max_one (bit_at x i) (bit_at y i) (bit_at-lt x i) (bit_at-lt y i)

-- each word is joined
pub has_joined : (new old others : List ℕ)
    → ((j : ℕ) → slice_index new j ≡ bit_or (slice_index old j) (slice_index others j))
    → (a : ℕ) → has new a ≡ (has old a || has others a)
has_joined new old others words a =
    ap (λ w. bit_at w (a % 64) == 1) (words (a / 64))
    ∙ bit_one_or (slice_index old (a / 64)) (slice_index others (a / 64)) (a % 64)

-- words that are the same
pub has_same : (new old : List ℕ) → ((j : ℕ) → slice_index new j ≡ slice_index old j)
    → (a : ℕ) → has new a ≡ has old a
has_same new old words a = ap (λ w. bit_at w (a % 64) == 1) (words (a / 64))

pub split : (j n : ℕ) → (j < n) ⊎ (n ≤ j)
split j n = elim (cases_order j n) [
  | inl e ↦ inr (omega (arith, e))
  | inr o ↦ elim o [ inl l ↦ inl l | inr g ↦ inr (omega (arith, g)) ]
]

-- the word with one bit
shifted_same : (r : ℕ) → r < 64 → bit_at (1 * 2 ^ r % 18446744073709551616) r ≡ 1
shifted_same r h = ap (λ x. bit_at x r) (sym (bits.or_zero_l (1 * 2 ^ r % 18446744073709551616))) ∙ bit_at_set_same w64 0 r h

shifted_other : (r i : ℕ) → r < 64 → i ≢ r → bit_at (1 * 2 ^ r % 18446744073709551616) i ≡ 0
shifted_other r i h apart = ap (λ x. bit_at x i) (sym (bits.or_zero_l (1 * 2 ^ r % 18446744073709551616))) ∙ bit_at_set_other w64 0 r h i apart ∙ bit_at-zero i

-- one place, in words that have none
pub one_place : (words : List ℕ) (place : ℕ) → ((j : ℕ) → slice_index words j ≡ 0) → place / 64 < length words → (a : ℕ) → has (set words (place / 64) (1 * 2 ^ (place % 64) % 18446744073709551616)) a ≡ (a == place)
one_place words place none room a =
    let x : ℕ = 1 * 2 ^ (place % 64) % 18446744073709551616 in
    let small : place % 64 < 64 = omega arith in
    elim (cases_Bool (a / 64 == place / 64)) [
      | inl w ↦
          let word : a / 64 ≡ place / 64 = eqb-true (a / 64) (place / 64) w in
          let is : slice_index (set words (place / 64) x) (a / 64) ≡ x = get_or-set_at words (place / 64) (a / 64) x 0 word room in
          let start : has (set words (place / 64) x) a ≡ (bit_at x (a % 64) == 1) = ap (λ y. bit_at y (a % 64) == 1) is in
          elim (cases_Bool (a % 64 == place % 64)) [
            | inl b ↦
                let bit : a % 64 ≡ place % 64 = eqb-true (a % 64) (place % 64) b in
                let here : a ≡ place = omega (arith, word, bit) in
                start ∙ ap (λ i. bit_at x i == 1) bit ∙ ap (λ y. y == 1) (shifted_same (place % 64) small) ∙ sym (eq-eqb a place here)
            | inr b ↦
                let apart : a % 64 ≢ place % 64 = eqb-false (a % 64) (place % 64) b in
                start ∙ ap (λ y. y == 1) (shifted_other (place % 64) (a % 64) small apart) ∙ sym (ne_eqb a place (λ e. apart (ap (λ n. n % 64) e)))
          ]
      | inr w ↦
          let apart : a / 64 ≢ place / 64 = eqb-false (a / 64) (place / 64) w in
          ap (λ y. bit_at y (a % 64) == 1) (get_or-set_other words (place / 64) (a / 64) x 0 apart ∙ none (a / 64))
          ∙ ap (λ y. y == 1) (bit_at-zero (a % 64)) ∙ sym (ne_eqb a place (λ e. apart (ap (λ n. n / 64) e)))
    ]
