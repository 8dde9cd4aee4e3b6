-- Hands in the order of their numbers are all hands, each once.
use Rattle.std.proofs.Common.{◌≡◌, ◌≢◌, ◌∙◌, ◌<◌, ◌≤◌, ◌+◌, ℕ, zero, suc, List, [], ◌∷◌, All, length, get_or, refl, ap, arith}
use Rattle.std.specs.List.{sum_by}
use Rattle.std.proofs.lemmas.List.Sums.{sum_by-cons}
use mathlib.Core.Logic.{dite}
use native.Mathlib.Decide.{ℕ_discrete}
use Rattle.ocr_steal.specs.declared.hand.Hand.{Hand}
use Rattle.ocr_steal.specs.declared.pool.Pool.{Pool}
use Rattle.ocr_steal.specs.Pool.{AreAll, IsOfPool, hands_in}
use Rattle.ocr_steal.specs.Rest.{count_if}
use Rattle.ocr_steal.proofs.Columns.{count_other, count_same}

-- their numbers are those from this one on
abbrev AreFrom : ℕ → List Hand → Type 0
AreFrom first hands = (k : ℕ) (d : Hand) → k < length hands → (get_or hands k d).number ≡ first + k

times : ℕ → List Hand → ℕ
times number hands = sum_by (λ (h : Hand). count_if number h.number) hands

unfoldable times-cons : (number : ℕ) (h : Hand) (hs : List Hand) → times number (h ∷ hs) ≡ count_if number h.number + times number hs
unfolding times
times-cons number h hs = sum_by-cons (λ (x : Hand). count_if number x.number) h hs

later : (first : ℕ) (h : Hand) (hs : List Hand) → AreFrom first (h ∷ hs) → AreFrom (first + 1) hs
later first h hs are k d lt = are (suc k) d (omega arith) ∙ omega arith

no_more : (number first : ℕ) (hands : List Hand) → number < first → AreFrom first hands → times number hands ≡ 0
unfolding times
no_more number first [] below are = refl
no_more number first (h ∷ hs) below are =
    let here = are zero h (omega arith) in
    let none : count_if number h.number ≡ 0 = count_other number h.number (λ e. omega (arith, here, e)) in
    let rest = no_more number (first + 1) hs (omega arith) (later first h hs are) in
    omega (arith, times-cons number h hs, none, rest)

once : (number first : ℕ) (hands : List Hand) → first ≤ number → number < first + length hands → AreFrom first hands → times number hands ≡ 1
once number first [] low high are = absurd (omega arith)
once number first (h ∷ hs) low high are = dite (ℕ_discrete number first)
    (λ (e : number ≡ first).
    let here = are zero h (omega arith) in
    let one : count_if number h.number ≡ 1 = ap (count_if number) (omega (arith, here, e)) ∙ count_same number in
    let rest = no_more number (first + 1) hs (omega (arith, e)) (later first h hs are) in
    omega (arith, times-cons number h hs, one, rest))
    (λ (apart : number ≢ first).
    let here = are zero h (omega arith) in
    let none : count_if number h.number ≡ 0 = count_other number h.number (λ e. apart (omega (arith, here, e))) in
    let rest = once number (first + 1) hs (omega (arith, low, apart)) (omega (arith, high)) (later first h hs are) in
    omega (arith, times-cons number h hs, none, rest))

pub all_in_order : (pool : Pool) (hands : List Hand) → length hands ≡ hands_in pool → All (IsOfPool pool) hands → ((k : ℕ) (d : Hand) → k < length hands → (get_or hands k d).number ≡ k) → AreAll pool hands
unfolding times
all_in_order pool hands many each order = record {
  many = many;
  each = each;
  once = λ number lt. once number 0 hands (omega arith) (omega (arith, lt, many)) (λ k d within. order k d within ∙ omega arith);
}
