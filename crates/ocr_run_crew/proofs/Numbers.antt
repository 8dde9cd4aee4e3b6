-- The numbers that no object of a run has.
use Rattle.std.proofs.Common.{◌≡◌, ◌≢◌, ℕ, zero, suc, ◌+◌, ◌<◌, ◌≤◌, List, [], ◌∷◌, length, refl, subst, arith, Bool, true, false, reverse, Option, Some, None, not, is_some}
use Rattle.std.specs.List.{filter, range_with_len}
use mathlib.Core.Logic.{dite}
use native.Mathlib.Decide.{ℕ_discrete}
use Rattle.ocr_machine_history.specs.History.{History}
use Rattle.ocr_machine_history.specs.History as history
use Rattle.ocr_machine_history.specs.Made.{Made, made}
use Rattle.ocr_machine_parts.specs.Legal.{IsRun}
use Rattle.ocr_turns_rule.specs.Sums.{sum_of, one_at, up_to, made_sum}
use Rattle.ocr_turns_rule.proofs.Totals.{one_most, one_else, one_here, up_to_none}
use Rattle.ocr_worker_machine.specs.Ocr as ocr
use Rattle.ocr_worker_machine.proofs.Makes.{unmade_sum}
use Rattle.ocr_run_crew.specs.Limits.{free_numbers}

-- numbers from a on, each weighed
abbrev fronts : (ℕ → ℕ) → ℕ → ℕ → ℕ
fronts f a zero = 0
fronts f a (suc n) = f a + fronts f (a + 1) n

fronts_sum : (f g : ℕ → ℕ) (a n : ℕ) → fronts (λ k. f k + g k) a n ≡ fronts f a n + fronts g a n
fronts_sum f g a zero = refl
fronts_sum f g a (suc n) = let r = fronts_sum f g (a + 1) n in omega arith

fronts_none : (d a n : ℕ) → d < a → fronts (λ k. one_at k d) a n ≡ 0
fronts_none d a zero lt = refl
fronts_none d a (suc n) lt =
    let other : a ≢ d = λ e. omega (arith, e, lt) in
    let z = one_else a d other in let r = fronts_none d (a + 1) n (omega arith) in omega arith

fronts_one : (d a n : ℕ) → fronts (λ k. one_at k d) a n ≤ 1
fronts_one d a zero = omega arith
fronts_one d a (suc n) = dite (ℕ_discrete a d)
    (λ e. let m = one_most a d in let r = fronts_none d (a + 1) n (omega (arith, e)) in omega arith)
    (λ ne. let other : a ≢ d = ne in let z = one_else a d other in let r = fronts_one d (a + 1) n in omega arith)

fronts_zero : (a n : ℕ) → fronts (λ k. 0) a n ≡ 0
fronts_zero a zero = refl
fronts_zero a (suc n) = let r = fronts_zero (a + 1) n in omega arith

-- a list has no more numbers than it is long
fronts_times : (ds : List ℕ) (a n : ℕ) → fronts (λ k. sum_of (one_at k) ds) a n ≤ length ds
fronts_times [] a n = let r = fronts_zero a n in omega arith
fronts_times (d ∷ ds) a n = let s = fronts_sum (λ k. one_at k d) (λ k. sum_of (one_at k) ds) a n in let o = fronts_one d a n in let r = fronts_times ds a n in omega arith

filter_fronts : (p : ℕ → Bool) (ds : List ℕ) (a n : ℕ) → ((k : ℕ) → a ≤ k → k < a + n → p k ≡ true → 1 ≤ sum_of (one_at k) ds) → length (filter p (range_with_len a n)) ≤ fronts (λ k. sum_of (one_at k) ds) a n
filter_fronts p ds a zero each = omega arith
filter_fronts p ds a (suc n) each =
    let r = filter_fronts p ds (a + 1) n (λ k lo hi is. each k (omega arith) (omega arith) is) in
    elim (p a) as (λ b. p a ≡ b → length (filter p (range_with_len a (suc n))) ≤ sum_of (one_at a) ds + fronts (λ k. sum_of (one_at k) ds) (a + 1) n) [
      | true ↦ λ is. let one = each a (omega arith) (omega arith) is in rw is (omega arith)
      | false ↦ λ is. rw is (omega arith)
    ] refl

up_to_here : (k n : ℕ) → 1 ≤ k → k ≤ n → up_to (one_at k) n ≡ 1
up_to_here k zero lo hi = absurd (omega arith)
up_to_here k (suc n) lo hi = dite (ℕ_discrete k (suc n))
    (λ e. let one : one_at k (suc n) ≡ 1 = subst (λ m. one_at k m ≡ 1) e (one_here k) in let z = up_to_none k n (omega (arith, e)) in omega arith)
    (λ ne. let other : k ≢ suc n = ne in let z = one_else k (suc n) other in let r = up_to_here k n lo (omega arith) in omega arith)

not_made : (m : Option Made) → not (is_some m) ≡ true → m ≡ None
not_made None is = refl
not_made (Some x) is = absurd (cc is)

-- THE FREE NUMBERS of a run are among those that were drawn and not used
pub free_few : (s : history.Setting) (past : History) (ds : List ℕ) → IsRun s past → ((f : ℕ → ℕ) → sum_of f ds + (up_to f 2 + made_sum ocr.makes f (reverse past)) ≡ up_to f s.limit) → length (free_numbers s past) ≤ length ds
unfolding free_numbers
free_few s past ds run all =
    let free : ℕ → Bool = λ n. not (is_some (made s past n)) in
    let few = filter_fronts free ds 1 s.limit (λ k lo hi is.
    let none = unmade_sum s past k run (not_made (made s past k) is) in
    let one = up_to_here k s.limit lo (omega arith) in
    let sum = all (one_at k) in omega arith) in
    let r = fronts_times ds 1 s.limit in omega arith
