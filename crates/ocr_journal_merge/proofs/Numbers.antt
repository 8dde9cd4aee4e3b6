-- The one list that several logs tell, each entry by its number.
use Rattle.std.proofs.Common.{◌≡◌, ℕ, suc, ◌<◌, ◌≤◌, List, [], ◌∷◌, length, refl, ap, sym, subst, ◌∙◌, arith}
use mathlib.Core.Option.{some, some-injective}
use mathlib.Core.Logic.{dite}
use native.Mathlib.Decide.{ℕ_discrete, dec_le}
use lib.ListN.{get_elem?}
use Rattle.ocr_turns_rule.specs.Sums.{weigh, weigh_all, one_at}
use Rattle.ocr_turns_rule.proofs.Totals.{below_ones, one_else, at_less}
use Rattle.ocr_machine_history.specs.declared.entry.Entry.{Entry}
use Rattle.ocr_journal_merge.specs.Merged.{IsHistoryOf}
use Rattle.ocr_journal_merge.specs.Numbered.{AreByNumber}
use Rattle.ocr_turns_rule.proofs.Sole.{below_here}

module _ {E : Type 0} where
  -- the log has the entry at the number, and one of the logs has it
  abbrev pub HasEntry : List (ℕ × E) → ℕ → E → Type 0
  HasEntry log n e = (k : ℕ) × (get_elem? log k ≡ some (n, e))

  abbrev pub HasInAny : List (List (ℕ × E)) → ℕ → E → Type 0
  HasInAny logs n e = (j : ℕ) × (log : List (ℕ × E)) × (get_elem? logs j ≡ some log) × HasEntry log n e

  -- a number that weighs something has an entry
  in_log : (log : List (ℕ × E)) (n : ℕ) → 1 ≤ weigh (one_at n) log → (e : E) × HasEntry log n e
  in_log [] n one = absurd (omega arith)
  in_log (x ∷ log) n one = dite (ℕ_discrete x.0 n)
      (λ e. (x.1, (0, λ i. some (e i, x.1))))
      (λ ne. let z = one_else n x.0 (λ q. ne (sym q)) in let r = in_log log n (omega arith) in (r.0, (suc r.1.0, r.1.1)))

  pub in_any : (logs : List (List (ℕ × E))) (n : ℕ) → 1 ≤ weigh_all (one_at n) logs → (e : E) × HasInAny logs n e
  in_any [] n one = absurd (omega arith)
  in_any (log ∷ logs) n one = dite (dec_le 1 (weigh (one_at n) log))
      (λ here. let r = in_log log n here in (r.0, (0, log, refl, r.1)))
      (λ no. let r = in_any logs n (omega arith) in (r.0, (suc r.1.0, r.1.1, r.1.2, r.1.3)))

  -- an entry stands in one of the logs at each number
  pub number_there : (logs : List (List (ℕ × E))) (list : List E) (n : ℕ) → AreByNumber logs list → n < length list → (e : E) × HasInAny logs n e
  number_there logs list n is lt = in_any logs n (let o = is.once (one_at n) in let b = below_here n (length list) lt in omega arith)

  by_number_count : (logs : List (List (ℕ × E))) (list : List E) → AreByNumber logs list → weigh_all (λ _. 1) logs ≡ length list
  by_number_count logs list is = is.once (λ _. 1) ∙ below_ones (length list)

  -- two lists that the logs tell are as long
  pub same_length : (logs : List (List (ℕ × E))) (a b : List E) → AreByNumber logs a → AreByNumber logs b → length b ≡ length a
  same_length logs a b one two = sym (by_number_count logs b two) ∙ by_number_count logs a one

  -- lists with the same at each place are one
  pub same_places : (a b : List E) → length a ≡ length b → ((n : ℕ) (e : E) → get_elem? a n ≡ some e → get_elem? b n ≡ some e) → a ≡ b
  same_places [] [] len each = refl
  same_places [] (y ∷ ys) len each = absurd (omega (arith, len))
  same_places (x ∷ xs) [] len each = absurd (omega (arith, len))
  same_places (x ∷ xs) (y ∷ ys) len each =
      let h : y ≡ x = some-injective y x (each 0 x refl) in
      let r = same_places xs ys (omega (arith, len)) (λ n e at. each (suc n) e at) in
      ap (λ (z : E). z ∷ xs) (sym h) ∙ ap (λ (l : List E). y ∷ l) r

  -- the logs tell one list
  pub same_list : (logs : List (List (ℕ × E))) (a b : List E) → AreByNumber logs a → AreByNumber logs b → a ≡ b
  same_list logs a b one two =
      same_places a b (sym (same_length logs a b one two)) (λ n e at.
      let there = number_there logs a n one (at_less a n e at) in let x = there.0 in let h = there.1 in
      two.of h.0 h.1 h.2 h.3.0 n x h.3.1 ∙ (sym (one.of h.0 h.1 h.2 h.3.0 n x h.3.1) ∙ at))

-- a history of a finished table stands in its logs by number
pub history_by_number : (closing : List (List (ℕ × Entry)) × ℕ) (history : List Entry) → IsHistoryOf closing history → AreByNumber closing.0 history
history_by_number closing history is = subst (AreByNumber closing.0) is.whole (record { of = is.finished.of_run; once = is.finished.once })
