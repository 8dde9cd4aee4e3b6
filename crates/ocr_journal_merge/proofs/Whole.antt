-- The numbers of a log, and a log whose entries are the whole list as they stand.
use Rattle.std.proofs.Common.{◌≡◌, ℕ, zero, suc, ◌-◌, ◌<◌, arith, get_or, List, [], ◌∷◌, length, refl, ap, sym, subst, ◌∙◌}
use mathlib.Core.Option.{some, some-injective, some-ne-none}
use lib.ListN.{get_elem?}
use Rattle.ocr_turns_rule.specs.Rule.{LogOf}
use Rattle.ocr_turns_rule.specs.Sums.{entries, keys}
use Rattle.ocr_journal_merge.specs.Numbered.{EndsAt, IsInOrder}
use Rattle.ocr_journal_merge.proofs.Numbers.{same_places}

pub number_at : (ns : List ℕ) (k : ℕ) → k < length ns → get_elem? ns k ≡ some (get_or ns k 0)
number_at [] k lt = absurd (omega arith)
number_at (n ∷ ns) zero lt = refl
number_at (n ∷ ns) (suc k) lt = number_at ns k (omega arith)

module _ {E : Type 0} where
  keys_size : (log : List (ℕ × E)) → length (keys log) ≡ length log
  keys_size [] = refl
  keys_size (x ∷ log) = ap suc (keys_size log)

  entries_size : (log : List (ℕ × E)) → length (entries log) ≡ length log
  entries_size [] = refl
  entries_size (x ∷ log) = ap suc (entries_size log)

  pub key_at : (log : List (ℕ × E)) (k n : ℕ) (e : E) → get_elem? log k ≡ some (n, e) → get_elem? (keys log) k ≡ some n
  key_at [] k n e at = absurd (some-ne-none (n, e) (sym at))
  key_at (x ∷ log) zero n e at = ap (λ (z : ℕ × E). some z.0) (some-injective x (n, e) at)
  key_at (x ∷ log) (suc k) n e at = key_at log k n e at

  at_key : (log : List (ℕ × E)) (k n : ℕ) → get_elem? (keys log) k ≡ some n → (e : E) × (get_elem? log k ≡ some (n, e))
  at_key [] k n at = absurd (some-ne-none n (sym at))
  at_key (x ∷ log) zero n at = (x.1, (λ i. some (some-injective x.0 n at i, x.1)))
  at_key (x ∷ log) (suc k) n at = at_key log k n at

  at_entry : (log : List (ℕ × E)) (k : ℕ) (e : E) → get_elem? (entries log) k ≡ some e → (n : ℕ) × (get_elem? log k ≡ some (n, e))
  at_entry [] k e at = absurd (some-ne-none e (sym at))
  at_entry (x ∷ log) zero e at = (x.0, (λ i. some (x.0, some-injective x.1 e at i)))
  at_entry (x ∷ log) (suc k) e at = at_entry log k e at

  -- the last number of a log
  pub ends_by_key : (log : List (ℕ × E)) (n : ℕ) → get_elem? (keys log) (length (keys log) - 1) ≡ some n → EndsAt n log
  ends_by_key log n at = at_key log (length log - 1) n (ap (λ m. get_elem? (keys log) (m - 1)) (sym (keys_size log)) ∙ at)

  pub key_by_end : (log : List (ℕ × E)) (n : ℕ) → EndsAt n log → get_elem? (keys log) (length (keys log) - 1) ≡ some n
  key_by_end log n ends = ap (λ m. get_elem? (keys log) (m - 1)) (keys_size log) ∙ key_at log (length log - 1) n ends.0 ends.1

  pub in_order : (log : List (ℕ × E)) → ((k n : ℕ) → get_elem? (keys log) k ≡ some n → n ≡ k) → IsInOrder log
  in_order log each = λ k n e at. each k n (key_at log k n e at)

  -- THE WHOLE LIST: as many entries, each at its number, and the numbers in order
  pub whole_list : (list : List E) (log : List (ℕ × E)) → LogOf list log → length log ≡ length list → IsInOrder log → entries log ≡ list
  whole_list list log of many order = same_places (entries log) list (entries_size log ∙ many) (λ k e at.
      let there = at_entry log k e at in let n = there.0 in
      subst (λ m. get_elem? list m ≡ some e) (order k n e there.1) (of k n e there.1))
