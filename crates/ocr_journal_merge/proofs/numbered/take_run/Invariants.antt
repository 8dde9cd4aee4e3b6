use Rattle.std.proofs.Common.{◌≡◌, ◌+◌, ◌≤◌, ◌++◌, ℕ, List, length, reverse, drop, vec_capacity}
use Rattle.ocr_turns_rule.specs.Rule.{LogOf}
use Rattle.ocr_turns_rule.specs.Sums.{weigh, below}
use Rattle.ocr_journal_merge.proofs.numbered.take_run.Given as goal

abbrev pub invariant-loop-left : goal.invariant-loop-left
invariant-loop-left g l = record {
  few : l.left ≤ l.fn.left;
  room : l.left + length l.entries.items ≤ vec_capacity l.entries;
  same : l.left ≡ l.fn.left → l.log.items ≡ l.fn.log.items;
  front : (rest : List (ℕ × g.row.E.Denot)) × (l.fn.log.items ≡ l.log.items ++ rest);
  numbers : (f : ℕ → ℕ) → weigh f l.fn.log.items + below f l.left ≡ weigh f l.log.items + below f l.fn.left;
  taken : (list : List g.row.E.Denot) → LogOf list l.fn.log.items → reverse l.fn.entries.items ≡ drop l.fn.left list → reverse l.entries.items ≡ drop l.left list;
}

abbrev pub decreases-loop-left : goal.decreases-loop-left
decreases-loop-left g l = l.left
