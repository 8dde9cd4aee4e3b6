use Rattle.std.proofs.Common.{◌≡◌, ◌<◌, ℕ}
use mathlib.Core.Option.{some}
use lib.ListN.{get_elem?}
use Rattle.ocr_journal_merge.proofs.numbered.is_in_order.Given as goal

abbrev pub invariant-loop-k : goal.invariant-loop-k
invariant-loop-k l = (i n : ℕ) → i < l.k → get_elem? l.numbers i ≡ some n → n ≡ i
