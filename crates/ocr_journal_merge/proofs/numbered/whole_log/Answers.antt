use Rattle.std.proofs.Common.{◌≡◌, ℕ, arith, subst}
use mathlib.Core.Option.{some}
use lib.ListN.{get_elem?}
use Rattle.atomic_table.proofs.Lists.{at_index, at_map}
use Rattle.ocr_journal_merge.proofs.Whole.{in_order}
use Rattle.ocr_journal_merge.proofs.numbered.whole_log.Goals as goal

pub returns-then-is_in_order : goal.returns-then-is_in_order
returns-then-is_in_order g c =
    let logs = c.args.logs.now in let j = c.loop-j.j in let v = c.index-logs-j.result in
    (v.items, at_map (λ l. l.items) logs j v (at_index logs j v c.loop-j-test.true c.index-logs-j.is), (let n = c.len.ensures in let is = c.if-len-count.true in omega arith), in_order v.items (subst (λ ns. (k n : ℕ) → get_elem? ns k ≡ some n → n ≡ k) c.numbers.ensures (c.is_in_order.ensures c.if-is_in_order.true)))
