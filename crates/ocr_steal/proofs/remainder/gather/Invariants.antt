use Rattle.std.proofs.Common.{◌≡◌, ◌<◌, ◌+◌, ◌⊎◌, ℕ, All, vec_len}
use Rattle.std.specs.List.{sum_by}
use Rattle.ocr_steal.specs.Hand.{got_weight, pushed_weight}
use Rattle.ocr_steal.specs.Pool.{deques_in, hands_in}
use Rattle.ocr_steal.specs.Rest.{Column, HasNothing, HasPart, IsPlaced, IsRow, count_if, owners_pushed, owners_took, rows_weight}
use Rattle.ocr_steal.proofs.remainder.gather.Given as goal

abbrev pub invariant-loop-number : goal.invariant-loop-number
invariant-loop-number l = record {
  many : vec_len l.rows ≡ hands_in l.pool;
  placed : All (IsPlaced (deques_in l.pool)) l.owners.items;
  rows : All (λ row. IsRow (deques_in l.pool) row.items) l.rows.items;
  columns : (k : ℕ) → k < hands_in l.pool
      → ((sum_by (λ o. count_if k o.0) l.owners.items ≡ 1) × Column HasPart k l.rows.items)
      ⊎ ((sum_by (λ o. count_if k o.0) l.owners.items ≡ 0) × Column HasNothing k l.rows.items);
  weights : (f : ℕ → ℕ) → sum_by f l.left.items + sum_by (got_weight f) l.fn.hands.items + owners_pushed f l.owners.items
      ≡ sum_by (pushed_weight f) l.fn.hands.items + owners_took f l.owners.items + rows_weight f l.rows.items;
}

abbrev pub decreases-loop-number : goal.decreases-loop-number
decreases-loop-number l = vec_len l.owners
