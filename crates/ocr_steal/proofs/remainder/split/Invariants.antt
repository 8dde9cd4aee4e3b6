use Rattle.std.proofs.Common.{◌≡◌, ◌+◌, ℕ, List, All, vec_len}
use Rattle.std.specs.List.{sum_by}
use Rattle.ocr_steal.specs.Hand.{got_weight, pool_of, pushed_weight}
use Rattle.ocr_steal.specs.Parts.{Name}
use Rattle.ocr_steal.specs.Rest.{IsFullRow, IsPlaced, count_if, owners_pushed, owners_took, rows_weight}
use Rattle.ocr_steal.proofs.remainder.split.Given as goal

abbrev pub invariant-loop-hand : goal.invariant-loop-hand
invariant-loop-hand l = record {
  many : vec_len l.rows + vec_len l.hands ≡ vec_len l.initial.hands;
  counted : (k : ℕ) → sum_by (λ o. count_if k o.0) l.owners.items + sum_by (λ h. count_if k h.number) l.hands.items ≡ sum_by (λ h. count_if k h.number) l.initial.hands.items;
  pushed : (f : ℕ → ℕ) → owners_pushed f l.owners.items + sum_by (pushed_weight f) l.hands.items ≡ sum_by (pushed_weight f) l.initial.hands.items;
  got : (f : ℕ → ℕ) → (owners_took f l.owners.items + rows_weight f l.rows.items) + sum_by (got_weight f) l.hands.items ≡ sum_by (got_weight f) l.initial.hands.items;
  placed : (names : List Name) → All (λ h. pool_of h ≡ names) l.initial.hands.items
      → All (λ h. pool_of h ≡ names) l.hands.items × All (IsPlaced names) l.owners.items × All (λ row. IsFullRow names row.items) l.rows.items;
}

abbrev pub decreases-loop-hand : goal.decreases-loop-hand
decreases-loop-hand l = vec_len l.hands
