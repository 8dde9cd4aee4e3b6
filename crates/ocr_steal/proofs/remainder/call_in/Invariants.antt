use Rattle.std.proofs.Common.{◌≡◌, ◌≢◌, ◌≤◌, ◌+◌, ℕ, List, All, get_or, vec_len}
use Rattle.std.specs.List.{AllWithin}
use Rattle.crossbeam_deque.specs.Handles.{view, worker_deque, worker_flavor, worker_port, worker_view}
use Rattle.ocr_steal.specs.Parts.{Name}
use Rattle.ocr_steal.specs.Rest.{Column, HasNothing, HasPart, IsRow, rows_weight, taken_weight}
use Rattle.ocr_steal.proofs.remainder.call_in.Given as goal

abbrev pub invariant-loop-index : goal.invariant-loop-index
invariant-loop-index l = record {
  deque : worker_deque l.own ≡ worker_deque l.initial.own;
  port : worker_port l.own ≡ 0;
  flavor : worker_flavor l.own ≡ worker_flavor l.initial.own;
  pushed : (worker_view l.own).pushed ≡ (worker_view l.initial.own).pushed;
  long : vec_len l.rows ≡ vec_len l.initial.rows;
  rest : (k : ℕ) (d : _) → l.index ≤ k → get_or l.rows.items k d ≡ get_or l.initial.rows.items k d;
  parts : Column HasPart l.number l.initial.rows.items → (worker_view l.own).parts ≡ (worker_view l.initial.own).parts + l.index;
  weights : (f : ℕ → ℕ) → taken_weight f (worker_view l.own) + rows_weight f l.rows.items ≡ taken_weight f (worker_view l.initial.own) + rows_weight f l.initial.rows.items;
  rows : (names : List Name) → All (λ row. IsRow names row.items) l.initial.rows.items → All (λ row. IsRow names row.items) l.rows.items;
  column : AllWithin (λ row. (d : _) → HasNothing (view (get_or row.items l.number d))) l.rows.items 0 l.index;
  others : (k : ℕ) → k ≢ l.number → (Column HasPart k l.initial.rows.items → Column HasPart k l.rows.items) × (Column HasNothing k l.initial.rows.items → Column HasNothing k l.rows.items);
}
