use Rattle.std.proofs.Common.{◌≡◌, ◌+◌, ◌-◌, ◌<◌, ◌++◌, ℕ, All, List, length, vec_len}
use Rattle.std.specs.List.{slice_index_or}
use Rattle.ocr_steal.specs.Parts.{IsNewOwner, IsNewRow, deques_of_owners}
use Rattle.ocr_steal.specs.Pool.{IsFresh}
use Rattle.ocr_steal.proofs.creation.hands_of.Given as goal

abbrev pub invariant-loop-own : goal.invariant-loop-own
invariant-loop-own l = record {
  gone : List _;
  owners : l.initial.owners.items ≡ l.owners.items ++ gone;
  rows_many : vec_len l.rows ≡ vec_len l.owners;
  rows : All (λ row. IsNewRow (deques_of_owners l.initial.owners.items) row.items) l.rows.items;
  many : vec_len l.hands + vec_len l.owners ≡ vec_len l.initial.owners;
  hands : (least : ℕ) → All (IsNewOwner (vec_len l.initial.owners) least) l.initial.owners.items
      → (k : ℕ) (d : _) → k < length l.hands.items → IsFresh (deques_of_owners l.initial.owners.items) least (vec_len l.initial.owners - 1 - k) (slice_index_or l.hands.items k d);
}

abbrev pub decreases-loop-own : goal.decreases-loop-own
decreases-loop-own l = vec_len l.owners
