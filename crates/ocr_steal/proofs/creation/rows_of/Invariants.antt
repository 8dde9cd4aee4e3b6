use Rattle.std.proofs.Common.{◌≡◌, ℕ, All, vec_len}
use Rattle.ocr_steal.specs.Parts.{IsNewOwner, IsNewRow, deques_of_owners}
use Rattle.ocr_steal.proofs.creation.rows_of.Given as goal

abbrev pub invariant-loop : goal.invariant-loop
invariant-loop l = record {
  many : vec_len l.owners ≡ vec_len l.initial.owners;
  cut : (least : ℕ) → All (IsNewOwner 0 least) l.initial.owners.items → All (IsNewOwner l.counter least) l.owners.items;
  same : deques_of_owners l.owners.items ≡ deques_of_owners l.initial.owners.items;
  made : vec_len l.rows ≡ l.counter;
  rows : All (λ row. IsNewRow (deques_of_owners l.initial.owners.items) row.items) l.rows.items;
}
