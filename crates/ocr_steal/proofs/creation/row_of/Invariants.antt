use Rattle.std.proofs.Common.{◌≡◌, ◌+◌, ℕ, All, take, vec_len}
use Rattle.std.specs.List.{AllWithin}
use Rattle.ocr_steal.specs.Parts.{IsNewOwner, IsNewPass, deques_of_owners, deques_of_passes}
use Rattle.ocr_steal.proofs.creation.row_of.Given as goal

abbrev pub invariant-loop-index : goal.invariant-loop-index
invariant-loop-index l = record {
  many : vec_len l.owners ≡ vec_len l.initial.owners;
  cut : (made least : ℕ) → All (IsNewOwner made least) l.initial.owners.items → AllWithin (IsNewOwner (made + 1) least) l.owners.items 0 l.index;
  others : (made least : ℕ) → All (IsNewOwner made least) l.initial.owners.items → AllWithin (IsNewOwner made least) l.owners.items l.index (vec_len l.owners);
  same : deques_of_owners l.owners.items ≡ deques_of_owners l.initial.owners.items;
  deques : deques_of_passes l.row.items ≡ take l.index (deques_of_owners l.initial.owners.items);
  passes : All IsNewPass l.row.items;
}
