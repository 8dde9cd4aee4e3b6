use Rattle.std.proofs.Common.{◌≡◌, All, vec_len}
use Rattle.ocr_steal.specs.Parts.{AreFirstInFirstOut, IsNewOwner, deques_of_owners, deques_of_stealers}
use Rattle.ocr_steal.proofs.creation.deques.Given as goal

abbrev pub invariant-loop : goal.invariant-loop
invariant-loop l = record {
  many : vec_len l.owners ≡ l.counter;
  owners : All (IsNewOwner 0 l.room) l.owners.items;
  same : deques_of_stealers l.stealers.items ≡ deques_of_owners l.owners.items;
  order : AreFirstInFirstOut l.stealers.items;
}
