use Rattle.std.proofs.Common.{◌≡◌, ◌≤◌, ℕ, vec_len, vec_capacity}
use Rattle.ocr_machine_parts.specs.declared.part.Part.TheVariants as part
use Rattle.ocr_machine_codes.specs.Lookup.{part_at}
use Rattle.ocr_machine_state.proofs.rows.vacant_parts.Given as goal

abbrev pub invariant-loop : goal.invariant-loop
invariant-loop l = record {
  room : l.count ≤ vec_capacity l.parts;
  len : vec_len l.parts ≡ l.counter;
  vacant : (n : ℕ) → part_at l.parts.items n ≡ part.Vacant;
}
