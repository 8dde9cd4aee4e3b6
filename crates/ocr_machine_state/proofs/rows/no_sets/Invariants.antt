use Rattle.std.proofs.Common.{◌≡◌, ◌≤◌, ℕ, [], vec_len, vec_capacity}
use Rattle.ocr_machine_state.specs.State.{row_at}
use Rattle.ocr_machine_state.proofs.rows.no_sets.Given as goal

abbrev pub invariant-loop : goal.invariant-loop
invariant-loop l = record {
  room : l.count ≤ vec_capacity l.sets;
  len : vec_len l.sets ≡ l.counter;
  none : (t : ℕ) → row_at l.sets.items t ≡ [];
}
