use Rattle.std.proofs.Common.{◌≡◌, ◌≤◌, ℕ, slice_index, vec_len, vec_capacity}
use Rattle.ocr_memory_model_rows.proofs.row.zeros.Given as goal

abbrev pub invariant-loop : goal.invariant-loop
invariant-loop l = record {
  room : l.count ≤ vec_capacity l.words;
  len : vec_len l.words ≡ l.counter;
  none : (j : ℕ) → slice_index l.words.items j ≡ 0;
}
