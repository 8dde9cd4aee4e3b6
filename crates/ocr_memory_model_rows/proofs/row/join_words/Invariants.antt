use Rattle.std.proofs.Common.{◌≡◌, ◌≤◌, ◌<◌, ℕ, length, slice_index}
use Rattle.std.specs.Int.RustNames.{bit_or}
use Rattle.ocr_memory_model_rows.proofs.row.join_words.Given as goal

abbrev pub invariant-loop-i : goal.invariant-loop-i
invariant-loop-i l = record {
  len : length l.words ≡ length l.initial.words;
  done : (j : ℕ) → j < l.i → slice_index l.words j
      ≡ bit_or (slice_index l.initial.words j) (slice_index l.others j);
  rest : (j : ℕ) → l.i ≤ j → slice_index l.words j ≡ slice_index l.initial.words j;
}
