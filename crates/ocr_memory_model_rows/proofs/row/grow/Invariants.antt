use Rattle.std.proofs.Common.{◌≡◌, ◌≤◌, ◌-◌, ℕ, max, slice_index, vec_len, vec_capacity}
use Rattle.ocr_memory_model_rows.proofs.row.grow.Given as goal

abbrev pub invariant-loop-words : goal.invariant-loop-words
invariant-loop-words l = record {
  least : vec_len l.initial.words ≤ vec_len l.words;
  most : vec_len l.words ≤ l.count;
  room : vec_capacity l.words ≡ max (vec_capacity l.initial.words) l.count;
  words : (j : ℕ) → slice_index l.words.items j ≡ slice_index l.initial.words.items j;
}

abbrev pub decreases-loop-words : goal.decreases-loop-words
decreases-loop-words l = l.count - vec_len l.words
