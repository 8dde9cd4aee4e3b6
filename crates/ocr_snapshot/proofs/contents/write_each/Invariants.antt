use Rattle.std.proofs.Common.{◌≡◌, length, drop}
use Rattle.ocr_acquire.specs.Writes.{written}
use Rattle.ocr_snapshot.proofs.contents.write_each.Given as goal

abbrev pub invariant-loop-word : goal.invariant-loop-word
invariant-loop-word l = record {
  rest : written (drop l.word-index l.writes) l.words.items ≡ written l.writes l.fn.words.items;
  size : length l.words.items ≡ length l.fn.words.items;
}
