use Rattle.std.proofs.Common.{◌≡◌, take, length}
use Rattle.ocr_datablock.specs.Lent.{words_in}
use Rattle.ocr_replay_body.proofs.holds.words_of.Given as goal

abbrev pub invariant-loop-word : goal.invariant-loop-word
invariant-loop-word l = record {
  so_far : l.words.items ≡ take l.word (words_in l.lent);
  len : length l.words.items ≡ l.word;
}
