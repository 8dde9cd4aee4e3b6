use Rattle.std.proofs.Common.{◌≡◌, ◌+◌, length, drop}
use Rattle.ocr_replay_body.proofs.holds.are_same.Given as goal

abbrev pub invariant-loop-word : goal.invariant-loop-word
invariant-loop-word l = record {
  at : l.place + length l.word-iterator ≡ length l.values.entries;
  same : length l.writes ≡ length l.values.entries;
  forth : drop l.place l.writes ≡ l.word-iterator → l.writes ≡ l.values.entries;
  back : l.writes ≡ l.values.entries → drop l.place l.writes ≡ l.word-iterator;
}
