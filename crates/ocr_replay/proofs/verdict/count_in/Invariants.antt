use Rattle.std.proofs.Common.{◌≡◌, ◌≤◌, length, drop}
use Rattle.ocr_replay_body.specs.Holds.{count_in}
use Rattle.ocr_replay.proofs.verdict.count_in.Given as goal

abbrev pub invariant-loop-k : goal.invariant-loop-k
invariant-loop-k l = record {
  within : l.k ≤ length l.counts;
  later : l.count ≡ count_in (drop l.k l.counts) l.block;
}

abbrev pub decreases-loop-k : goal.decreases-loop-k
decreases-loop-k l = l.k
