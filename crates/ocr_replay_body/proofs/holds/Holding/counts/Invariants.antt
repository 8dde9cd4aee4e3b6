use Rattle.std.proofs.Common.{◌≡◌, ◌++◌}
use Rattle.ocr_replay_body.specs.Holds.{counts_of}
use Rattle.ocr_replay_body.proofs.holds.Holding.counts.Given as goal

abbrev pub invariant-loop-block : goal.invariant-loop-block
invariant-loop-block l = l.counts.items ++ counts_of l.block-iterator ≡ counts_of l.self
