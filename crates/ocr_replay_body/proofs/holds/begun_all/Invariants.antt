use Rattle.std.proofs.Common.{take}
use Rattle.ocr_replay_body.proofs.Begun.{HasBegun}
use Rattle.ocr_replay_body.proofs.holds.begun_all.Given as goal

abbrev pub invariant-loop-block : goal.invariant-loop-block
invariant-loop-block l = HasBegun l.running.holds l.loans (take l.block-index l.block-items) l.items.entries
