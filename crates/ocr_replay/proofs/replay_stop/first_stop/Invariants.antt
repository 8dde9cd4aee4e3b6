use Rattle.std.proofs.Common.{◌≡◌, ◌<◌, ℕ, false}
use Rattle.ocr_machine_parts.specs.Legal.{is_stop}
use Rattle.ocr_replay.specs.Replay.{entry_at}
use Rattle.ocr_replay.proofs.replay_stop.first_stop.Given as goal

abbrev pub invariant-loop-place : goal.invariant-loop-place
invariant-loop-place l = (n : ℕ) → n < l.place → is_stop (entry_at l.entries n) ≡ false
