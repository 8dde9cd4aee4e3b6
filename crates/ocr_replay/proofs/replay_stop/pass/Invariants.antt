use Rattle.std.proofs.Common.{◌≡◌, ◌+◌, length}
use Rattle.ocr_body_code.specs.Checked.{checked_tree}
use Rattle.ocr_replay.specs.Replay.{IsReplaying}
use Rattle.ocr_machine_history.specs.History.{setting_of}
use Rattle.ocr_replay.proofs.replay_stop.pass.Given as goal

abbrev pub invariant-loop-place : goal.invariant-loop-place
invariant-loop-place l = record {
  limit : l.replay.table.limit ≡ l.limit;
  room : length l.replay.verdicts.items ≡ l.limit + 1;
  so_far : IsReplaying (setting_of (checked_tree l.program) l.args l.limit) l.front l.place l.replay;
}
