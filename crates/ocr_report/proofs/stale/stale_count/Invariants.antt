use Rattle.std.proofs.Common.{◌≡◌, ◌≤◌, take, length}
use Rattle.ocr_machine_history.specs.History.{history_of}
use Rattle.ocr_machine_history.specs.Stale.{stale_uses}
use Rattle.ocr_report.proofs.stale.stale_count.Given as goal

abbrev pub invariant-loop-entry : goal.invariant-loop-entry
invariant-loop-entry l = record {
  count : l.count ≡ length (stale_uses (history_of (take l.entry-index l.entries)));
  few : l.count ≤ l.entry-index;
}
