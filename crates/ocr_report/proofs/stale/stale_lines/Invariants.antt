use Rattle.std.proofs.Common.{◌≡◌, take}
use Rattle.ocr_machine_history.specs.History.{history_of}
use Rattle.ocr_report.specs.Ends.{AreEnds}
use Rattle.ocr_report.specs.Destroyed.{told_lines}
use Rattle.ocr_report.proofs.stale.stale_lines.Given as goal

abbrev pub invariant-loop-entry : goal.invariant-loop-entry
invariant-loop-entry l = record {
  lines : l.lines.items ≡ told_lines (history_of (take l.entry-index l.entries));
  ends : AreEnds (history_of (take l.entry-index l.entries)) l.ends;
}
