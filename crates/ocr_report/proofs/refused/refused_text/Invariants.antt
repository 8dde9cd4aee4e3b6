use Rattle.std.proofs.Common.{◌≡◌, ◌≤◌, take}
use Rattle.ocr_machine_history.specs.History.{history_of}
use Rattle.ocr_report.specs.Refused.{refused_count, refused_lines}
use Rattle.ocr_report.proofs.refused.refused_text.Given as goal

abbrev pub invariant-loop-entry : goal.invariant-loop-entry
invariant-loop-entry l = record {
  lines : l.lines.items ≡ refused_lines (history_of (take l.entry-index l.entries));
  count : l.count ≡ refused_count (history_of (take l.entry-index l.entries));
  few : l.count ≤ l.entry-index;
}
