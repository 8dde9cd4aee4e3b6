use Rattle.std.proofs.Common.{take}
use Rattle.ocr_machine_history.specs.History.{history_of}
use Rattle.ocr_report.specs.Edts.{AreMarks}
use Rattle.ocr_report.proofs.started.started_marks.Given as goal

abbrev pub invariant-loop-entry : goal.invariant-loop-entry
invariant-loop-entry l = AreMarks l.marks.items (history_of (take l.entry-index l.entries))
