use Rattle.std.proofs.Common.{take}
use Rattle.ocr_machine_history.specs.History.{history_of}
use Rattle.ocr_report.specs.Slots.{AreSet}
use Rattle.ocr_report.proofs.slots.sets.Given as goal

abbrev pub invariant-loop-entry : goal.invariant-loop-entry
invariant-loop-entry l = AreSet (history_of (take l.entry-index l.entries)) l.sets
