use Rattle.std.proofs.Common.{◌≡◌, take}
use Rattle.ocr_machine_history.specs.History.{history_of}
use Rattle.ocr_machine_history.specs.Made.{made_edts}
use Rattle.ocr_report.proofs.edts.edts.Given as goal

abbrev pub invariant-loop-entry : goal.invariant-loop-entry
invariant-loop-entry l = l.edts.items ≡ made_edts (history_of (take l.entry-index l.entries))
