use Rattle.std.proofs.Common.{◌≡◌, take}
use Rattle.ocr_machine_history.specs.History.{history_of}
use Rattle.ocr_machine_history.specs.Output.{printed}
use Rattle.ocr_snapshot.proofs.lines.lines_of.Given as goal

abbrev pub invariant-loop-entry : goal.invariant-loop-entry
invariant-loop-entry l = l.text.items ≡ printed (history_of (take l.entry-index l.entries))
