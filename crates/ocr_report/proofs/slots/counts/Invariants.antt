use Rattle.std.proofs.Common.{take}
use Rattle.ocr_machine_history.specs.History.{Setting, history_of}
use Rattle.ocr_report.specs.Slots.{AreCounts}
use Rattle.ocr_report.proofs.slots.counts.Given as goal

abbrev pub invariant-loop-entry : goal.invariant-loop-entry
invariant-loop-entry l =
    (s : Setting) → AreCounts s (history_of (take l.entry-index l.entries)) l.counts
