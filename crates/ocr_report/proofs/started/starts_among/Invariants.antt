use Rattle.std.proofs.Common.{◌≡◌, take}
use Rattle.ocr_machine_history.specs.Edts.{is_started}
use Rattle.ocr_machine_history.specs.History.{history_of}
use Rattle.ocr_report.proofs.started.starts_among.Given as goal

abbrev pub invariant-loop-entry : goal.invariant-loop-entry
invariant-loop-entry l = l.started ≡ is_started (history_of (take l.entry-index l.entries)) l.edt
