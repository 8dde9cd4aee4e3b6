use Rattle.std.proofs.Common.{take}
use Rattle.ocr_memory_model.specs.Orders.{setting_in}
use Rattle.ocr_machine_history.specs.History.{history_of}
use Rattle.ocr_memory_model.specs.Orders.{IsStateOf}
use Rattle.ocr_report.proofs.after.table_after.Given as goal

abbrev pub invariant-loop-entry : goal.invariant-loop-entry
invariant-loop-entry l =
    IsStateOf (setting_in l.setting l.limit) (history_of (take l.entry-index l.entries)) l.table
