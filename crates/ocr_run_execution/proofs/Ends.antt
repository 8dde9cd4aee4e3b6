-- How runs end.
use Rattle.std.proofs.Common.{◌≡◌, ◌==◌, if◌then◌else◌, [], ◌∷◌, true, false, refl}
use Rattle.ocr_machine_history.specs.declared.entry.Entry.TheVariants.{Stop}
use Rattle.ocr_machine_history.specs.declared.entry.Stop.TheVariants as by
use Rattle.ocr_machine_history.specs.History.{History}
use Rattle.ocr_machine_history.specs.Output.{ending_of}
use Rattle.ocr_run_execution.specs.declared.ending.Ending.{Ending}
use Rattle.ocr_run_execution.specs.declared.ending.Ending.TheVariants as ending
use Rattle.ocr_run_execution.specs.Ending.{IsMet, shut_down, stuck, aborted, faulted, out_of_memory, limited, end_of, end_line, end_status}
use Rattle.ocr_run_execution.specs.Lines.{ending_line}

-- the status and the line of a run are those of its end
pub status_of_end : (past : History) → ending_of past ≡ end_status (end_of past)
status_of_end [] = refl
status_of_end (Stop why ∷ past) = refl
status_of_end (other ∷ past) = refl

pub line_of_end : (past : History) → ending_line past ≡ end_line (end_of past)
line_of_end [] = refl
line_of_end (Stop why ∷ past) = refl
line_of_end (other ∷ past) = refl

pub end_met : (e : Ending) → IsMet (end_status e)
end_met (ending.Quiet left) = elim (left == 0) as (λ b. IsMet (if b then 0 else 4)) [ true ↦ shut_down | false ↦ stuck ]
end_met (ending.Stopped (by.Shutdown t)) = shut_down
end_met (ending.Stopped (by.Abort t code)) = aborted
end_met (ending.Stopped (by.Fault t why)) = faulted
end_met (ending.Stopped by.Objects) = limited
end_met (ending.Stopped (by.Events worker weight)) = limited
end_met (ending.Stopped by.Memory) = out_of_memory
