-- How a run came to its end, as the code tells it.
use Rattle.std.specs.Prelude.{◌==◌, ℕ, List, [], ◌∷◌, length, if◌then◌else◌}
use Rattle.ocr_machine_history.specs.declared.entry.Entry.TheVariants.{Stop}
use Rattle.ocr_machine_history.specs.History.{History}
use Rattle.ocr_machine_history.specs.Output.{left_edts, status_of}
use Rattle.ocr_run_execution.specs.Lines.{quiet_line, stop_line}
use Rattle.ocr_run_execution.specs.declared.ending.Ending.{Ending}
use Rattle.ocr_run_execution.specs.declared.ending.Ending.TheVariants as ending

-- how a run ended: by a stop, or quiet with so many EDTs left
abbrev pub end_of : History → Ending
end_of [] = ending.Quiet (length (left_edts []))
end_of (Stop why ∷ past) = ending.Stopped why
end_of (e ∷ past) = ending.Quiet (length (left_edts (e ∷ past)))

-- the status of such an end
abbrev pub end_status : Ending → ℕ
end_status (ending.Quiet left) = if left == 0 then 0 else 4
end_status (ending.Stopped why) = status_of why

-- the line of such an end
abbrev pub end_line : Ending → List ℕ
end_line (ending.Quiet left) = quiet_line left
end_line (ending.Stopped why) = stop_line why

-- the statuses of runs that came to their end
pub data IsMet : ℕ → Type 0 where
  shut_down : IsMet 0
  stuck : IsMet 4
  aborted : IsMet 5
  faulted : IsMet 6
  out_of_memory : IsMet 9
  limited : IsMet 10
