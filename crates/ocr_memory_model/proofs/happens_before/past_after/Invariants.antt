use Rattle.std.proofs.Common.{take}
use Rattle.ocr_worker_machine.specs.Ocr.{setting_in}
use Rattle.ocr_machine_history.specs.History.{history_of}
use Rattle.ocr_machine_state.specs.State.{IsStateOf}
use Rattle.ocr_memory_model.specs.Past.{IsPast}
use Rattle.ocr_memory_model.proofs.happens_before.past_after.Given as goal

abbrev pub invariant-loop-place : goal.invariant-loop-place
invariant-loop-place l = record {
  table : IsStateOf (setting_in l.setting l.limit) (history_of (take l.place l.entries)) l.table;
  past : IsPast (setting_in l.setting l.limit) (history_of (take l.place l.entries)) l.past;
}
