-- The run of a program by workers, and how it ended.
use Rattle.std.specs.Prelude.{◌≡◌, ◌⊎◌, ◌≤◌, ℕ, List, length, true}
use Rattle.ocr_program_tree.specs.Tree.{FunctionTree}
use Rattle.ocr_worker_machine.specs.declared.setting.Setting as facts
use Rattle.ocr_machine_history.specs.declared.entry.Entry.{Entry}
use Rattle.ocr_machine_history.specs.History.{History, Setting, history_of, is_stopped}
use Rattle.ocr_machine_parts.specs.Legal.{IsRun}
use Rattle.ocr_machine_rules.specs.Rules.{IsQuiet}
use Rattle.ocr_run_crew.specs.declared.limits.Limits.{Limits}
use Rattle.ocr_run_crew.specs.Limits.{IsLimited}

-- the run was stopped, or nothing is left to do
abbrev pub IsFinished : Setting → History → Type 0
IsFinished s past = (is_stopped past ≡ true) ⊎ IsQuiet s past

-- what may be run: a program with its arguments, within these limits
pub record CanRun (setting : facts.Setting) (limits : Limits) : Type 0 where
  pub args : length setting.args.items ≤ 32
  pub workers : (1 ≤ limits.workers) × (limits.workers ≤ 64)
  pub objects : (2 ≤ limits.objects) × (limits.objects ≤ 65536)
  pub share : (1 ≤ limits.share) × (limits.share ≤ 16000000)

-- the journal is a run of it that came to its end and kept the limits
pub record IsWholeRun (s : Setting) (workers share : ℕ) (journal : List Entry) : Type 0 where
  pub run : IsRun s (history_of journal)
  pub finished : IsFinished s (history_of journal)
  pub limited : IsLimited s workers share (history_of journal)
