-- What a run of a program by workers came to.
use Rattle.std.specs.Prelude.{◌≡◌, ◌≤◌, ℕ, List}
use Rattle.ocr_program_tree.specs.Tree.{FunctionTree}
use Rattle.ocr_machine_history.specs.declared.entry.Entry.{Entry}
use Rattle.ocr_machine_history.specs.History.{history_of, setting_of}
use Rattle.ocr_machine_history.specs.Edts.{StartsOnce}
use Rattle.ocr_machine_history.specs.Output.{ending_of}
use Rattle.ocr_machine_parts.specs.Runs.{StartsSet, LeavesOpen}
use Rattle.ocr_machine_rules.specs.Rules.{IsRun, IsQuiet}
use Rattle.ocr_run_command.specs.declared.wanted.Options.{Options}
use Rattle.ocr_run_crew.specs.Ended.{IsFinished}
use Rattle.ocr_run_crew.specs.Limits.{IsLimited}
use Rattle.ocr_run_execution.specs.Output.{IsOutput}
use Rattle.ocr_run_execution.specs.ProgramText.{IsProgramText}

-- the options of a run are within their ranges
pub record AreWithin (options : Options) : Type 0 where
  pub workers : (1 ≤ options.workers) × (options.workers ≤ 64)
  pub objects : (2 ≤ options.objects) × (options.objects ≤ 65536)
  pub events : (1 ≤ options.events) × (options.events ≤ 16000000)

-- this is the journal of a run of the program by workers, with these options and arguments, that
-- came to its end and kept the limits, this text is the run's output, and this is its status
pub record IsRunOf (program : List FunctionTree) (options : Options) (args : List ℕ)
    (journal : List Entry) (text : List ℕ) (status : ℕ) : Type 0 where
  pub run : IsRun (setting_of program args options.objects) (history_of journal)
  pub finished : IsFinished (setting_of program args options.objects) (history_of journal)
  pub once : StartsOnce (history_of journal)
  pub set : StartsSet (setting_of program args options.objects) (history_of journal)
  pub left : IsQuiet (setting_of program args options.objects) (history_of journal)
      → LeavesOpen (setting_of program args options.objects) (history_of journal)
  pub limited : IsLimited (setting_of program args options.objects) options.workers options.events
      (history_of journal)
  pub output : IsOutput (setting_of program args options.objects) (history_of journal)
      options.reports text
  pub ending : status ≡ ending_of (history_of journal)

-- these bytes are a program, and this is a run of it
pub record IsExecuted (options : Options) (args bytes : List ℕ) (journal : List Entry)
    (text : List ℕ) (status : ℕ) : Type 0 where
  pub program : List FunctionTree
  pub is_program : IsProgramText bytes program
  pub of : IsRunOf program options args journal text status
