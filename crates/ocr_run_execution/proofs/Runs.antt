-- What a run came to.
use Rattle.std.proofs.Common.{◌≡◌, ◌≤◌, ◌∙◌, sym, subst, ℕ, List, Result, Ok, Err}
use Rattle.std.specs.Prelude.{IfOk}
use Rattle.ocr_program_tree.specs.Tree.{FunctionTree}
use Rattle.ocr_machine_history.specs.declared.entry.Entry.{Entry}
use Rattle.ocr_machine_history.specs.History.{history_of, setting_of}
use Rattle.ocr_machine_parts.proofs.Starts.{start_law, set_law}
use Rattle.ocr_machine_laws.proofs.Sleepers.{quiet_law}
use Rattle.ocr_machine_rules.specs.Laws.{MOST_MEMBERS}
use Rattle.ocr_machine_rules.proofs.Whole.{run_is, quiet_is}
use Rattle.ocr_run_crew.specs.Ended.{IsWholeRun}
use Rattle.ocr_run_command.specs.declared.wanted.Options.{Options}
use Rattle.ocr_run_execution.specs.declared.executed.Executed.{Executed}
use Rattle.ocr_run_execution.specs.Ending.{end_of, end_status}
use Rattle.ocr_run_execution.specs.Executed.{IsRunOf}
use Rattle.ocr_run_execution.specs.Output.{IsOutput}
use Rattle.ocr_run_execution.proofs.Ends.{status_of_end}

-- the text tells the run
abbrev IsTextOf : List FunctionTree → Options → List ℕ → List Entry → List ℕ → Type 0
IsTextOf program options args journal text =
    IsOutput (setting_of program args options.objects) (history_of journal) options.reports text

run_here : (program : List FunctionTree) (options : Options) (args : List ℕ) (journal : List Entry) (text : List ℕ) (status : ℕ)
    → options.objects ≤ MOST_MEMBERS → IsWholeRun (setting_of program args options.objects) options.workers options.events journal
    → IsTextOf program options args journal text → status ≡ end_status (end_of (history_of journal)) → IsRunOf program options args journal text status
run_here program options args journal text status most is told ends =
    let s = setting_of program args options.objects in
    let past = history_of journal in
    record {
      run = (run_is s past most).0 is.run;
      finished = is.finished;
      once = start_law s past is.run;
      set = set_law s past is.run;
      left = λ quiet. quiet_law s past ((quiet_is s past most is.run).1 quiet) is.run;
      limited = is.limited;
      output = told;
      ending = ends ∙ sym (status_of_end past);
    }

pub run_of : (E : Type 0) (program : List FunctionTree) (options : Options) (args : List ℕ) (journal : List Entry) (result : Result Executed E)
    → options.objects ≤ MOST_MEMBERS → IsWholeRun (setting_of program args options.objects) options.workers options.events journal
    → IfOk result (λ e. e.journal ≡ journal) → IfOk result (λ e. IsTextOf program options args journal e.text.items)
    → IfOk result (λ e. e.status ≡ end_status (end_of (history_of journal)))
    → IfOk result (λ e. IsRunOf program options args e.journal e.text.items e.status)
run_of E program options args journal (Ok e) most is same told ends =
    subst (λ (j : List Entry). IsRunOf program options args j e.text.items e.status) (sym same)
    (run_here program options args journal e.text.items e.status most is told ends)
run_of E program options args journal (Err why) most is same told ends = tt
