use Rattle.std.proofs.Common.{◌≡◌, List, refl, subst, sym}
use Rattle.std.proofs.lemmas.Result.{IfOk-weaker}
use Rattle.ocr_machine_history.specs.declared.entry.Entry.{Entry}
use Rattle.ocr_worker_machine.specs.Clerks.{of_terms}
use Rattle.ocr_journal_merge.specs.Merged.{IsHistoryOf}
use Rattle.ocr_run_crew.specs.Ended.{IsWholeRun}
use Rattle.ocr_run_crew.proofs.Whole.{whole}
use Rattle.ocr_run_crew.proofs.crew.close.Goals as goal

pub merge-requires : goal.merge-requires
merge-requires c =
    let told = c.in_ok-closing.ensures in
    (told.0.history, record { terms = c.args.turns.1; root = c.args.root.view; finished = told.0; whole = refl; count = told.1 })

pub returns : goal.returns
returns c =
    let told = c.in_ok-closing.ensures in
    let t = c.args.turns.1 in let root = c.args.root.view in let workers = c.args.workers in
    let known = whole t root workers c.in_ok-closing.closing.0 told.0 c.requires.workers c.requires.root.limit c.requires.most c.requires.root.logs (c.requires.root.knows c.requires.workers) in
    IfOk-weaker c.merge.result (λ m. (history : List Entry) → IsHistoryOf c.in_ok-closing.closing history → m ≡ history) (λ m. IsWholeRun (of_terms t) workers t.share m)
    (λ m is. subst (IsWholeRun (of_terms t) workers t.share) (sym (is told.0.history (record { terms = t; root = root; finished = told.0; whole = refl; count = told.1 }))) known)
    c.merge.ensures
