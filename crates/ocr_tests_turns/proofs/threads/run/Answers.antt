use Rattle.std.proofs.Common.{sym, ◌∙◌, subst}
use Rattle.ocr_tests_turns.specs.Clerks.{IsOneRun}
use Rattle.ocr_tests_turns.proofs.threads.run.Goals as goal

pub returns : goal.returns
returns g c =
    let told = c.in_ok-closing.ensures in let entries = c.entries-entries in let terms = c.in_ok-turns.turns.1 in
    subst (IsOneRun entries.result) (sym c.into_parts-logs.ensures) (record {
      setting = terms.setting.value;
      limit = terms.limit;
      history = told.0.history;
      size = entries.ensures ∙ told.1;
      run = told.0.run;
      of_run = told.0.of_run;
      once = told.0.once;
    })
