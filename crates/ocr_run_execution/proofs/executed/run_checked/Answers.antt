use Rattle.ocr_body_code.specs.Checked.{checked_tree}
use Rattle.ocr_run_execution.proofs.Runs.{run_of}
use Rattle.ocr_run_execution.proofs.executed.run_checked.Goals as goal

pub returns-clause-ran : goal.returns-clause-ran
returns-clause-ran g c =
    run_of _ (checked_tree c.args.setting.now.program) c.args.options c.args.setting.now.args.items c.in_ok-journal.journal c.told.result c.requires.options.objects.1
    c.in_ok-journal.ensures c.told.ensures.journal c.told.ensures.text c.told.ensures.status
