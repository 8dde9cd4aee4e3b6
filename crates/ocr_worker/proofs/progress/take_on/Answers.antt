use Rattle.std.proofs.Common.{refl}
use Rattle.ocr_machine_history.specs.declared.entry.Entry.TheVariants.{End}
use Rattle.ocr_worker.specs.Progress.{IsEndOf}
use Rattle.ocr_worker.proofs.Comings.{entered_after}
use Rattle.ocr_worker.proofs.Owed.{worked_between}
use Rattle.ocr_worker.proofs.progress.take_on.Goals as goal

pub returns-in_ok-run_body-in-Ready-clause-came : goal.returns-in_ok-run_body-in-Ready-clause-came
returns-in_ok-run_body-in-Ready-clause-came g c =
    let told = c.in_ok-run_body-in-Ready.ensures in let run = told.ended in (
      worked_between c.args.job.now.turns.now c.args.job.now.program.now c.run_body.new.clerk told.work told.idle,
      entered_after c.args.clerk.now c.wake.new.clerk c.run_body.new.clerk run.number (End c.args.edt run.returned) (IsEndOf c.args.edt) run.more c.wake.ensures.stays run.log refl,
    )
