use Rattle.std.proofs.Common.{subst}
use Rattle.ocr_worker_machine.specs.Ocr.{meaning}
use Rattle.ocr_worker_machine.specs.Clerks.{OcrView}
use Rattle.ocr_turns_rule.specs.Words.{SeesReady}
use Rattle.ocr_worker.proofs.Owed.{claimed_work}
use Rattle.ocr_worker.proofs.progress.advance.Goals as goal

pub returns-in-Err-clause-told : goal.returns-in-Err-clause-told
returns-in-Err-clause-told g c =
    let told = c.in_default.ensures.told in (
      subst (λ (v : OcrView). SeesReady meaning v c.args.edt) told.0 told.1,
      record {
        past = c.closing_word.ensures.closed.0;
        read = c.closing_word.ensures.closed.1;
        left = c.closing_word.ensures.left c.args.worker c.in-Err.ensures.left.0;
      },
    )

pub take_on-requires-clause-work : goal.take_on-requires-clause-work
take_on-requires-clause-work g c =
    claimed_work c.args.job.now.turns.now c.args.job.now.program.now c.args.edt c.args.clerk.now c.claim.new.clerk c.requires.between c.claim.ensures.hand c.in_default.ensures.told.0
