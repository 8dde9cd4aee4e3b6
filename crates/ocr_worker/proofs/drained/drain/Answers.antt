use Rattle.ocr_worker_clerk.proofs.Goes.{stays_both}
use Rattle.ocr_worker.proofs.Idle.{rested_left}
use Rattle.ocr_worker.proofs.drained.drain.Goals as goal

pub returns-in-Ok-clause-own : goal.returns-in-Ok-clause-own
returns-in-Ok-clause-own g c =
    rested_left c.args.job.now.turns.now c.args.job.now.program.now c.args.worker c.drain_on.new.clerk c.in-Ok.ensures.idle.0.rests

pub returns-in-Err-clause-stays : goal.returns-in-Err-clause-stays
returns-in-Err-clause-stays g c =
    let stays = c.drain_on.ensures.stays in
    (stays_both c.args.clerk.now c.drain_on.new.clerk c.closing_word.new.clerk stays.0 c.closing_word.ensures.stays, stays.1)

pub returns-in-Err-clause-own : goal.returns-in-Err-clause-own
returns-in-Err-clause-own g c = c.closing_word.ensures.left c.args.worker c.in-Err.ensures.left.0

pub returns-in-Err-clause-exact : goal.returns-in-Err-clause-exact
returns-in-Err-clause-exact g c = λ quiet.
    absurd (c.in-Err.ensures.rests (record { alone = c.requires.alone; quiet = quiet })).0

pub returns-in-Err-clause-leaves : goal.returns-in-Err-clause-leaves
returns-in-Err-clause-leaves g c = record {
  past = c.closing_word.ensures.closed.0;
  read = c.closing_word.ensures.closed.1;
  left = c.closing_word.ensures.left c.args.worker c.in-Err.ensures.left.0;
}
