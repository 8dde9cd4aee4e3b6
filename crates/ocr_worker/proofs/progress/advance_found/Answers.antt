use Rattle.ocr_worker.proofs.Advances.{came_between, pushed_by}
use Rattle.ocr_worker.proofs.Unchanged.{quiet_lost}
use Rattle.ocr_worker.proofs.progress.advance_found.Goals as goal

pub returns-in-Closed-clause-rests : goal.returns-in-Closed-clause-rests
returns-in-Closed-clause-rests g c = λ rest.
    let lost = quiet_lost c.args.job.now.turns.now c.args.job.now.program.now c.args.worker _ c.advance.result c.args.clerk.now c.advance.new.clerk c.requires.between rest c.advance.ensures.told in
    let one = lost.1 in let other = c.in-Closed.is in absurd (cc (one, other))

pub returns-in_default : goal.returns-in_default
returns-in_default g c =
    let table = c.args.job.now.turns.now in let program = c.args.job.now.program.now in record {
      stays = c.advance.ensures.stays;
      hand = c.advance.ensures.hand;
      pushed = pushed_by c.advance.result c.args.clerk.now c.advance.new.clerk c.args.hand.now c.advance.new.hand c.in_default.not-Closed c.advance.ensures.pushed;
      told = λ _. (c.advance.result, c.advance.ensures.told);
      done = came_between table program c.args.worker _ c.advance.result c.args.clerk.now c.advance.new.clerk c.in_default.not-Closed c.requires.between c.advance.ensures.told;
      rests = λ rest. (tt, (quiet_lost table program c.args.worker _ c.advance.result c.args.clerk.now c.advance.new.clerk c.requires.between rest c.advance.ensures.told).2);
      left = tt;
    }
