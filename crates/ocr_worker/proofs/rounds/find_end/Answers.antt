use Rattle.ocr_worker.proofs.Idle.{given_up}
use Rattle.ocr_worker.proofs.rounds.find_end.Goals as goal

pub returns-in-Quiet-clause-told : goal.returns-in-Quiet-clause-told
returns-in-Quiet-clause-told g c =
    let told = c.in-Quiet.ensures in record {
      given = given_up c.args.job.now.turns.now c.args.job.now.program.now c.read_idle.new.clerk told.rests told.idle told.units;
      quiet = told.told.0;
      still = told.told.1;
    }

pub returns-in-Busy-clause-told : goal.returns-in-Busy-clause-told
returns-in-Busy-clause-told g c =
    let told = c.in-Busy.ensures in
    given_up c.args.job.now.turns.now c.args.job.now.program.now c.read_idle.new.clerk told.rests told.idle told.units
