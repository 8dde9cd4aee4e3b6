use Rattle.ocr_worker.proofs.Still.{never_closed}
use Rattle.ocr_worker.proofs.leave.look_on.Goals as goal

pub returns-in-Some-clause-rests : goal.returns-in-Some-clause-rests
returns-in-Some-clause-rests g c = λ rest.
    absurd (never_closed c.args.job.now.turns.now c.args.job.now.program.now c.in-Some.word c.args.clerk.now c.look.new.clerk c.requires.between rest c.in-Some.ensures)
