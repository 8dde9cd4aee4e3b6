use Rattle.ocr_worker.proofs.Advances.{GoesOn}
use Rattle.ocr_worker.proofs.Searches.{Rests}
use Rattle.ocr_worker.proofs.drained.advance_each.Given as goal

abbrev pub invariant-loop-edt : goal.invariant-loop-edt
invariant-loop-edt g l = GoesOn l.job.turns.now l.job.program.now l.fn.clerk l.clerk l.fn.hand l.hand × Rests l.job.turns.now l.fn.clerk l.clerk
