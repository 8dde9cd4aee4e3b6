use Rattle.ocr_worker.proofs.Advances.{GoesOn}
use Rattle.ocr_worker.proofs.Searches.{IsPassing, Rests}
use Rattle.ocr_worker.proofs.drained.advance_all.Given as goal

abbrev pub invariant-loop-number : goal.invariant-loop-number
invariant-loop-number g l =
    GoesOn l.job.turns.now l.job.program.now l.fn.clerk l.clerk l.fn.hand l.hand
    × IsPassing l.job.turns.now.1.limit l.number l.any l.fn.clerk l.clerk
    × Rests l.job.turns.now l.fn.clerk l.clerk
