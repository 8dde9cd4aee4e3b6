use Rattle.ocr_worker.proofs.Advances.{GoesOn}
use Rattle.ocr_worker.proofs.Searches.{Rests}
use Rattle.ocr_worker.proofs.drained.drain_on.Given as goal

abbrev pub invariant-loop : goal.invariant-loop
invariant-loop g l =
    (goal.iterator-loop g).can_next l.iterator' × (goal.iterator-loop g).is_finite l.iterator'
    × GoesOn l.job.turns.now l.job.program.now l.fn.clerk l.clerk l.fn.hand l.hand
    × Rests l.job.turns.now l.fn.clerk l.clerk
