use Rattle.ocr_worker.proofs.Advances.{GoesOn}
use Rattle.ocr_steal.specs.Pool.{IsOfPool}
use Rattle.ocr_worker.specs.Leave.{IsWorker}
use Rattle.ocr_worker.proofs.rounds.work_on.Given as goal

abbrev pub invariant-loop : goal.invariant-loop
invariant-loop g l =
    (goal.iterator-loop g).can_next l.iterator' × (goal.iterator-loop g).is_finite l.iterator'
    × GoesOn l.job.turns.now l.job.program.now l.fn.clerk l.clerk l.fn.hand l.hand
    × IsWorker l.clerk × IsOfPool l.job.pool.now l.hand
