use Rattle.ocr_worker.proofs.Advances.{GoesOn}
use Rattle.ocr_worker_clerk.specs.Push.{IsPushed, PushesReady}
use Rattle.ocr_worker.proofs.debts.deliver_owing.Given as goal

abbrev pub invariant-loop : goal.invariant-loop
invariant-loop g l =
    (goal.iterator-loop g).can_next l.iterator' × (goal.iterator-loop g).is_finite l.iterator'
    × GoesOn l.job.turns.now l.job.program.now l.fn.clerk l.clerk l.fn.hand l.hand
    × IsPushed l.fn.hand l.hand × PushesReady l.fn.clerk l.clerk l.fn.hand l.hand
