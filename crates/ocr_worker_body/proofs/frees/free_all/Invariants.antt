use Rattle.std.proofs.Common.{ℕ, length}
use Rattle.ocr_worker_clerk.specs.Push.{IsPushed, PushesReady}
use Rattle.ocr_worker_clerk.specs.Work.{AtWork, Stays}
use Rattle.ocr_worker_access.specs.Access.{held_at}
use Rattle.ocr_worker_body.specs.Body.{HasReturned}
use Rattle.ocr_worker_body.proofs.frees.free_all.Given as goal

abbrev pub ghost-free : goal.ghost-free
ghost-free g a = g.b

abbrev pub invariant-loop-block : goal.invariant-loop-block
invariant-loop-block g l = record {
  stays : Stays l.fn.clerk l.clerk;
  work : AtWork l.job.turns.now l.job.program.now l.clerk;
  returned : (n : ℕ) × HasReturned l.job.turns.now.1 l.fn.edt g.b n l.clerk;
  kept : (n : ℕ) → HasReturned l.job.turns.now.1 l.fn.edt g.b n l.fn.clerk → HasReturned l.job.turns.now.1 l.fn.edt g.b n l.clerk;
  hand : IsPushed l.fn.hand l.hand;
  pushed : PushesReady l.fn.clerk l.clerk l.fn.hand l.hand;
}

abbrev pub decreases-loop-block : goal.decreases-loop-block
decreases-loop-block g l = length (held_at l.clerk)
