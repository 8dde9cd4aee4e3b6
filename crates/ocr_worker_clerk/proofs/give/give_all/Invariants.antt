use Rattle.ocr_worker_clerk.specs.Work.{AtWork}
use Rattle.ocr_worker_clerk.proofs.Gives.{GaveAll}
use Rattle.ocr_worker_clerk.proofs.give.give_all.Given as goal

abbrev pub invariant-loop-place : goal.invariant-loop-place
invariant-loop-place l = record {
  work : AtWork l.turns l.program l.clerk;
  so : GaveAll l.fn.clerk l.clerk l.place-index;
}
