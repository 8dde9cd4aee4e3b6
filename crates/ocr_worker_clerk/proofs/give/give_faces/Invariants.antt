use Rattle.std.proofs.Common.{drop, length, reverse}
use Rattle.ocr_worker_clerk.specs.Work.{AtWork}
use Rattle.ocr_worker_clerk.proofs.Gives.{GaveFaces}
use Rattle.ocr_worker_clerk.proofs.give.give_faces.Given as goal

abbrev pub invariant-loop-place : goal.invariant-loop-place
invariant-loop-place l = record {
  work : AtWork l.turns l.program l.clerk;
  so : GaveFaces l.turns.1 l.fn.edt (drop (length l.yielded) (reverse l.places)) l.fn.clerk l.clerk;
}
