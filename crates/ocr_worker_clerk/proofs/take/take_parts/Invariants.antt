use Rattle.std.proofs.Common.{take}
use Rattle.ocr_worker_clerk.specs.Work.{AtWork, Stays, Took}
use Rattle.ocr_worker_clerk.proofs.take.take_parts.Given as goal

abbrev pub invariant-loop-place : goal.invariant-loop-place
invariant-loop-place g l = record {
  stays : Stays l.fn.clerk l.clerk;
  work : AtWork l.job.turns.now l.job.program.now l.clerk;
  took : Took l.fn.clerk l.clerk (take l.place-index l.places);
}
