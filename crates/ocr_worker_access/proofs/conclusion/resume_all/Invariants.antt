use Rattle.std.proofs.Common.{◌≡◌, [], drop}
use Rattle.ocr_worker_clerk.specs.Work.{AtWork, Stays}
use Rattle.ocr_worker_clerk.specs.Push.{IsPushed, PushesReady}
use Rattle.ocr_worker_access.specs.Access.{HasEntered}
use Rattle.ocr_worker_access.proofs.conclusion.resume_all.Given as goal

abbrev pub invariant-loop-woken : goal.invariant-loop-woken
invariant-loop-woken g l = record {
  stays : Stays l.fn.clerk l.clerk;
  work : AtWork l.job.turns.now l.job.program.now l.clerk;
  entered : HasEntered l.job.turns.now.1 l.fn.edt g.s.0 l.clerk g.s.1 [] (drop l.woken-index l.resumed);
  log : l.clerk.view.log ≡ l.fn.clerk.view.log;
  parts : l.clerk.parts ≡ l.fn.clerk.parts;
  hand : IsPushed l.fn.hand l.hand;
  pushed : PushesReady l.fn.clerk l.clerk l.fn.hand l.hand;
}
