use Rattle.std.proofs.Common.{◌≡◌, ◌≤◌, ◌+◌, All, vec_len}
use Rattle.ocr_tests_turns.specs.Clerks.{HasUnit, IsIdle, IsRoot}
use Rattle.ocr_tests_turns.proofs.threads.hire.Given as goal

abbrev pub invariant-loop-k : goal.invariant-loop-k
invariant-loop-k l = record {
  root : IsRoot l.turns l.root l.k;
  unit : HasUnit l.root l.k;
  quota : l.plan.threads ≤ l.k + l.root.view.quota;
  many : vec_len l.jobs ≡ l.k;
  idle : All (λ job. IsIdle l.turns job.clerk) l.jobs.items;
}
