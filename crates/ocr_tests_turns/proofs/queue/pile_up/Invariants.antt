use Rattle.std.proofs.Common.{◌≤◌, ◌+◌, ℕ, Some}
use Rattle.ocr_base.specs.Mail.{Has}
use Rattle.ocr_tests_turns.specs.Clerks.{IsIdle}
use Rattle.ocr_tests_turns.proofs.queue.pile_up.Given as goal

abbrev pub invariant-loop-k : goal.invariant-loop-k
invariant-loop-k g l = record {
  idle : IsIdle l.turns l.clerk;
  units : l.initial.clerk.view.spares ≤ l.clerk.view.spares + l.k;
  last : Has l.last l.clerk.view.owed;
  rest : (name : ℕ × ℕ) → Has (Some name) l.initial.clerk.view.owed → Has (Some name) l.clerk.view.owed;
}
