use Rattle.ocr_tests_turns.specs.Clerks.{IsIdle}
use Rattle.ocr_tests_turns.proofs.play.make_visits.Given as goal

abbrev pub invariant-loop : goal.invariant-loop
invariant-loop g l = IsIdle l.turns l.clerk
