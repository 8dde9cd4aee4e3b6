use Rattle.ocr_tests_turns.specs.Clerks.{IsIdle}
use Rattle.ocr_tests_turns.proofs.play.make_turns.Given as goal

abbrev pub invariant-loop-k : goal.invariant-loop-k
invariant-loop-k g l = IsIdle l.turns l.clerk
