use Rattle.std.proofs.Common.{◌≡◌}
use Rattle.ocr_steal.specs.Hand.{pool_of}
use Rattle.ocr_steal.proofs.tests.rob.Given as goal

abbrev pub invariant-loop-victim : goal.invariant-loop-victim
invariant-loop-victim l = (l.hand.number ≡ l.initial.hand.number) × (pool_of l.hand ≡ pool_of l.initial.hand)
