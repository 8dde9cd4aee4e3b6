use Rattle.std.proofs.Common.{◌≡◌}
use Rattle.ocr_steal.specs.Hand.{pool_of}
use Rattle.ocr_steal.proofs.tests.play.Given as goal

abbrev pub invariant-loop-k : goal.invariant-loop-k
invariant-loop-k l = (l.hand.number ≡ l.initial.hand.number) × (pool_of l.hand ≡ pool_of l.initial.hand)
