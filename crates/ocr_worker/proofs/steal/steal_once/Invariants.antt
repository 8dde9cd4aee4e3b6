use Rattle.std.proofs.Common.{◌≡◌, ℕ}
use Rattle.ocr_steal.specs.Hand.{IsSame, knows, own}
use Rattle.ocr_steal.specs.Pool.{hands_in}
use Rattle.ocr_steal.specs.declared.hand.Hand.{Hand}
use Rattle.ocr_worker.proofs.Missed.{MissedBelow}
use Rattle.ocr_worker.proofs.steal.steal_once.Given as goal

-- the steals so far got nothing
pub record AllMissed (hands : ℕ) (old now : Hand) (bound : ℕ) : Type 0 where
  pub same : IsSame old now
  pub own_same : own now ≡ own old
  pub knows_same : knows now ≡ knows old
  pub below : MissedBelow hands old now bound

abbrev pub invariant-loop-victim : goal.invariant-loop-victim
invariant-loop-victim l = AllMissed (hands_in l.pool) l.fn.hand l.hand l.victim
