use Rattle.std.proofs.Common.{◌≡◌, ◌++◌, drop}
use Rattle.ocr_acquire.specs.Plan.{last_of_each}
use Rattle.ocr_acquire.proofs.strongest.Given as goal

abbrev pub invariant-loop-i : goal.invariant-loop-i
invariant-loop-i l = l.plan.items ++ last_of_each (drop l.i l.entries) ≡ last_of_each l.entries
