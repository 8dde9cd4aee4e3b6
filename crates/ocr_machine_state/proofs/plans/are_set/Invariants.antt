use Rattle.std.proofs.Common.{◌≡◌, drop}
use Rattle.ocr_machine_state.specs.Sets.{filled, are_set}
use Rattle.ocr_machine_state.proofs.plans.are_set.Given as goal

abbrev pub invariant-loop-k : goal.invariant-loop-k
invariant-loop-k l = are_set (filled l.k (drop l.k l.slots) l.sets) ≡ are_set (filled 0 l.slots l.sets)
