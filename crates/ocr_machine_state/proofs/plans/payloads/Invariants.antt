use Rattle.std.proofs.Common.{◌≡◌, ◌++◌, drop}
use Rattle.ocr_machine_state.specs.Sets.{filled, payloads_in}
use Rattle.ocr_machine_state.proofs.plans.payloads.Given as goal

abbrev pub invariant-loop-k : goal.invariant-loop-k
invariant-loop-k l = l.payloads.items ++ payloads_in (filled l.k (drop l.k l.slots) l.sets) ≡ payloads_in (filled 0 l.slots l.sets)
