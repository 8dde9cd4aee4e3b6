use Rattle.std.proofs.Common.{◌≡◌, ◌++◌, drop}
use Rattle.ocr_machine_parts.specs.Calls.{asks_in}
use Rattle.ocr_machine_state.specs.Sets.{filled}
use Rattle.ocr_machine_state.proofs.plans.asks.Given as goal

abbrev pub invariant-loop-k : goal.invariant-loop-k
invariant-loop-k l = l.asks.items ++ asks_in (filled l.k (drop l.k l.slots) l.sets) ≡ asks_in (filled 0 l.slots l.sets)
