use Rattle.std.proofs.Common.{◌≡◌, ◌++◌, drop}
use Rattle.ocr_machine_parts.specs.Calls.{depv_in}
use Rattle.ocr_machine_state.specs.Sets.{filled, stale_on}
use Rattle.ocr_machine_state.specs.State.{core_on}
use Rattle.ocr_machine_state.proofs.state.State.values.Given as goal

abbrev pub invariant-loop-k : goal.invariant-loop-k
invariant-loop-k l = l.values.items ++ depv_in (stale_on (core_on l.self l.edt)) (filled l.k (drop l.k l.slots) l.sets) ≡ depv_in (stale_on (core_on l.self l.edt)) (filled 0 l.slots l.sets)
