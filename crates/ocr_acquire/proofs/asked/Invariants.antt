use Rattle.std.proofs.Common.{◌≡◌, ◌++◌, drop}
use Rattle.std.specs.List.{filter}
use Rattle.ocr_acquire.specs.Plan.{asks}
use Rattle.ocr_acquire.proofs.asked.Given as goal

abbrev pub invariant-loop-block : goal.invariant-loop-block
invariant-loop-block l = l.entries.items ++ filter asks (drop l.block-index l.slots) ≡ filter asks l.slots
