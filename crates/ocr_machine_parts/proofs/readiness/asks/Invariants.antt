use Rattle.std.proofs.Common.{◌≡◌, ◌++◌, drop}
use Rattle.ocr_machine_parts.specs.Calls.{asks_in}
use Rattle.ocr_machine_parts.specs.Readiness.{filled}
use Rattle.ocr_machine_parts.proofs.readiness.asks.Given as goal

abbrev pub invariant-loop-k : goal.invariant-loop-k
invariant-loop-k l = l.asks.items ++ asks_in (filled (drop l.k l.slots) (drop l.k l.payloads)) ≡ asks_in (filled l.slots l.payloads)
