use Rattle.std.proofs.Common.{◌≡◌, ◌++◌, drop}
use Rattle.ocr_worker_body.specs.Given.{are_used}
use Rattle.ocr_worker_body.proofs.given.used_slots.Given as goal

abbrev pub invariant-loop-k : goal.invariant-loop-k
invariant-loop-k l = l.used.items ++ are_used (drop l.k l.slots) ≡ are_used l.slots
