use Rattle.std.proofs.Common.{◌≡◌, ◌++◌, drop}
use Rattle.ocr_worker_body.specs.Given.{values_by}
use Rattle.ocr_worker_body.proofs.given.values.Given as goal

abbrev pub invariant-loop-k : goal.invariant-loop-k
invariant-loop-k l = l.values.items ++ values_by l.running.stale (drop l.k l.used) (drop l.k l.payloads) ≡ values_by l.running.stale l.used l.payloads
