use Rattle.std.proofs.Common.{◌≡◌, ◌+◌, ◌≤◌, length}
use Rattle.ocr_text.specs.Scan as spec
use Rattle.ocr_text.proofs.scan.run_of.Given as goal

abbrev pub invariant-loop-rest : goal.invariant-loop-rest
invariant-loop-rest l = record {
  sum : spec.run_of (spec.goes_on l.kind) l.rest + length l.bytes ≡ spec.run_of (spec.goes_on l.kind) l.bytes + length l.rest;
  within : length l.rest ≤ length l.bytes;
}

abbrev pub decreases-loop-rest : goal.decreases-loop-rest
decreases-loop-rest l = length l.rest
