use Rattle.std.proofs.Common.{◌≡◌, ◌≤◌, length, drop}
use Rattle.ocr_machine_parts.specs.Codes.{wanted_sources}
use Rattle.ocr_machine_parts.specs.Footprint.{and_wanted}
use Rattle.ocr_machine_codes.proofs.footprints.and_sources.Given as goal

abbrev pub invariant-loop-k : goal.invariant-loop-k
invariant-loop-k l = record {
  within : l.k ≤ length l.deps;
  later : l.numbers.items ≡ and_wanted l.limit (wanted_sources (drop l.k l.deps)) l.fn.numbers.items;
}

abbrev pub decreases-loop-k : goal.decreases-loop-k
decreases-loop-k l = l.k
