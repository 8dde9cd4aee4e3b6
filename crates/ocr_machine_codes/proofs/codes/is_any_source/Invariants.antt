use Rattle.std.proofs.Common.{◌≡◌, drop}
use Rattle.ocr_machine_parts.specs.Codes.{is_any, wanted_sources}
use Rattle.ocr_machine_codes.specs.Lookup.{faces_of, test_of}
use Rattle.ocr_machine_codes.proofs.codes.is_any_source.Given as goal

abbrev pub invariant-loop-k : goal.invariant-loop-k
invariant-loop-k l = is_any (test_of l.edt l.test) (faces_of l.faces) (wanted_sources (drop l.k l.deps))
    ≡ is_any (test_of l.edt l.test) (faces_of l.faces) (wanted_sources l.deps)
