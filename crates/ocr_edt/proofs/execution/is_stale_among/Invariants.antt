use Rattle.std.proofs.Common.{◌≡◌, drop}
use Rattle.ocr_edt.specs.Phases.{is_named}
use Rattle.ocr_edt.proofs.execution.is_stale_among.Given as goal
use Rattle.ocr_edt.specs.Steps.{stale_in}

abbrev pub invariant-loop-i : goal.invariant-loop-i
invariant-loop-i l = is_named l.block (stale_in (drop l.i l.entries)) ≡ is_named l.block (stale_in l.entries)
