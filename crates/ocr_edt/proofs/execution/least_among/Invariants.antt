use Rattle.std.proofs.Common.{◌≡◌, drop}
use Rattle.ocr_edt.specs.Phases.{least_of}
use Rattle.ocr_edt.proofs.execution.least_among.Given as goal
use Rattle.ocr_edt.specs.Steps.{held_in}

abbrev pub invariant-loop-i : goal.invariant-loop-i
invariant-loop-i l = least_of (held_in (drop l.i l.entries)) ≡ least_of (held_in l.entries)
