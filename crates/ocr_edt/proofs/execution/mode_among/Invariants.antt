use Rattle.std.proofs.Common.{◌≡◌, drop}
use Rattle.ocr_edt.proofs.execution.mode_among.Given as goal
use Rattle.ocr_acquire.specs.Mode.{mode_in}
use Rattle.ocr_edt.specs.Steps.{held_in}

abbrev pub invariant-loop-i : goal.invariant-loop-i
invariant-loop-i l = mode_in l.block (held_in (drop l.i l.entries)) ≡ mode_in l.block (held_in l.entries)
