use Rattle.std.proofs.Common.{◌≡◌, drop}
use Rattle.ocr_machine_parts.specs.Taken.{look}
use Rattle.ocr_machine_codes.proofs.lookup.find.Given as goal

abbrev pub invariant-loop-i : goal.invariant-loop-i
invariant-loop-i l = look (drop l.i l.parts) l.number ≡ look l.parts l.number
