use Rattle.std.proofs.Common.{◌≡◌, ◌++◌, take, drop}
use Rattle.ocr_machine_history.specs.Numbers.{placed}
use Rattle.ocr_machine_codes.proofs.footprints.place_of.Given as goal

abbrev pub invariant-loop-i : goal.invariant-loop-i
invariant-loop-i l = placed l.number l.numbers ≡ take l.i l.numbers ++ placed l.number (drop l.i l.numbers)
