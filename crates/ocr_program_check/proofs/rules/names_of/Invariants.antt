use Rattle.std.proofs.Common.{◌≡◌, ℕ, List, take}
use Rattle.ocr_program_check.specs.Check.{FailsNowhere, HasNamesake, is_among, names_of}
use Rattle.ocr_program_check.specs.Names.{knows}
use Rattle.ocr_program_tree.specs.View.{functions_of}
use Rattle.ocr_program_check.proofs.rules.names_of.Given as goal

-- of the functions so far, no two have one name, and the set has their names
abbrev pub invariant-loop-i : goal.invariant-loop-i
invariant-loop-i l = record {
  distinct : FailsNowhere HasNamesake (functions_of (take l.i l.functions));
  names : (x : List ℕ) → knows l.names x ≡ is_among x (names_of (functions_of (take l.i l.functions)));
}
