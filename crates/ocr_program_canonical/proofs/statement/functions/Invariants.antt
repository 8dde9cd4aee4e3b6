use Rattle.std.proofs.Common.{◌≡◌, ◌++◌, drop}
use Rattle.ocr_program_tree.specs.View.{functions_of}
use Rattle.ocr_program_canonical.specs.Written.{further_functions}
use Rattle.ocr_program_canonical.proofs.statement.functions.Given as goal

abbrev pub invariant-loop-other : goal.invariant-loop-other
invariant-loop-other l =
    l.text.items ++ further_functions (functions_of (drop l.other-index l.rest)) ≡ l.initial.text.items ++ further_functions (functions_of l.rest)
