use Rattle.std.proofs.Common.{◌≡◌, ◌+◌, ◌≤◌, length, ◌-◌}
use Rattle.ocr_program_tree.specs.Functions as functions
use Rattle.ocr_program_tree.specs.View.{functions_of}
use Rattle.ocr_program_tree.proofs.functions.number_named.Given as goal

abbrev pub invariant-loop-rest : goal.invariant-loop-rest
invariant-loop-rest l = (length l.rest ≤ length l.fn.program)
    × (functions.number_named l.fn.name (functions_of l.fn.program) ≡ (length l.fn.program - length l.rest) + functions.number_named l.fn.name (functions_of l.rest))

abbrev pub decreases-loop-rest : goal.decreases-loop-rest
decreases-loop-rest l = length l.rest
