use Rattle.std.proofs.Common.{◌≡◌}
use Rattle.ocr_program_parser.specs.Stack as pending
use Rattle.ocr_program_tree.specs.View.{expression_of}
use Rattle.ocr_program_parser.specs.StackView.{stack_of}
use Rattle.ocr_program_parser.proofs.Heights.{height}
use Rattle.ocr_program_parser.proofs.folds.fold.Given as goal

abbrev pub invariant-loop-stack : goal.invariant-loop-stack
invariant-loop-stack l =
    pending.fold_of l.low (stack_of l.stack) (expression_of l.operand.value)
    ≡ pending.fold_of l.low (stack_of l.fn.stack) (expression_of l.fn.operand.value)

abbrev pub decreases-loop-stack : goal.decreases-loop-stack
decreases-loop-stack l = height (stack_of l.stack)
