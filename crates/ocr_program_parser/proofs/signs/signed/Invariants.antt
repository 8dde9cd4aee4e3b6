use Rattle.std.proofs.Common.{◌≡◌, length}
use Rattle.ocr_program_tree.specs.Tree as tree
use Rattle.ocr_program_tree.specs.View.{expression_of}
use Rattle.ocr_program_parser.specs.StackView.{under}
use Rattle.ocr_program_parser.proofs.signs.signed.Given as goal

abbrev pub invariant-loop-op : goal.invariant-loop-op
invariant-loop-op l =
    under l.before.items (expression_of l.operand.value)
    ≡ under l.fn.signs.before.items (tree.Unary l.fn.signs.last (expression_of l.fn.operand.value))

abbrev pub decreases-loop-op : goal.decreases-loop-op
decreases-loop-op l = length l.before.items
