use Rattle.std.proofs.Common.{◌≡◌, length}
use Rattle.ocr_program_parser.specs.Joined.{with}
use Rattle.ocr_program_parser.specs.View.{args_of, in_order}
use Rattle.ocr_program_parser.proofs.invocation.ordered.Given as goal

abbrev pub invariant-loop-arg : goal.invariant-loop-arg
invariant-loop-arg l = with (args_of l.args.items) (in_order l.parsed) ≡ args_of l.fn.args.items

abbrev pub decreases-loop-arg : goal.decreases-loop-arg
decreases-loop-arg l = length l.args.items
