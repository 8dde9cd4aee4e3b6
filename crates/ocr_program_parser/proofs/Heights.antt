-- How much waits for an operand.
use Rattle.std.proofs.Common.{ℕ, ◌+◌}
use Rattle.ocr_program_parser.specs.Stack.{Stack, Bottom, Left, Prefix, Round, Index, Argument, Member, FlagsArgument}

abbrev pub height : Stack → ℕ
height (Bottom p) = 0
height (Left a op k) = height k + 1
height (Prefix op k) = height k + 1
height (Round k) = height k + 1
height (Index i k) = height k + 1
height (Argument c done ss k) = 0
height (Member c done es ss k) = 0
height (FlagsArgument c done k) = 0
