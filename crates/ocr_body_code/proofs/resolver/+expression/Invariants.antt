use Rattle.std.proofs.Common.{◌-◌, length, drop}
use Rattle.ocr_body_code.specs.Resolved.{Grew, IsArguments, numbers_of}
use Rattle.ocr_program_tree.specs.Argument.{plain_of}
use Rattle.ocr_program_tree.specs.View.{members_of}
use Rattle.ocr_body_code.proofs.resolver.+expression.Given as goal

abbrev pub invariant-members-loop-i : goal.invariant-members-loop-i
invariant-members-loop-i l = record {
  grew : Grew l.fn.names l.names;
  done : IsArguments (numbers_of l.numbers) l.names l.args (members_of (drop (length l.exprs - l.i) l.exprs));
}

abbrev pub invariant-coded-loop-i : goal.invariant-coded-loop-i
invariant-coded-loop-i l = record {
  grew : Grew l.fn.names l.names;
  done : IsArguments (numbers_of l.numbers) l.names l.args (plain_of (drop (length l.arguments.items - l.i) l.arguments.items));
}
