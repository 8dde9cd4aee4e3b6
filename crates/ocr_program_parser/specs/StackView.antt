-- What waits for an operand, as it stands over plain trees.
use Rattle.std.specs.Prelude.{List, [], ◌∷◌, drop, length}
use Rattle.ocr_program_tree.specs.declared.tree.CallName.{CallName}
use Rattle.ocr_program_tree.specs.declared.tree.Expr.{Expr}
use Rattle.ocr_program_tree.specs.declared.tree.UnaryOp.{UnaryOp}
use Rattle.ocr_program_tree.specs.Tree as tree
use Rattle.ocr_program_tree.specs.Tree.{Arguments, Expression, empty, value, list, named}
use Rattle.ocr_program_tree.specs.View.{expression_of, members_of}
use Rattle.ocr_program_grammar.specs.declared.argument_kind.ArgumentKind.{ArgumentKind}
use Rattle.ocr_program_grammar.specs.Shape.{shape}
use Rattle.ocr_program_parser.specs.Stack as m
use Rattle.ocr_program_parser.specs.declared.stack.Purpose.{Purpose}
use Rattle.ocr_program_parser.specs.declared.stack.Purpose.TheVariants as purpose
use Rattle.ocr_program_parser.specs.declared.stack.Indexed.{Indexed}
use Rattle.ocr_program_parser.specs.declared.stack.Indexed.TheVariants as which
use Rattle.ocr_program_parser.specs.declared.stack.Arg.{Arg}
use Rattle.ocr_program_parser.specs.declared.stack.Arg.TheVariants as arg
use Rattle.ocr_program_parser.specs.declared.stack.Stack.{Stack}
use Rattle.ocr_program_parser.specs.declared.stack.Stack.TheVariants as stack
use Rattle.ocr_program_parser.specs.declared.stack.CallSite.{CallSite}
use Rattle.ocr_program_parser.specs.declared.stack.CallSite.TheVariants as site

abbrev pub purpose_of : Purpose → m.Purpose
purpose_of (purpose.Let x) = m.ToLet x
purpose_of (purpose.Assign x) = m.ToAssign x
purpose_of purpose.Test = m.ToTest
purpose_of purpose.Repeat = m.ToRepeat
purpose_of purpose.Print = m.ToPrint
purpose_of purpose.Return = m.ToReturn

abbrev pub indexed_of : Indexed → m.Indexed
indexed_of which.Parameters = m.OfParameters
indexed_of which.Dependences = m.OfDependences

abbrev pub argument_onto : Arg → Arguments → Arguments
argument_onto (arg.Value e) rest = value (expression_of e.value) rest
argument_onto (arg.List es) rest = list (members_of es.items) rest
argument_onto (arg.Named x) rest = named x rest

abbrev pub args_of : List Arg → Arguments
args_of [] = empty
args_of (a ∷ rest) = argument_onto a (args_of rest)

-- the slots that these arguments leave
abbrev pub slots_left : CallName → List Arg → List ArgumentKind
slots_left c args = drop (length args) (shape c)

abbrev pub but_first : List ArgumentKind → List ArgumentKind
but_first [] = []
but_first (s ∷ ss) = ss

-- the slots after the one that is being read
abbrev pub slots_after : CallName → List Arg → List ArgumentKind
slots_after c args = but_first (slots_left c args)

-- these signs before an operand, the first outermost
abbrev pub under : List UnaryOp → Expression → Expression
under [] e = e
under (op ∷ ops) e = tree.Unary op (under ops e)

-- these signs waiting, the last nearest, above what else waits
abbrev pub signs_onto : List UnaryOp → m.Stack → m.Stack
signs_onto [] k = k
signs_onto (op ∷ ops) k = signs_onto ops (m.Prefix op k)

abbrev mutual
  pub stack_of : Stack → m.Stack
  stack_of (stack.Bottom p) = m.Bottom (purpose_of p)
  stack_of (stack.Left' a op p k) = m.Left (expression_of a.value) op (stack_of k)
  stack_of (stack.Prefix' signs p k) =
      m.Prefix signs.last (signs_onto signs.before.items (stack_of k))
  stack_of (stack.Round' p k) = m.Round (stack_of k)
  stack_of (stack.Index' i p k) = m.Index (indexed_of i) (stack_of k)
  stack_of (stack.Argument c args k) =
      m.Argument c (args_of args.items) (slots_after c args.items) (site_of k)
  stack_of (stack.Member c args es k) =
      m.Member c (args_of args.items) (members_of es.items) (slots_after c args.items) (site_of k)
  stack_of (stack.FlagsArgument c args k) = m.FlagsArgument c (args_of args.items) (site_of k)

  pub site_of : CallSite → m.CallSite
  site_of (site.InExpression' p k) = m.InExpression (stack_of k)
  site_of site.AsStatement = m.AsStatement

abbrev pub held_of : Stack → Expr → m.Held
held_of k e = record { pending = stack_of k; value = expression_of e }
