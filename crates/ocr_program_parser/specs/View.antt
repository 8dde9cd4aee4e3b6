-- What was read, as the parser over plain trees sees it.
use Rattle.std.specs.Prelude.{◌≡◌, List, [], ◌∷◌, Option, Some, None}
use Rattle.ocr_program_tree.specs.declared.tree.CallName.{CallName}
use Rattle.ocr_program_tree.specs.declared.tree.Invoke.{Invoke}
use Rattle.ocr_program_tree.specs.Tree.{Arguments, empty, value, list, named}
use Rattle.ocr_program_tree.specs.View.{name_of, expression_of, arguments_of, members_of, statements_of, functions_of}
use Rattle.ocr_program_parser.specs.declared.stack.Arg.{Arg}
pub use Rattle.ocr_program_parser.specs.StackView.{purpose_of, indexed_of, argument_onto, args_of, slots_left, but_first, slots_after, stack_of, site_of, held_of}
use Rattle.ocr_program_parser.specs.Joined.{with}
use Rattle.ocr_program_parser.specs.Machine as m
use Rattle.ocr_program_parser.specs.declared.states.BlockKind.{BlockKind}
use Rattle.ocr_program_parser.specs.declared.states.BlockKind.TheVariants as kind
use Rattle.ocr_program_parser.specs.declared.states.OpenBlock.{OpenBlock}
use Rattle.ocr_program_parser.specs.declared.states.Position.{Position}
use Rattle.ocr_program_parser.specs.declared.states.State.{State}
use Rattle.ocr_program_parser.specs.declared.states.State.TheVariants as state
use Rattle.ocr_program_parser.specs.declared.states.Wanted.{Wanted}
use Rattle.ocr_program_parser.specs.declared.states.Wanted.TheVariants as wanted
use Rattle.ocr_program_parser.specs.declared.invocation.ParsedArguments.{ParsedArguments}
use Rattle.ocr_program_parser.specs.declared.invocation.ParsedArguments.TheVariants as parsed

-- the arguments of a call in their order
abbrev pub in_order : ParsedArguments → Arguments
in_order parsed.Nothing = empty
in_order (parsed.Value' e p rest) = value (expression_of e.value) (in_order rest)
in_order (parsed.List' es p rest) = list (members_of es.items) (in_order rest)
in_order (parsed.Named' x p rest) = named x (in_order rest)

abbrev pub block_kind_of : BlockKind → m.BlockKind
block_kind_of (kind.WhileBody e) = m.WhileBody (expression_of e.value)
block_kind_of (kind.IfBody e) = m.IfBody (expression_of e.value)
block_kind_of (kind.ElseBody e first) =
    m.ElseBody (expression_of e.value) (statements_of first.items)

abbrev pub open_block_of : OpenBlock → m.OpenBlock
open_block_of o = record {
  statements = statements_of o.statements.items;
  kind = block_kind_of o.kind;
}

-- the last one is the nearest
abbrev pub enclosing_onto : List OpenBlock → List m.OpenBlock → List m.OpenBlock
enclosing_onto [] k = k
enclosing_onto (o ∷ rest) k = enclosing_onto rest (open_block_of o ∷ k)

abbrev pub enclosing_of : List OpenBlock → List m.OpenBlock
enclosing_of os = enclosing_onto os []

abbrev pub position_of : Position → m.Position
position_of h = record {
  functions = functions_of h.functions.items;
  name = h.name;
  enclosing = enclosing_of h.enclosing.items;
  statements = statements_of h.statements.items;
}

-- what is wanted at a place in a function
abbrev pub wanted_of : m.Position → Wanted → m.State
wanted_of h wanted.Statement = m.AtStatement h
wanted_of h wanted.LetName = m.LetName h
wanted_of h (wanted.LetEquals x) = m.LetEquals h x
wanted_of h (wanted.AssignEquals x) = m.AssignEquals h x
wanted_of h (wanted.AfterCall call) = m.AfterCall h (name_of call.value) (arguments_of call.value)
wanted_of h (wanted.MayElse e first) =
    m.MayElse h (expression_of e.value) (statements_of first.items)
wanted_of h (wanted.ElseOpen e first) =
    m.ElseOpen h (expression_of e.value) (statements_of first.items)
wanted_of h (wanted.Operand k) = m.Operand h (stack_of k)
wanted_of h (wanted.IndexOpen i k) = m.IndexOpen h (indexed_of i) (stack_of k)
wanted_of h (wanted.CallOpen c k) = m.CallOpen h c (site_of k)
wanted_of h (wanted.CallEnd c args k) = m.CallEnd h c (args_of args.items) (site_of k)
wanted_of h (wanted.ListOpen c args k) =
    m.ListOpen h c (args_of args.items) (slots_after c args.items) (site_of k)
wanted_of h (wanted.ListStart c args k) =
    m.ListStart h c (args_of args.items) (slots_after c args.items) (site_of k)
wanted_of h (wanted.NameAt c args k) =
    m.NameAt h c (args_of args.items) (slots_after c args.items) (site_of k)
wanted_of h (wanted.AfterArgument c args k) =
    m.AfterArgument h c (args_of args.items) (slots_left c args.items) (site_of k)
wanted_of h (wanted.OutputAnd c args k) = m.OutputAnd h c (args_of args.items) (site_of k)
wanted_of h (wanted.OutputName c args k) = m.OutputName h c (args_of args.items) (site_of k)
wanted_of h (wanted.AfterOperand k e) = m.AfterOperand h (stack_of k) (expression_of e.value)

abbrev pub state_of : State → m.State
state_of (state.Functions fs) = m.Functions (functions_of fs.items)
state_of (state.FunctionName fs) = m.FunctionName (functions_of fs.items)
state_of (state.FunctionOpen fs x) = m.FunctionOpen (functions_of fs.items) x
state_of (state.InFunction h w) = wanted_of (position_of h) w

abbrev pub state_if_any : Option State → Option m.State
state_if_any None = None
state_if_any (Some s) = Some (state_of s)

-- the state after the end of the block at hand
abbrev pub after_block_end : m.Position → m.State
after_block_end h = m.at_block_end h.functions h.name h.enclosing h.statements

-- this call with these arguments
abbrev pub Invokes : Invoke → CallName → Arguments → Type 0
Invokes call c args = (name_of call ≡ c) × (arguments_of call ≡ args)

-- one argument more was given, and its slot is taken
pub record IsPushed (args more : List Arg) (a : Arguments) : Type 0 where
  pub given : args_of more ≡ with (args_of args) a
  pub slots : (c : CallName) → slots_left c more ≡ slots_after c args
