-- The parser written again over plain trees. It is no part of what has to be trusted: no clause of
-- `parse` reaches it. The code is compared with it, and it with the grammar. A state says what was
-- read, and a step takes one token.
use Rattle.std.specs.Prelude.{ℕ, List, [], ◌∷◌, ◌++◌, Option, Some, None}
use Rattle.ocr_program_tree.specs.declared.tree.UnaryOp.TheVariants as unary
use Rattle.ocr_program_tree.specs.declared.tree.BinaryOp.{BinaryOp}
use Rattle.ocr_program_tree.specs.declared.tree.BinaryOp.TheVariants as binary
use Rattle.ocr_program_tree.specs.declared.tree.CallName.{CallName}
use Rattle.ocr_program_tree.specs.Tree as tree
use Rattle.ocr_program_tree.specs.Tree.{Expression, Arguments, empty, value, list, named, Statement, Statements, nothing, statement, FunctionTree}
use Rattle.ocr_program_grammar.specs.declared.lexeme.Lexeme.{Lexeme}
use Rattle.ocr_program_grammar.specs.declared.lexeme.Lexeme.TheVariants as lexeme
use Rattle.ocr_program_grammar.specs.declared.lexeme.Word.TheVariants as word
use Rattle.ocr_program_grammar.specs.Texts.{level}
use Rattle.ocr_program_grammar.specs.declared.argument_kind.ArgumentKind.{ArgumentKind}
use Rattle.ocr_program_grammar.specs.declared.argument_kind.ArgumentKind.TheVariants.{Value, Values, NameOfFunction, FlagsAndOutput}
use Rattle.ocr_program_grammar.specs.Shape.{shape}
pub use Rattle.ocr_program_parser.specs.Stack.{Purpose, ToLet, ToAssign, ToTest, ToRepeat, ToPrint, ToReturn, Indexed, OfParameters, OfDependences, Stack, Bottom, Left, Prefix, Round, Index, Argument, Member, FlagsArgument, CallSite, InExpression, AsStatement, Held, fold_of}
use Rattle.ocr_program_parser.specs.Joined.{with, ended_by}

-- what a block is for
pub data BlockKind : Type 0 where
  WhileBody : (test : Expression) → BlockKind
  IfBody : (test : Expression) → BlockKind
  ElseBody : (test : Expression) (first : Statements) → BlockKind

-- a block in which the block at hand stands: its statements so far, and what the inner one is for
pub record OpenBlock : Type 0 where
  pub statements : Statements
  pub kind : BlockKind

-- the place in a function: the functions before, its name, the blocks around the one at hand, and
-- its statements so far
pub record Position : Type 0 where
  pub functions : List FunctionTree
  pub name : List ℕ
  pub enclosing : List OpenBlock
  pub statements : Statements

pub data State : Type 0 where
  Functions : (functions : List FunctionTree) → State
  FunctionName : (functions : List FunctionTree) → State
  FunctionOpen : (functions : List FunctionTree) (name : List ℕ) → State
  AtStatement : Position → State
  LetName : Position → State
  LetEquals : Position → (name : List ℕ) → State
  AssignEquals : Position → (name : List ℕ) → State
  AfterCall : Position → CallName → Arguments → State
  MayElse : Position → (test : Expression) (first : Statements) → State
  ElseOpen : Position → (test : Expression) (first : Statements) → State
  Operand : Position → Stack → State
  IndexOpen : Position → Indexed → Stack → State
  CallOpen : Position → CallName → CallSite → State
  CallEnd : Position → CallName → Arguments → CallSite → State
  ListOpen : Position → CallName → Arguments → List ArgumentKind → CallSite → State
  ListStart : Position → CallName → Arguments → List ArgumentKind → CallSite → State
  NameAt : Position → CallName → Arguments → List ArgumentKind → CallSite → State
  AfterArgument : Position → CallName → Arguments → List ArgumentKind → CallSite → State
  OutputAnd : Position → CallName → Arguments → CallSite → State
  OutputName : Position → CallName → Arguments → CallSite → State
  AfterOperand : Position → Stack → Expression → State

abbrev pub with_statement : Position → Statement → Position
with_statement h s = record {
  functions = h.functions;
  name = h.name;
  enclosing = h.enclosing;
  statements = ended_by h.statements s;
}

abbrev pub operator : Lexeme → Option BinaryOp
operator (lexeme.Operator op) = Some op
operator other = None

-- a block begins
abbrev pub block_start : Position → BlockKind → State
block_start h k =
    AtStatement (record {
      functions = h.functions;
      name = h.name;
      enclosing = record { statements = h.statements; kind = k } ∷ h.enclosing;
      statements = nothing;
    })

-- a statement that ends with a semicolon, and the token after it
abbrev pub at_semicolon : Position → Statement → Lexeme → Option State
at_semicolon h s lexeme.Semicolon = Some (AtStatement (with_statement h s))
at_semicolon h s other = None

-- what stands before a block, and the token after it
abbrev pub at_brace : Position → BlockKind → Lexeme → Option State
at_brace h k lexeme.OpenBrace = Some (block_start h k)
at_brace h k other = None

-- a whole expression, and the token after it
abbrev pub at_expression_end : Position → Purpose → Expression → Lexeme → Option State
at_expression_end h (ToLet x) e t = at_semicolon h (tree.Let x e) t
at_expression_end h (ToAssign x) e t = at_semicolon h (tree.Assign x e) t
at_expression_end h ToTest e t = at_brace h (IfBody e) t
at_expression_end h ToRepeat e t = at_brace h (WhileBody e) t
at_expression_end h ToPrint e t = at_semicolon h (tree.Print e) t
at_expression_end h ToReturn e t = at_semicolon h (tree.Return e) t

abbrev pub element_of : Indexed → Expression → Expression
element_of OfParameters e = tree.Paramv e
element_of OfDependences e = tree.Depv e

-- a call is whole
abbrev pub after_call : Position → CallName → Arguments → CallSite → State
after_call h c args (InExpression k) = AfterOperand h k (tree.Invoked c args)
after_call h c args AsStatement = AfterCall h c args

-- an argument of the first slot begins
abbrev pub argument : Position → CallName → Arguments → List ArgumentKind → CallSite → State
argument h c done [] k = CallEnd h c done k
argument h c done (Value ∷ ss) k = Operand h (Argument c done ss k)
argument h c done (Values ∷ ss) k = ListOpen h c done ss k
argument h c done (NameOfFunction ∷ ss) k = NameAt h c done ss k
argument h c done (FlagsAndOutput ∷ ss) k = Operand h (FlagsArgument c done k)

-- the token after the last argument
abbrev pub at_end : Position → CallName → Arguments → CallSite → Lexeme → Option State
at_end h c done k lexeme.CloseRound = Some (after_call h c done k)
at_end h c done k other = None

-- the token after another argument
abbrev pub at_comma : Position → CallName → Arguments → List ArgumentKind → CallSite → Lexeme
    → Option State
at_comma h c done ss k lexeme.Comma = Some (argument h c done ss k)
at_comma h c done ss k other = None

-- the token after an argument
abbrev pub after_argument : Position → CallName → Arguments → List ArgumentKind → CallSite → Lexeme
    → Option State
after_argument h c done [] k t = at_end h c done k t
after_argument h c done (s ∷ ss) k t = at_comma h c done (s ∷ ss) k t

-- the token after a member of a list
abbrev pub after_member : Position → CallName → Arguments → Arguments → List ArgumentKind → CallSite
    → Lexeme → Option State
after_member h c done es ss k lexeme.Comma = Some (Operand h (Member c done es ss k))
after_member h c done es ss k lexeme.CloseSquare =
    Some (AfterArgument h c (with done (list es empty)) ss k)
after_member h c done es ss k other = None

-- the token after the flags of a call
abbrev pub after_flags : Position → CallName → Arguments → CallSite → Lexeme → Option State
after_flags h c done k lexeme.CloseRound = Some (after_call h c done k)
after_flags h c done k lexeme.Comma = Some (OutputAnd h c done k)
after_flags h c done k other = None

-- an expression in brackets or a whole one, and the token after it
abbrev pub at_operand_end : Position → Stack → Expression → Lexeme → Option State
at_operand_end h (Round k) e lexeme.CloseRound = Some (AfterOperand h k e)
at_operand_end h (Index i k) e lexeme.CloseSquare = Some (AfterOperand h k (element_of i e))
at_operand_end h (Argument c done ss k) e t = after_argument h c (with done (value e empty)) ss k t
at_operand_end h (Member c done es ss k) e t =
    after_member h c done (with es (value e empty)) ss k t
at_operand_end h (FlagsArgument c done k) e t = after_flags h c (with done (value e empty)) k t
at_operand_end h (Bottom p) e t = at_expression_end h p e t
at_operand_end h other e t = None

abbrev pub at_right_operand : Position → BinaryOp → Held → State
at_right_operand h op held = Operand h (Left held.value op held.pending)

abbrev pub after : Position → Stack → Expression → Lexeme → Option BinaryOp → Option State
after h k e t (Some op) = Some (at_right_operand h op (fold_of (level op) k e))
after h k e t None = at_operand_end h (fold_of 0 k e).pending (fold_of 0 k e).value t

abbrev pub operand : Position → Stack → Lexeme → Option State
operand h k (lexeme.Number n) = Some (AfterOperand h k (tree.Number n))
operand h k (lexeme.Constant c) = Some (AfterOperand h k (tree.Named c))
operand h k (lexeme.Name x) = Some (AfterOperand h k (tree.Var x))
operand h k (lexeme.Word word.Paramc) = Some (AfterOperand h k tree.Paramc)
operand h k (lexeme.Word word.Depc) = Some (AfterOperand h k tree.Depc)
operand h k (lexeme.Word word.Code) = Some (AfterOperand h k tree.LastCode)
operand h k (lexeme.Word word.Paramv) = Some (IndexOpen h OfParameters k)
operand h k (lexeme.Word word.Depv) = Some (IndexOpen h OfDependences k)
operand h k lexeme.Not = Some (Operand h (Prefix unary.Not k))
operand h k lexeme.Invert = Some (Operand h (Prefix unary.Invert k))
operand h k (lexeme.Operator binary.Sub) = Some (Operand h (Prefix unary.Minus k))
operand h k lexeme.OpenRound = Some (Operand h (Round k))
operand h k (lexeme.Call c) = Some (CallOpen h c (InExpression k))
operand h k other = None

-- the first token after the opening bracket of a list
abbrev pub list_start : Position → CallName → Arguments → List ArgumentKind → CallSite → Lexeme
    → Option State
list_start h c done ss k lexeme.CloseSquare =
    Some (AfterArgument h c (with done (list empty empty)) ss k)
list_start h c done ss k other = operand h (Member c done empty ss k) other

-- the statement that a block ends
abbrev pub after_block : List FunctionTree → List ℕ → List OpenBlock → Statements → BlockKind
    → Statements → State
after_block fs x outer before (WhileBody e) body =
    AtStatement (record {
      functions = fs;
      name = x;
      enclosing = outer;
      statements = ended_by before (tree.While e body);
    })
after_block fs x outer before (IfBody e) body =
    MayElse (record { functions = fs; name = x; enclosing = outer; statements = before }) e body
after_block fs x outer before (ElseBody e first) body =
    AtStatement (record {
      functions = fs;
      name = x;
      enclosing = outer;
      statements = ended_by before (tree.If e first body);
    })

abbrev pub at_block_end : List FunctionTree → List ℕ → List OpenBlock → Statements → State
at_block_end fs x [] body = Functions (fs ++ record { name = x; body = body } ∷ [])
at_block_end fs x (o ∷ outer) body = after_block fs x outer o.statements o.kind body

abbrev pub at_statement : Position → Lexeme → Option State
at_statement h (lexeme.Word word.Let) = Some (LetName h)
at_statement h (lexeme.Word word.If) = Some (Operand h (Bottom ToTest))
at_statement h (lexeme.Word word.While) = Some (Operand h (Bottom ToRepeat))
at_statement h (lexeme.Word word.Print) = Some (Operand h (Bottom ToPrint))
at_statement h (lexeme.Word word.Return) = Some (Operand h (Bottom ToReturn))
at_statement h (lexeme.Name x) = Some (AssignEquals h x)
at_statement h (lexeme.Call c) = Some (CallOpen h c AsStatement)
at_statement h lexeme.CloseBrace = Some (at_block_end h.functions h.name h.enclosing h.statements)
at_statement h other = None

abbrev pub may_else : Position → Expression → Statements → Lexeme → Option State
may_else h e first (lexeme.Word word.Else) = Some (ElseOpen h e first)
may_else h e first other = at_statement (with_statement h (tree.If e first nothing)) other

abbrev pub step : State → Lexeme → Option State
step (Functions fs) (lexeme.Word word.Fn) = Some (FunctionName fs)
step (FunctionName fs) (lexeme.Name x) = Some (FunctionOpen fs x)
step (FunctionOpen fs x) lexeme.OpenBrace =
    Some (AtStatement (record { functions = fs; name = x; enclosing = []; statements = nothing }))
step (AtStatement h) t = at_statement h t
step (LetName h) (lexeme.Name x) = Some (LetEquals h x)
step (LetEquals h x) lexeme.Equals = Some (Operand h (Bottom (ToLet x)))
step (AssignEquals h x) lexeme.Equals = Some (Operand h (Bottom (ToAssign x)))
step (AfterCall h c args) t = at_semicolon h (tree.Do c args) t
step (MayElse h e first) t = may_else h e first t
step (ElseOpen h e first) t = at_brace h (ElseBody e first) t
step (Operand h k) t = operand h k t
step (IndexOpen h i k) lexeme.OpenSquare = Some (Operand h (Index i k))
step (CallOpen h c k) lexeme.OpenRound = Some (argument h c empty (shape c) k)
step (CallEnd h c done k) t = at_end h c done k t
step (ListOpen h c done ss k) lexeme.OpenSquare = Some (ListStart h c done ss k)
step (ListStart h c done ss k) t = list_start h c done ss k t
step (NameAt h c done ss k) (lexeme.Name x) =
    Some (AfterArgument h c (with done (named x empty)) ss k)
step (AfterArgument h c done ss k) t = after_argument h c done ss k t
step (OutputAnd h c done k) (lexeme.Operator binary.And) = Some (OutputName h c done k)
step (OutputName h c done k) (lexeme.Name x) = Some (CallEnd h c (with done (named x empty)) k)
step (AfterOperand h k e) t = after h k e t (operator t)
step other t = None

abbrev pub next : Option State → Lexeme → Option State
next None t = None
next (Some s) t = step s t

-- the state after these tokens, none where no program begins so
abbrev pub reads : Option State → List Lexeme → Option State
reads s [] = s
reads s (t ∷ ts) = reads (next s t) ts

abbrev pub start : Option State
start = Some (Functions [])

abbrev pub program_of : State → Option (List FunctionTree)
program_of (Functions fs) = Some fs
program_of other = None
