-- Each step keeps that the arguments fit.
use Rattle.std.proofs.Common.{◌≡◌, ℕ, List, [], ◌∷◌, Option, Some, None, subst}
use Rattle.ocr_program_tree.specs.declared.tree.BinaryOp.{BinaryOp}
use Rattle.ocr_program_tree.specs.declared.tree.BinaryOp.TheVariants as binary
use Rattle.ocr_program_tree.specs.declared.tree.CallName.{CallName}
use Rattle.ocr_program_tree.specs.Tree as tree
use Rattle.ocr_program_tree.specs.Tree.{Expression, Arguments, empty, value, Statements, nothing, FunctionTree}
use Rattle.ocr_program_grammar.specs.declared.lexeme.Lexeme.{Lexeme}
use Rattle.ocr_program_grammar.specs.declared.lexeme.Lexeme.TheVariants as lexeme
use Rattle.ocr_program_grammar.specs.declared.lexeme.Word.TheVariants as word
use Rattle.ocr_program_grammar.specs.Grammar.{level}
use Rattle.ocr_program_grammar.specs.declared.argument_kind.ArgumentKind.{ArgumentKind}
use Rattle.ocr_program_grammar.specs.declared.argument_kind.ArgumentKind.TheVariants.{Value, Values, NameOfFunction, FlagsAndOutput}
use Rattle.ocr_program_grammar.specs.Shape.{shape}
use Rattle.ocr_program_parser.specs.Joined.{with}
use Rattle.ocr_program_parser.specs.Machine as m
use Rattle.ocr_program_parser.specs.Fits.{LeadsTo, IsFitting, IsFittingSite, IsFittingState, IsFittingIfAny}
use Rattle.ocr_program_parser.proofs.Fits.{fits_whole, leads_value, leads_list, leads_named, leads_output, folded_fits}

called_fits : (h : m.Position) (c : CallName) (args : Arguments) (k : m.CallSite) → IsFittingSite k
    → IsFittingState (m.after_call h c args k)
called_fits h c args (m.InExpression k) w = w
called_fits h c args m.AsStatement w = tt

argument_fits : (h : m.Position) (c : CallName) (done : Arguments) (ss : List ArgumentKind) (k : m.CallSite) → LeadsTo c done ss
    → IsFittingSite k → IsFittingState (m.argument h c done ss k)
argument_fits h c done [] k w a = (fits_whole c done w, a)
argument_fits h c done (Value ∷ ss) k w a = (w, a)
argument_fits h c done (Values ∷ ss) k w a = (w, a)
argument_fits h c done (NameOfFunction ∷ ss) k w a = (w, a)
argument_fits h c done (FlagsAndOutput ∷ ss) k w a = (λ e args is. w (value e args) is, a)

followed_fits : (h : m.Position) (c : CallName) (done : Arguments) (ss : List ArgumentKind) (k : m.CallSite) (t : Lexeme)
    → LeadsTo c done ss → IsFittingSite k → IsFittingIfAny (m.after_argument h c done ss k t)
followed_fits h c done [] k lexeme.CloseRound w a = called_fits h c done k a
followed_fits h c done (s ∷ ss) k lexeme.Comma w a = argument_fits h c done (s ∷ ss) k w a
followed_fits h c done ss k t w a = tt

operand_fits : (h : m.Position) (k : m.Stack) (t : Lexeme) → IsFitting k → IsFittingIfAny (m.operand h k t)
operand_fits h k (lexeme.Number n) w = w
operand_fits h k (lexeme.Constant c) w = w
operand_fits h k (lexeme.Name x) w = w
operand_fits h k (lexeme.Word word.Paramc) w = w
operand_fits h k (lexeme.Word word.Depc) w = w
operand_fits h k (lexeme.Word word.Code) w = w
operand_fits h k (lexeme.Word word.Paramv) w = w
operand_fits h k (lexeme.Word word.Depv) w = w
operand_fits h k lexeme.Not w = w
operand_fits h k lexeme.Invert w = w
operand_fits h k (lexeme.Operator binary.Sub) w = w
operand_fits h k lexeme.OpenRound w = w
operand_fits h k (lexeme.Call c) w = w
operand_fits h k other w = tt

list_fits : (h : m.Position) (c : CallName) (done : Arguments) (ss : List ArgumentKind) (k : m.CallSite) (t : Lexeme)
    → LeadsTo c done (Values ∷ ss) → IsFittingSite k → IsFittingIfAny (m.list_start h c done ss k t)
list_fits h c done ss k lexeme.CloseSquare w a = (leads_list c done ss empty w, a)
list_fits h c done ss k other w a = operand_fits h (m.Member c done empty ss k) other (w, a)

whole_fits : (h : m.Position) (p : m.Purpose) (e : Expression) (t : Lexeme) → IsFittingIfAny (m.at_expression_end h p e t)
whole_fits h (m.ToLet x) e lexeme.Semicolon = tt
whole_fits h (m.ToAssign x) e lexeme.Semicolon = tt
whole_fits h m.ToTest e lexeme.OpenBrace = tt
whole_fits h m.ToRepeat e lexeme.OpenBrace = tt
whole_fits h m.ToPrint e lexeme.Semicolon = tt
whole_fits h m.ToReturn e lexeme.Semicolon = tt
whole_fits h p e t = tt

closed_fits : (h : m.Position) (k : m.Stack) (e : Expression) (t : Lexeme) → IsFitting k → IsFittingIfAny (m.at_operand_end h k e t)
closed_fits h (m.Round k) e lexeme.CloseRound w = w
closed_fits h (m.Index i k) e lexeme.CloseSquare w = w
closed_fits h (m.Argument c done ss k) e t w = followed_fits h c (with done (value e empty)) ss k t (leads_value c done ss e w.0) w.1
closed_fits h (m.Member c done es ss k) e lexeme.Comma w = w
closed_fits h (m.Member c done es ss k) e lexeme.CloseSquare w = (leads_list c done ss (with es (value e empty)) w.0, w.1)
closed_fits h (m.FlagsArgument c done k) e lexeme.CloseRound w = called_fits h c (with done (value e empty)) k w.1
closed_fits h (m.FlagsArgument c done k) e lexeme.Comma w = (leads_output c done e w.0, w.1)
closed_fits h (m.Bottom p) e t w = whole_fits h p e t
closed_fits h other e t w = tt

after_fits : (h : m.Position) (k : m.Stack) (e : Expression) (t : Lexeme) (o : Option BinaryOp) → IsFitting k
    → IsFittingIfAny (m.after h k e t o)
after_fits h k e t (Some op) w = folded_fits (level op) k e w
after_fits h k e t None w = closed_fits h (m.fold_of 0 k e).pending (m.fold_of 0 k e).value t (folded_fits 0 k e w)

left_fits : (fs : List FunctionTree) (x : List ℕ) (outer : List m.OpenBlock) (before : Statements) (k : m.BlockKind)
    (body : Statements) → IsFittingState (m.after_block fs x outer before k body)
left_fits fs x outer before (m.WhileBody e) body = tt
left_fits fs x outer before (m.IfBody e) body = tt
left_fits fs x outer before (m.ElseBody e first) body = tt

ended_fits : (fs : List FunctionTree) (x : List ℕ) (outer : List m.OpenBlock) (body : Statements)
    → IsFittingState (m.at_block_end fs x outer body)
ended_fits fs x [] body = tt
ended_fits fs x (o ∷ outer) body = left_fits fs x outer o.statements o.kind body

statement_fits : (h : m.Position) (t : Lexeme) → IsFittingIfAny (m.at_statement h t)
statement_fits h (lexeme.Word word.Let) = tt
statement_fits h (lexeme.Word word.If) = tt
statement_fits h (lexeme.Word word.While) = tt
statement_fits h (lexeme.Word word.Print) = tt
statement_fits h (lexeme.Word word.Return) = tt
statement_fits h (lexeme.Name x) = tt
statement_fits h (lexeme.Call c) = tt
statement_fits h lexeme.CloseBrace = ended_fits h.functions h.name h.enclosing h.statements
statement_fits h other = tt

choice_fits : (h : m.Position) (e : Expression) (first : Statements) (t : Lexeme) → IsFittingIfAny (m.may_else h e first t)
choice_fits h e first (lexeme.Word word.Else) = tt
choice_fits h e first other = statement_fits (m.with_statement h (tree.If e first nothing)) other

pub step_fits : (s : m.State) (t : Lexeme) → IsFittingState s → IsFittingIfAny (m.step s t)
step_fits (m.Functions fs) (lexeme.Word word.Fn) w = tt
step_fits (m.FunctionName fs) (lexeme.Name x) w = tt
step_fits (m.FunctionOpen fs x) lexeme.OpenBrace w = tt
step_fits (m.AtStatement h) t w = statement_fits h t
step_fits (m.LetName h) (lexeme.Name x) w = tt
step_fits (m.LetEquals h x) lexeme.Equals w = tt
step_fits (m.AssignEquals h x) lexeme.Equals w = tt
step_fits (m.AfterCall h c args) lexeme.Semicolon w = tt
step_fits (m.MayElse h e first) t w = choice_fits h e first t
step_fits (m.ElseOpen h e first) lexeme.OpenBrace w = tt
step_fits (m.Operand h k) t w = operand_fits h k t w
step_fits (m.IndexOpen h i k) lexeme.OpenSquare w = w
step_fits (m.CallOpen h c k) lexeme.OpenRound w = argument_fits h c empty (shape c) k (λ args is. is) w
step_fits (m.CallEnd h c done k) lexeme.CloseRound w = called_fits h c done k w.1
step_fits (m.ListOpen h c done ss k) lexeme.OpenSquare w = w
step_fits (m.ListStart h c done ss k) t w = list_fits h c done ss k t w.0 w.1
step_fits (m.NameAt h c done ss k) (lexeme.Name x) w = (leads_named c done ss x w.0, w.1)
step_fits (m.AfterArgument h c done ss k) t w = followed_fits h c done ss k t w.0 w.1
step_fits (m.OutputAnd h c done k) (lexeme.Operator binary.And) w = w
step_fits (m.OutputName h c done k) (lexeme.Name x) w = (w.0 x, w.1)
step_fits (m.AfterOperand h k e) t w = after_fits h k e t (m.operator t) w
step_fits other t w = tt

-- the state after a step
pub step_fitting : (s s1 : m.State) (t : Lexeme) → IsFittingState s → m.step s t ≡ Some s1 → IsFittingState s1
step_fitting s s1 t w is = let P : Option m.State → Type 0 = IsFittingIfAny in subst P is (step_fits s t w)
