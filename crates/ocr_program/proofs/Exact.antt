-- Where no program goes on.
use Rattle.std.proofs.Common.{◌≡◌, ℕ, List, [], ◌∷◌, ◌++◌, Option, Some, None, refl, sym, ap, ◌∙◌, arith}
use Rattle.ocr_program_tree.specs.declared.tree.BinaryOp.TheVariants as binary
use Rattle.ocr_program_tree.specs.declared.tree.CallName.{CallName}
use Rattle.ocr_program_tree.specs.Tree as tree
use Rattle.ocr_program_tree.specs.Tree.{Expression, Arguments, empty, value, list, named, Statements, nothing, FunctionTree}
use Rattle.ocr_program_grammar.specs.declared.lexeme.Lexeme.{Lexeme}
use Rattle.ocr_program_grammar.specs.declared.lexeme.Lexeme.TheVariants as lexeme
use Rattle.ocr_program_grammar.specs.declared.argument_kind.ArgumentKind.{ArgumentKind}
use Rattle.ocr_program_grammar.specs.declared.argument_kind.ArgumentKind.TheVariants.{Value, Values, NameOfFunction, FlagsAndOutput}
use Rattle.ocr_program_grammar.specs.Shape.{shape}
use Rattle.ocr_program_grammar.specs.Grammar.{IsProgram, GoesOn}
use Rattle.ocr_program_parser.specs.Joined.{with, ended_by}
use Rattle.ocr_program_parser.specs.Machine as m
use Rattle.ocr_program_parser.specs.Machine.{State, Position, Purpose, Stack, Bottom, CallSite, InExpression, AsStatement, Left, Prefix, Round, Index, Argument, Member, FlagsArgument, Operand, AfterOperand, Held, fold_of, reads, step, operator, at_operand_end, after, start, Functions, program_of}
use Rattle.ocr_program.proofs.Complete.{Stands, at_place, after_choice, fold_left, reads_program}
use Rattle.ocr_program.proofs.Sound.{read_is_program}

reads_none : (ts : List Lexeme) → reads None ts ≡ None
reads_none [] = refl
reads_none (t ∷ ts) = reads_none ts

pub reads_append : (o : Option State) (a b : List Lexeme) → reads o (a ++ b) ≡ reads (reads o a) b
reads_append o [] b = refl
reads_append o (t ∷ a) b = reads_append (m.next o t) a b

-- these tokens end the program
record Ends (o : Option State) : Type 0 where
  rest : List Lexeme
  functions : List FunctionTree
  reading : reads o rest ≡ Some (Functions functions)

one : (s : State) (t : Lexeme) (o : Option State) → step s t ≡ o → Ends o → Ends (Some s)
one s t o is e = record {
  rest = t ∷ e.rest;
  functions = e.functions;
  reading = ap (λ (o1 : Option State). reads o1 e.rest) is ∙ e.reading;
}

kinds : (before : Statements) (k : m.BlockKind) (outer : List m.OpenBlock) (fs : List FunctionTree) (x : List ℕ) (body : Statements)
    → ((done : Statements) (s : State) → Stands s (record { functions = fs; name = x; enclosing = outer; statements = done }) → Ends (Some s))
    → Ends (Some (m.after_block fs x outer before k body))
kinds before (m.WhileBody e) outer fs x body go = go _ _ (at_place _)
kinds before (m.IfBody e) outer fs x body go = go _ _ (after_choice _ e body)
kinds before (m.ElseBody e first) outer fs x body go = go _ _ (at_place _)

blocks : (outer : List m.OpenBlock) (fs : List FunctionTree) (x : List ℕ) (done : Statements) (s : State)
    → Stands s (record { functions = fs; name = x; enclosing = outer; statements = done }) → Ends (Some s)
blocks [] fs x done s w = one s lexeme.CloseBrace _ w.end (record { rest = []; functions = _; reading = refl })
blocks (o ∷ outer) fs x done s w =
    one s lexeme.CloseBrace _ w.end (kinds o.statements o.kind outer fs x done (λ done1 s1 w1. blocks outer fs x done1 s1 w1))

place : (h : Position) → Ends (Some (m.AtStatement h))
place h = blocks h.enclosing h.functions h.name h.statements (m.AtStatement h) (at_place h)

whole : (h : Position) (p : Purpose) (e : Expression) → (t : Lexeme) × ((operator t ≡ None) × Ends (m.at_expression_end h p e t))
whole h (m.ToLet x) e = (lexeme.Semicolon, (refl, place _))
whole h (m.ToAssign x) e = (lexeme.Semicolon, (refl, place _))
whole h m.ToTest e = (lexeme.OpenBrace, (refl, place _))
whole h m.ToRepeat e = (lexeme.OpenBrace, (refl, place _))
whole h m.ToPrint e = (lexeme.Semicolon, (refl, place _))
whole h m.ToReturn e = (lexeme.Semicolon, (refl, place _))

-- the token that closes, after what is put together
closes : (h : Position) (k k1 : Stack) (e e1 : Expression) (t : Lexeme) → operator t ≡ None
    → fold_of 0 k1 e1 ≡ record { pending = k; value = e } → Ends (m.at_operand_end h k e t) → Ends (Some (AfterOperand h k1 e1))
closes h k k1 e e1 t other is end =
    one (AfterOperand h k1 e1) t (m.at_operand_end h k e t) (ap (after h k1 e1 t) other ∙ ap (λ (held : Held). m.at_operand_end h held.pending held.value t) is) end

-- each whole call here comes to an end
abbrev CallEnds : Position → CallSite → CallName → Type 0
CallEnds h k c = (args : Arguments) → Ends (Some (m.after_call h c args k))

-- an argument and all after it
abbrev FollowEnd : List ArgumentKind → Position → CallSite → CallName → Type 0
FollowEnd ss h k c = (done : Arguments) → (t : Lexeme) × ((operator t ≡ None) × Ends (m.after_argument h c done ss k t))

slot_end : (s : ArgumentKind) (ss : List ArgumentKind) (h : Position) (k : CallSite) (c : CallName) → CallEnds h k c → FollowEnd ss h k c
    → (done : Arguments) → Ends (Some (m.argument h c done (s ∷ ss) k))
slot_end Value ss h k c end go done =
    let w = go (with done (value (tree.Number 0) empty)) in
    one (Operand h (Argument c done ss k)) (lexeme.Number 0) _ refl (closes h (Argument c done ss k) (Argument c done ss k) (tree.Number 0) (tree.Number 0) w.0 w.1.0 refl w.1.1)
slot_end Values ss h k c end go done =
    let w = go (with done (list empty empty)) in
    one (m.ListOpen h c done ss k) lexeme.OpenSquare _ refl (one (m.ListStart h c done ss k) lexeme.CloseSquare _ refl (one (m.AfterArgument h c _ ss k) w.0 _ refl w.1.1))
slot_end NameOfFunction ss h k c end go done =
    let w = go (with done (named [] empty)) in
    one (m.NameAt h c done ss k) (lexeme.Name []) _ refl (one (m.AfterArgument h c _ ss k) w.0 _ refl w.1.1)
slot_end FlagsAndOutput ss h k c end go done =
    one (Operand h (FlagsArgument c done k)) (lexeme.Number 0) _ refl (closes h (FlagsArgument c done k) (FlagsArgument c done k) (tree.Number 0) (tree.Number 0) lexeme.CloseRound refl refl (end _))

after_end : (ss : List ArgumentKind) (h : Position) (k : CallSite) (c : CallName) → CallEnds h k c → FollowEnd ss h k c
after_end [] h k c end = λ done. (lexeme.CloseRound, (refl, end done))
after_end (s ∷ ss) h k c end = λ done. (lexeme.Comma, (refl, slot_end s ss h k c end (after_end ss h k c end) done))

arguments_end : (ss : List ArgumentKind) (h : Position) (k : CallSite) (c : CallName) → CallEnds h k c → (done : Arguments)
    → Ends (Some (m.argument h c done ss k))
arguments_end [] h k c end done = one (m.CallEnd h c done k) lexeme.CloseRound _ refl (end done)
arguments_end (s ∷ ss) h k c end done = slot_end s ss h k c end (after_end ss h k c end) done

mutual
  held : (k : Stack) (h : Position) (e : Expression) (k1 : Stack) (e1 : Expression) → fold_of 0 k1 e1 ≡ fold_of 0 k e
      → Ends (Some (AfterOperand h k1 e1))
  held (Bottom p) h e k1 e1 is = let w = whole h p e in closes h (Bottom p) k1 e e1 w.0 w.1.0 is w.1.1
  held (Left a op k) h e k1 e1 is = held k h (tree.Binary op a e) k1 e1 (is ∙ fold_left 0 a op k e (omega arith))
  held (Prefix op k) h e k1 e1 is = held k h (tree.Unary op e) k1 e1 is
  held (Round k) h e k1 e1 is = closes h (Round k) k1 e e1 lexeme.CloseRound refl is (held k h e k e refl)
  held (Index i k) h e k1 e1 is =
      closes h (Index i k) k1 e e1 lexeme.CloseSquare refl is (held k h (m.element_of i e) k (m.element_of i e) refl)
  held (Argument c done ss k) h e k1 e1 is =
      let w = after_end ss h k c (call_ends k h c) (with done (value e empty)) in
      closes h (Argument c done ss k) k1 e e1 w.0 w.1.0 is w.1.1
  held (Member c done es ss k) h e k1 e1 is =
      let w = after_end ss h k c (call_ends k h c) (with done (list (with es (value e empty)) empty)) in
      closes h (Member c done es ss k) k1 e e1 lexeme.CloseSquare refl is (one (m.AfterArgument h c _ ss k) w.0 _ refl w.1.1)
  held (FlagsArgument c done k) h e k1 e1 is =
      closes h (FlagsArgument c done k) k1 e e1 lexeme.CloseRound refl is (call_ends k h c (with done (value e empty)))

  call_ends : (k : CallSite) (h : Position) (c : CallName) (args : Arguments) → Ends (Some (m.after_call h c args k))
  call_ends (InExpression k) h c args = held k h (tree.Invoked c args) k (tree.Invoked c args) refl
  call_ends AsStatement h c args = one (m.AfterCall h c args) lexeme.Semicolon _ refl (place _)

operand : (h : Position) (k : Stack) → Ends (Some (Operand h k))
operand h k = one (Operand h k) (lexeme.Number 0) _ refl (held k h (tree.Number 0) k (tree.Number 0) refl)

-- each state comes to an end
each : (s : State) → Ends (Some s)
each (m.Functions fs) = record { rest = []; functions = fs; reading = refl }
each (m.FunctionName fs) =
    one (m.FunctionName fs) (lexeme.Name []) _ refl (one (m.FunctionOpen fs []) lexeme.OpenBrace _ refl (place _))
each (m.FunctionOpen fs x) = one (m.FunctionOpen fs x) lexeme.OpenBrace _ refl (place _)
each (m.AtStatement h) = place h
each (m.LetName h) =
    one (m.LetName h) (lexeme.Name []) _ refl (one (m.LetEquals h []) lexeme.Equals _ refl (operand h (Bottom (m.ToLet []))))
each (m.LetEquals h x) = one (m.LetEquals h x) lexeme.Equals _ refl (operand h (Bottom (m.ToLet x)))
each (m.AssignEquals h x) = one (m.AssignEquals h x) lexeme.Equals _ refl (operand h (Bottom (m.ToAssign x)))
each (m.AfterCall h c args) = call_ends AsStatement h c args
each (m.MayElse h e first) =
    blocks h.enclosing h.functions h.name (ended_by h.statements (tree.If e first nothing)) (m.MayElse h e first) (after_choice h e first)
each (m.ElseOpen h e first) = one (m.ElseOpen h e first) lexeme.OpenBrace _ refl (place _)
each (m.Operand h k) = operand h k
each (m.IndexOpen h i k) = one (m.IndexOpen h i k) lexeme.OpenSquare _ refl (operand h (Index i k))
each (m.CallOpen h c k) =
    one (m.CallOpen h c k) lexeme.OpenRound _ refl (arguments_end (shape c) h k c (call_ends k h c) empty)
each (m.CallEnd h c done k) = one (m.CallEnd h c done k) lexeme.CloseRound _ refl (call_ends k h c done)
each (m.ListOpen h c done ss k) = arguments_end (Values ∷ ss) h k c (call_ends k h c) done
each (m.ListStart h c done ss k) =
    let w = after_end ss h k c (call_ends k h c) (with done (list empty empty)) in
    one (m.ListStart h c done ss k) lexeme.CloseSquare _ refl (one (m.AfterArgument h c _ ss k) w.0 _ refl w.1.1)
each (m.NameAt h c done ss k) = arguments_end (NameOfFunction ∷ ss) h k c (call_ends k h c) done
each (m.AfterArgument h c done ss k) =
    let w = after_end ss h k c (call_ends k h c) done in
    one (m.AfterArgument h c done ss k) w.0 _ refl w.1.1
each (m.OutputAnd h c done k) =
    one (m.OutputAnd h c done k) (lexeme.Operator binary.And) _ refl (one (m.OutputName h c done k) (lexeme.Name []) _ refl (one (m.CallEnd h c _ k) lexeme.CloseRound _ refl (call_ends k h c _)))
each (m.OutputName h c done k) =
    one (m.OutputName h c done k) (lexeme.Name []) _ refl (one (m.CallEnd h c _ k) lexeme.CloseRound _ refl (call_ends k h c _))
each (m.AfterOperand h k e) = held k h e k e refl

-- what is read goes on
pub goes_on : (front : List Lexeme) (s : State) → reads start front ≡ Some s → GoesOn front
goes_on front s is =
    let e = each s in
    record {
      rest = e.rest;
      program = e.functions;
      whole = read_is_program (front ++ e.rest) e.functions (reads_append start front e.rest ∙ ap (λ (o : Option State). reads o e.rest) is ∙ e.reading);
    }

-- what is not read does not
pub stops : (front : List Lexeme) → reads start front ≡ None → GoesOn front → ⊥
stops front is w =
    let r = sym (reads_append start front w.rest ∙ ap (λ (o : Option State). reads o w.rest) is ∙ reads_none w.rest) ∙ reads_program (front ++ w.rest) w.program w.whole in
    cc

-- nor is a text a program that ends at another state
pub no_program : (ts : List Lexeme) (s : State) → reads start ts ≡ Some s → program_of s ≡ None
    → (program : List FunctionTree) → IsProgram ts program → ⊥
no_program ts s is other program d =
    let r : Some s ≡ Some (Functions program) = sym is ∙ reads_program ts program d in
    let same : s ≡ Functions program = cc in
    let q : program_of s ≡ Some program = ap program_of same in
    cc

-- a text has one tree
pub one_tree : (ts : List Lexeme) (a b : List FunctionTree) → IsProgram ts a → IsProgram ts b → a ≡ b
one_tree ts a b d e =
    let r : Some (Functions a) ≡ Some (Functions b) = sym (reads_program ts a d) ∙ reads_program ts b e in
    cc
