-- What has a tree is read to it.
use Rattle.std.proofs.Common.{◌≡◌, ◌+◌, ◌≤◌, ◌<◌, ℕ, List, [], ◌∷◌, ◌++◌, Some, None, false, inl, inr, refl, sym, ap, ◌∙◌, arith, append_assoc, append-nil}
use Rattle.std.proofs.lemmas.Bool.{le-leb, cond-true, cond-false}
use Rattle.std.specs.Prelude.{nat_le}
use Rattle.std.proofs.lemmas.Bool.Decides.{leb_tells}
use Rattle.ocr_program_tree.specs.declared.tree.UnaryOp.{UnaryOp}
use Rattle.ocr_program_tree.specs.declared.tree.UnaryOp.TheVariants as unary
use Rattle.ocr_program_tree.specs.declared.tree.BinaryOp.{BinaryOp}
use Rattle.ocr_program_tree.specs.declared.tree.BinaryOp.TheVariants as binary
use Rattle.ocr_program_tree.specs.declared.tree.CallName.{CallName}
use Rattle.ocr_program_tree.specs.Tree as tree
use Rattle.ocr_program_tree.specs.Tree.{Expression, Arguments, empty, value, list, named, Statement, Statements, nothing, statement, FunctionTree}
use Rattle.ocr_program_grammar.specs.declared.lexeme.Lexeme.{Lexeme}
use Rattle.ocr_program_grammar.specs.declared.lexeme.Lexeme.TheVariants as lexeme
use Rattle.ocr_program_grammar.specs.declared.lexeme.Word.TheVariants as word
use Rattle.ocr_program_grammar.specs.declared.argument_kind.ArgumentKind.{ArgumentKind}
use Rattle.ocr_program_grammar.specs.Shape.{shape}
use Rattle.ocr_program_grammar.specs.Grammar as g
use Rattle.ocr_program_grammar.specs.Grammar.{level, lexeme_of_sign, IsExpression, AreArguments, Follows, AreMembers, IsStatement, AreStatements, IsProgram}
use Rattle.ocr_program_parser.specs.Joined.{with, ended_by, followed_by}
use Rattle.ocr_program_parser.specs.Machine as m
use Rattle.ocr_program_parser.specs.Machine.{State, Position, Purpose, Indexed, Stack, Bottom, CallSite, InExpression, AsStatement, Left, Prefix, Round, Index, Argument, Member, FlagsArgument, Operand, AfterOperand, Held, fold_of, reads, step, operator, at_operand_end, after, at_right_operand, element_of, start, Functions}
use Rattle.ocr_program_parser.proofs.Joined.{with_none, with_more}

-- the least level of what goes on here
abbrev pub floor : Stack → ℕ
floor (Bottom p) = 0
floor (Left a op k) = level op + 1
floor (Prefix op k) = 8
floor (Round k) = 0
floor (Index i k) = 0
floor (Argument c done ss k) = 0
floor (Member c done es ss k) = 0
floor (FlagsArgument c done k) = 0

pub level_low : (op : BinaryOp) → level op < 8
level_low binary.Or = omega arith
level_low binary.Xor = omega arith
level_low binary.And = omega arith
level_low binary.Eq = omega arith
level_low binary.Ne = omega arith
level_low binary.Lt = omega arith
level_low binary.Le = omega arith
level_low binary.Gt = omega arith
level_low binary.Ge = omega arith
level_low binary.Shl = omega arith
level_low binary.Shr = omega arith
level_low binary.Add = omega arith
level_low binary.Sub = omega arith
level_low binary.Mul = omega arith
level_low binary.Div = omega arith
level_low binary.Rem = omega arith

-- one operator on the left, at levels
pub fold_left : (l : ℕ) (a : Expression) (op : BinaryOp) (k : Stack) (e : Expression) → l ≤ level op
    → fold_of l (Left a op k) e ≡ fold_of l k (tree.Binary op a e)
fold_left l a op k e h = cond-true _ _ _ (le-leb l (level op) h)

not_below : (a b : ℕ) → b < a → nat_le a b ≡ false
not_below a b h = elim (leb_tells a b) as (λ _. nat_le a b ≡ false) [ inl p ↦ absurd (omega (arith, p.1)) | inr p ↦ p.0 ]

stop_left : (l : ℕ) (a : Expression) (op : BinaryOp) (k : Stack) (e : Expression) → level op < l
    → fold_of l (Left a op k) e ≡ record { pending = Left a op k; value = e }
stop_left l a op k e h = cond-false _ _ _ (not_below l (level op) h)

pub settled : (l : ℕ) (k : Stack) (e : Expression) → floor k ≤ l → l < 8 → fold_of l k e ≡ record { pending = k; value = e }
settled l (Bottom p) e h small = refl
settled l (Left a op k) e h small = stop_left l a op k e (omega (arith, h))
settled l (Prefix op k) e h small = absurd (omega arith)
settled l (Round k) e h small = refl
settled l (Index i k) e h small = refl
settled l (Argument c done ss k) e h small = refl
settled l (Member c done es ss k) e h small = refl
settled l (FlagsArgument c done k) e h small = refl

-- reading an operand comes to the expression, up to what is folded by the next token
pub record Comes (h : Position) (k : Stack) (l : ℕ) (ts rest : List Lexeme) (e : Expression) : Type 0 where
  pub pending : Stack
  pub value : Expression
  pub reading : reads (Some (Operand h k)) ts ≡ reads (Some (AfterOperand h pending value)) rest
  pub folds : (n : ℕ) → n ≤ l → fold_of n pending value ≡ fold_of n k e

closing : (h : Position) (k : Stack) (l : ℕ) (ts rest : List Lexeme) (e : Expression) (t : Lexeme) → operator t ≡ None
    → floor k ≡ 0 → Comes h k l ts (t ∷ rest) e → reads (Some (Operand h k)) ts ≡ reads (at_operand_end h k e t) rest
closing h k l ts rest e t other low r =
    r.reading ∙ ap (λ o. reads (after h r.pending r.value t o) rest) other
    ∙ ap (λ (held : Held). reads (at_operand_end h held.pending held.value t) rest) (r.folds 0 (omega arith) ∙ settled 0 k e (omega (arith, low)) (omega arith))

prefixed : (h : Position) (k : Stack) (op : UnaryOp) (ts : List Lexeme)
    → reads (Some (Operand h k)) (lexeme_of_sign op ∷ ts) ≡ reads (Some (Operand h (Prefix op k))) ts
prefixed h k unary.Not ts = refl
prefixed h k unary.Invert ts = refl
prefixed h k unary.Minus ts = refl

same_args : {a b : Arguments} (h : Position) (k : CallSite) (c : CallName) (rest : List Lexeme) → a ≡ b
    → reads (Some (m.after_call h c a k)) rest ≡ reads (Some (m.after_call h c b k)) rest
same_args h k c rest is = ap (λ (args : Arguments). reads (Some (m.after_call h c args k)) rest) is

other_follows : (ss : List ArgumentKind) (t : Lexeme) (mid rest : List Lexeme) (args : Arguments) → Follows ss t mid rest args
    → operator t ≡ None
other_follows _ _ _ _ _ (g.closes rest) = refl
other_follows _ _ _ _ _ (g.goes s ss ts rest args d) = refl

-- no expression begins with a closing bracket
start_member : (l : ℕ) (ts rest : List Lexeme) (e : Expression) → IsExpression l ts rest e → (h : Position) (k : CallSite)
    (c : CallName) (done : Arguments) (ss : List ArgumentKind)
    → reads (Some (m.ListStart h c done ss k)) ts ≡ reads (Some (Operand h (Member c done empty ss k))) ts
start_member _ _ _ _ (g.number l n rest) h k c done ss = refl
start_member _ _ _ _ (g.constant l v rest) h k c done ss = refl
start_member _ _ _ _ (g.variable l x rest) h k c done ss = refl
start_member _ _ _ _ (g.paramc l rest) h k c done ss = refl
start_member _ _ _ _ (g.depc l rest) h k c done ss = refl
start_member _ _ _ _ (g.code l rest) h k c done ss = refl
start_member _ _ _ _ (g.paramv l ts rest e d) h k c done ss = refl
start_member _ _ _ _ (g.depv l ts rest e d) h k c done ss = refl
start_member _ _ _ _ (g.signed l unary.Not ts rest e d) h k c done ss = refl
start_member _ _ _ _ (g.signed l unary.Invert ts rest e d) h k c done ss = refl
start_member _ _ _ _ (g.signed l unary.Minus ts rest e d) h k c done ss = refl
start_member _ _ _ _ (g.joined l op ts mid rest a b low first second) h k c done ss =
    start_member (level op) ts (lexeme.Operator op ∷ mid) a first h k c done ss
start_member _ _ _ _ (g.parentheses l ts rest e d) h k c done ss = refl
start_member _ _ _ _ (g.invoked l c1 ts rest args d) h k c done ss = refl

start_members : (ts rest : List Lexeme) (es : Arguments) → AreMembers ts rest es → (h : Position) (k : CallSite)
    (c : CallName) (done : Arguments) (ss : List ArgumentKind)
    → reads (Some (m.ListStart h c done ss k)) ts ≡ reads (Some (Operand h (Member c done empty ss k))) ts
start_members _ _ _ (g.last ts rest e d) h k c done ss = start_member 0 ts (lexeme.CloseSquare ∷ rest) e d h k c done ss
start_members _ _ _ (g.member ts mid rest e es d others) h k c done ss =
    start_member 0 ts (lexeme.Comma ∷ mid) e d h k c done ss

mutual
  pub expression : (l : ℕ) (ts rest : List Lexeme) (e : Expression) → IsExpression l ts rest e → (h : Position) (k : Stack)
      → floor k ≤ l → l ≤ 8 → Comes h k l ts rest e
  expression _ _ _ _ (g.number l n rest) h k f high =
      record { pending = k; value = tree.Number n; reading = refl; folds = λ n _. refl }
  expression _ _ _ _ (g.constant l c rest) h k f high =
      record { pending = k; value = tree.Named c; reading = refl; folds = λ n _. refl }
  expression _ _ _ _ (g.variable l x rest) h k f high =
      record { pending = k; value = tree.Var x; reading = refl; folds = λ n _. refl }
  expression _ _ _ _ (g.paramc l rest) h k f high =
      record { pending = k; value = tree.Paramc; reading = refl; folds = λ n _. refl }
  expression _ _ _ _ (g.depc l rest) h k f high =
      record { pending = k; value = tree.Depc; reading = refl; folds = λ n _. refl }
  expression _ _ _ _ (g.code l rest) h k f high =
      record { pending = k; value = tree.LastCode; reading = refl; folds = λ n _. refl }
  expression _ _ _ _ (g.paramv l ts rest e d) h k f high =
      let r = expression 0 ts (lexeme.CloseSquare ∷ rest) e d h (Index m.OfParameters k) (omega arith) (omega arith) in
      record {
        pending = k;
        value = tree.Paramv e;
        reading = closing h (Index m.OfParameters k) 0 ts rest e lexeme.CloseSquare refl refl r;
        folds = λ n _. refl;
      }
  expression _ _ _ _ (g.depv l ts rest e d) h k f high =
      let r = expression 0 ts (lexeme.CloseSquare ∷ rest) e d h (Index m.OfDependences k) (omega arith) (omega arith) in
      record {
        pending = k;
        value = tree.Depv e;
        reading = closing h (Index m.OfDependences k) 0 ts rest e lexeme.CloseSquare refl refl r;
        folds = λ n _. refl;
      }
  expression _ _ _ _ (g.signed l op ts rest e d) h k f high =
      let r = expression 8 ts rest e d h (Prefix op k) (omega arith) (omega arith) in
      record {
        pending = r.pending;
        value = r.value;
        reading = prefixed h k op ts ∙ r.reading;
        folds = λ n small. r.folds n (omega arith);
      }
  expression _ _ _ _ (g.joined l op ts mid rest a b low first second) h k f high =
      let r = expression (level op) ts (lexeme.Operator op ∷ mid) a first h k (omega arith) (omega (arith, level_low op)) in
      let s = expression (level op + 1) mid rest b second h (Left a op k) (omega arith) (omega (arith, level_low op)) in
      let begins : reads (Some (Operand h k)) ts ≡ reads (Some (Operand h (Left a op k))) mid =
      r.reading
      ∙ ap (λ (held : Held). reads (Some (at_right_operand h op held)) mid) (r.folds (level op) (omega arith) ∙ settled (level op) k a (omega arith) (level_low op)) in
      record {
        pending = s.pending;
        value = s.value;
        reading = begins ∙ s.reading;
        folds = λ n small. s.folds n (omega arith) ∙ fold_left n a op k b (omega arith);
      }
  expression _ _ _ _ (g.parentheses l ts rest e d) h k f high =
      let r = expression 0 ts (lexeme.CloseRound ∷ rest) e d h (Round k) (omega arith) (omega arith) in
      record {
        pending = k;
        value = e;
        reading = closing h (Round k) 0 ts rest e lexeme.CloseRound refl refl r;
        folds = λ n _. refl;
      }
  expression _ _ _ _ (g.invoked l c ts rest args d) h k f high =
      record {
        pending = k;
        value = tree.Invoked c args;
        reading = arguments (shape c) ts rest args d h (InExpression k) c empty;
        folds = λ n _. refl;
      }

  pub arguments : (ss : List ArgumentKind) (ts rest : List Lexeme) (args : Arguments) → AreArguments ss ts rest args
      → (h : Position) (k : CallSite) (c : CallName) (done : Arguments)
      → reads (Some (m.argument h c done ss k)) ts ≡ reads (Some (m.after_call h c (with done args) k)) rest
  arguments _ _ _ _ (g.no_more rest) h k c done = same_args h k c rest (sym (with_none done))
  arguments _ _ _ _ (g.one_value ss ts mid rest e t args d f) h k c done =
      let r = expression 0 ts (t ∷ mid) e d h (Argument c done ss k) (omega arith) (omega arith) in
      closing h (Argument c done ss k) 0 ts mid e t (other_follows ss t mid rest args f) refl r
      ∙ follow ss t mid rest args f h k c (with done (value e empty))
      ∙ same_args h k c rest (with_more done (value e empty) args)
  arguments _ _ _ _ (g.flags ss ts rest e d) h k c done =
      closing h (FlagsArgument c done k) 0 ts rest e lexeme.CloseRound refl refl (expression 0 ts (lexeme.CloseRound ∷ rest) e d h (FlagsArgument c done k) (omega arith) (omega arith))
  arguments _ _ _ _ (g.output ss ts rest e x d) h k c done =
      closing h (FlagsArgument c done k) 0 ts _ e lexeme.Comma refl refl (expression 0 ts _ e d h (FlagsArgument c done k) (omega arith) (omega arith))
      ∙ same_args h k c rest (with_more done (value e empty) (named x empty))
  arguments _ _ _ _ (g.one_name ss x t mid rest args f) h k c done =
      follow ss t mid rest args f h k c (with done (named x empty)) ∙ same_args h k c rest (with_more done (named x empty) args)
  arguments _ _ _ _ (g.no_values ss t mid rest args f) h k c done =
      follow ss t mid rest args f h k c (with done (list empty empty)) ∙ same_args h k c rest (with_more done (list empty empty) args)
  arguments _ _ _ _ (g.some_values ss t ts mid rest es args es_are f) h k c done =
      start_members ts (t ∷ mid) es es_are h k c done ss ∙ members ts (t ∷ mid) es es_are h k c done empty ss
      ∙ follow ss t mid rest args f h k c (with done (list es empty))
      ∙ same_args h k c rest (with_more done (list es empty) args)

  pub follow : (ss : List ArgumentKind) (t : Lexeme) (mid rest : List Lexeme) (args : Arguments) → Follows ss t mid rest args
      → (h : Position) (k : CallSite) (c : CallName) (done : Arguments)
      → reads (m.after_argument h c done ss k t) mid ≡ reads (Some (m.after_call h c (with done args) k)) rest
  follow _ _ _ _ _ (g.closes rest) h k c done = same_args h k c rest (sym (with_none done))
  follow _ _ _ _ _ (g.goes s ss ts rest args d) h k c done = arguments (s ∷ ss) ts rest args d h k c done

  pub members : (ts rest : List Lexeme) (es : Arguments) → AreMembers ts rest es → (h : Position) (k : CallSite)
      (c : CallName) (done before : Arguments) (ss : List ArgumentKind)
      → reads (Some (Operand h (Member c done before ss k))) ts
      ≡ reads (Some (m.AfterArgument h c (with done (list (with before es) empty)) ss k)) rest
  members _ _ _ (g.last ts rest e d) h k c done before ss =
      closing h (Member c done before ss k) 0 ts rest e lexeme.CloseSquare refl refl (expression 0 ts (lexeme.CloseSquare ∷ rest) e d h (Member c done before ss k) (omega arith) (omega arith))
  members _ _ _ (g.member ts mid rest e es d others) h k c done before ss =
      closing h (Member c done before ss k) 0 ts mid e lexeme.Comma refl refl (expression 0 ts (lexeme.Comma ∷ mid) e d h (Member c done before ss k) (omega arith) (omega arith))
      ∙ members mid rest es others h k c done (with before (value e empty)) ss
      ∙ ap (λ (es1 : Arguments). reads (Some (m.AfterArgument h c (with done (list es1 empty)) ss k)) rest) (with_more before (value e empty) es)

-- a whole expression and the token after it
pub whole_expression : (h : Position) (p : Purpose) (ts rest : List Lexeme) (e : Expression) (t : Lexeme)
    → operator t ≡ None → IsExpression 0 ts (t ∷ rest) e → reads (Some (Operand h (Bottom p))) ts ≡ reads (m.at_expression_end h p e t) rest
whole_expression h p ts rest e t other d =
    closing h (Bottom p) 0 ts rest e t other refl (expression 0 ts (t ∷ rest) e d h (Bottom p) (omega arith) (omega arith))

-- the statements of a block, and its end
abbrev pub filled : Position → Statements → Position
filled h ss = record { functions = h.functions; name = h.name; enclosing = h.enclosing; statements = followed_by h.statements ss }

abbrev pub ends : Position → State
ends h = m.at_block_end h.functions h.name h.enclosing h.statements

followed_none : (ss : Statements) → followed_by ss nothing ≡ ss
followed_none nothing = refl
followed_none (statement s ss) = ap (statement s) (followed_none ss)

followed_more : (ss : Statements) (s : Statement) (others : Statements)
    → followed_by (ended_by ss s) others ≡ followed_by ss (statement s others)
followed_more nothing s others = refl
followed_more (statement first ss) s others = ap (statement first) (followed_more ss s others)

-- a state that reads what begins a statement, or ends a block, as this place does
pub record Stands (s : State) (h : Position) : Type 0 where
  pub bind : step s (lexeme.Word word.Let) ≡ m.at_statement h (lexeme.Word word.Let)
  pub when : step s (lexeme.Word word.If) ≡ m.at_statement h (lexeme.Word word.If)
  pub repeat : step s (lexeme.Word word.While) ≡ m.at_statement h (lexeme.Word word.While)
  pub print : step s (lexeme.Word word.Print) ≡ m.at_statement h (lexeme.Word word.Print)
  pub give : step s (lexeme.Word word.Return) ≡ m.at_statement h (lexeme.Word word.Return)
  pub assign : (x : List ℕ) → step s (lexeme.Name x) ≡ m.at_statement h (lexeme.Name x)
  pub perform : (c : CallName) → step s (lexeme.Call c) ≡ m.at_statement h (lexeme.Call c)
  pub end : step s lexeme.CloseBrace ≡ m.at_statement h lexeme.CloseBrace

pub at_place : (h : Position) → Stands (m.AtStatement h) h
at_place h = record {
  bind = refl;
  when = refl;
  repeat = refl;
  print = refl;
  give = refl;
  assign = λ _. refl;
  perform = λ _. refl;
  end = refl;
}

pub after_choice : (h : Position) (e : Expression) (ss : Statements) → Stands (m.MayElse h e ss) (m.with_statement h (tree.If e ss nothing))
after_choice h e ss = record {
  bind = refl;
  when = refl;
  repeat = refl;
  print = refl;
  give = refl;
  assign = λ _. refl;
  perform = λ _. refl;
  end = refl;
}

-- a statement is read to a place that has it
pub record Done (s : State) (h : Position) (ts rest : List Lexeme) (one : Statement) : Type 0 where
  pub after : State
  pub stands : Stands after (m.with_statement h one)
  pub reading : reads (Some s) ts ≡ reads (Some after) rest

-- the place at which a block begins
abbrev pub within : Position → m.BlockKind → Position
within h k = record {
  functions = h.functions;
  name = h.name;
  enclosing = record { statements = h.statements; kind = k } ∷ h.enclosing;
  statements = nothing;
}

mutual
  pub one_statement : (ts rest : List Lexeme) (one : Statement) → IsStatement ts rest one → (s : State) (h : Position)
      → Stands s h → Done s h ts rest one
  one_statement _ _ _ (g.bind x ts rest e d) s h w = record {
    after = m.AtStatement (m.with_statement h (tree.Let x e));
    stands = at_place _;
    reading = ap (λ o. reads o (lexeme.Name x ∷ lexeme.Equals ∷ ts)) w.bind
        ∙ whole_expression h (m.ToLet x) ts rest e lexeme.Semicolon refl d;
  }
  one_statement _ _ _ (g.assign x ts rest e d) s h w = record {
    after = m.AtStatement (m.with_statement h (tree.Assign x e));
    stands = at_place _;
    reading = ap (λ o. reads o (lexeme.Equals ∷ ts)) (w.assign x)
        ∙ whole_expression h (m.ToAssign x) ts rest e lexeme.Semicolon refl d;
  }
  one_statement _ _ _ (g.when ts mid rest e body d b) s h w = record {
    after = m.MayElse h e body;
    stands = after_choice h e body;
    reading = ap (λ o. reads o ts) w.when ∙ whole_expression h m.ToTest ts mid e lexeme.OpenBrace refl d
        ∙ all_statements mid _ body b _ refl (m.block_start h (m.IfBody e)) (within h (m.IfBody e)) (at_place _);
  }
  one_statement _ _ _ (g.choice ts mid other rest e first second d b c) s h w = record {
    after = m.AtStatement (m.with_statement h (tree.If e first second));
    stands = at_place _;
    reading = ap (λ o. reads o ts) w.when ∙ whole_expression h m.ToTest ts mid e lexeme.OpenBrace refl d
        ∙ all_statements mid _ first b _ refl (m.block_start h (m.IfBody e)) (within h (m.IfBody e)) (at_place _)
        ∙ all_statements other _ second c _ refl (m.block_start h (m.ElseBody e first)) (within h (m.ElseBody e first)) (at_place _);
  }
  one_statement _ _ _ (g.repeat ts mid rest e body d b) s h w = record {
    after = m.AtStatement (m.with_statement h (tree.While e body));
    stands = at_place _;
    reading = ap (λ o. reads o ts) w.repeat ∙ whole_expression h m.ToRepeat ts mid e lexeme.OpenBrace refl d
        ∙ all_statements mid _ body b _ refl (m.block_start h (m.WhileBody e)) (within h (m.WhileBody e)) (at_place _);
  }
  one_statement _ _ _ (g.print ts rest e d) s h w = record {
    after = m.AtStatement (m.with_statement h (tree.Print e));
    stands = at_place _;
    reading = ap (λ o. reads o ts) w.print ∙ whole_expression h m.ToPrint ts rest e lexeme.Semicolon refl d;
  }
  one_statement _ _ _ (g.give ts rest e d) s h w = record {
    after = m.AtStatement (m.with_statement h (tree.Return e));
    stands = at_place _;
    reading = ap (λ o. reads o ts) w.give ∙ whole_expression h m.ToReturn ts rest e lexeme.Semicolon refl d;
  }
  one_statement _ _ _ (g.perform c ts rest args d) s h w = record {
    after = m.AtStatement (m.with_statement h (tree.Do c args));
    stands = at_place _;
    reading = ap (λ o. reads o (lexeme.OpenRound ∷ ts)) (w.perform c)
        ∙ arguments (shape c) ts (lexeme.Semicolon ∷ rest) args d h AsStatement c empty;
  }

  pub all_statements : (ts end : List Lexeme) (ss : Statements) → AreStatements ts end ss → (rest : List Lexeme)
      → end ≡ lexeme.CloseBrace ∷ rest → (s : State) (h : Position) → Stands s h
      → reads (Some s) ts ≡ reads (Some (ends (filled h ss))) rest
  all_statements _ _ _ (g.none end) rest is s h w =
      ap (reads (Some s)) is ∙ ap (λ o. reads o rest) w.end
      ∙ ap (λ (ss : Statements). reads (Some (m.at_block_end h.functions h.name h.enclosing ss)) rest) (sym (followed_none h.statements))
  all_statements _ _ _ (g.more ts mid end s1 ss one others) rest is s h w =
      let r = one_statement ts mid s1 one s h w in
      r.reading ∙ all_statements mid end ss others rest is r.after (m.with_statement h s1) r.stands
      ∙ ap (λ (all : Statements). reads (Some (m.at_block_end h.functions h.name h.enclosing all)) rest) (followed_more h.statements s1 ss)

functions : (ts : List Lexeme) (fs : List FunctionTree) → IsProgram ts fs → (before : List FunctionTree)
    → reads (Some (Functions before)) ts ≡ Some (Functions (before ++ fs))
functions _ _ g.over before = ap (λ (l : List FunctionTree). Some (Functions l)) (sym (append-nil before))
functions _ _ (g.function x ts rest body fs b others) before =
    let here : Position = record { functions = before; name = x; enclosing = []; statements = nothing } in
    all_statements ts (lexeme.CloseBrace ∷ rest) body b rest refl (m.AtStatement here) here (at_place here)
    ∙ functions rest fs others (before ++ record { name = x; body = body } ∷ [])
    ∙ ap (λ (l : List FunctionTree). Some (Functions l)) (append_assoc before (record { name = x; body = body } ∷ []) fs)

pub reads_program : (ts : List Lexeme) (fs : List FunctionTree) → IsProgram ts fs → reads start ts ≡ Some (Functions fs)
reads_program ts fs d = functions ts fs d []
