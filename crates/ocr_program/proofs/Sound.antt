-- What is read to a program has that tree.
use Rattle.std.proofs.Common.{◌≡◌, ◌+◌, ◌≤◌, ℕ, List, [], ◌∷◌, ◌++◌, Option, Some, None, true≢false, inl, inr, refl, sym, ap, ◌∙◌, subst, arith, append_assoc, append-nil}
use Rattle.std.proofs.lemmas.Bool.{leb-true, cond_both}
use Rattle.std.proofs.lemmas.Bool.Decides.{leb_tells}
use Rattle.std.specs.Prelude.{nat_le}
use Rattle.ocr_program_tree.specs.declared.tree.BinaryOp.{BinaryOp}
use Rattle.ocr_program_tree.specs.declared.tree.BinaryOp.TheVariants as binary
use Rattle.ocr_program_tree.specs.declared.tree.CallName.{CallName}
use Rattle.ocr_program_tree.specs.Tree as tree
use Rattle.ocr_program_tree.specs.Tree.{Expression, Arguments, empty, value, list, named, Statement, Statements, nothing, FunctionTree}
use Rattle.ocr_program_grammar.specs.declared.lexeme.Lexeme.{Lexeme}
use Rattle.ocr_program_grammar.specs.declared.lexeme.Lexeme.TheVariants as lexeme
use Rattle.ocr_program_grammar.specs.declared.lexeme.Word.TheVariants as word
use Rattle.ocr_program_grammar.specs.declared.argument_kind.ArgumentKind.{ArgumentKind}
use Rattle.ocr_program_grammar.specs.declared.argument_kind.ArgumentKind.TheVariants.{Value, Values, NameOfFunction, FlagsAndOutput}
use Rattle.ocr_program_grammar.specs.Shape.{shape}
use Rattle.ocr_program_grammar.specs.Grammar as g
use Rattle.ocr_program_grammar.specs.Grammar.{level, lexeme_of_sign, IsExpression, AreArguments, Follows, AreMembers, IsStatement, AreStatements, IsProgram}
use Rattle.ocr_program_parser.specs.Joined.{with, ended_by}
use Rattle.ocr_program_parser.specs.Machine as m
use Rattle.ocr_program_parser.specs.Machine.{State, Position, Purpose, Indexed, Stack, Bottom, CallSite, InExpression, AsStatement, Left, Prefix, Round, Index, Argument, Member, FlagsArgument, Operand, AfterOperand, Held, fold_of, reads, step, operator, at_operand_end, after, at_right_operand, start, Functions}
use Rattle.ocr_program_parser.proofs.Joined.{with_none, with_more}
use Rattle.ocr_program.proofs.Complete.{floor, level_low}

-- the arguments so far, where those of the slots left stand next
abbrev Before : CallName → Arguments → List ArgumentKind → List Lexeme → List Lexeme → Type 0
Before c done ss t0 ts =
    (rest : List Lexeme) (args : Arguments) → AreArguments ss ts rest args → AreArguments (shape c) t0 rest (with done args)

-- the same after an argument
abbrev After : CallName → Arguments → List ArgumentKind → List Lexeme → List Lexeme → Type 0
After c done ss t0 ts =
    (t : Lexeme) (mid rest : List Lexeme) (args : Arguments) → ts ≡ t ∷ mid → Follows ss t mid rest args
    → AreArguments (shape c) t0 rest (with done args)

abbrev Ending : CallName → Arguments → List Lexeme → List Lexeme → Type 0
Ending c done t0 ts = (rest : List Lexeme) → ts ≡ lexeme.CloseRound ∷ rest → AreArguments (shape c) t0 rest done

abbrev Naming : CallName → Arguments → List Lexeme → List Lexeme → Type 0
Naming c done t0 ts =
    (x : List ℕ) (rest : List Lexeme) → ts ≡ lexeme.Name x ∷ lexeme.CloseRound ∷ rest
    → AreArguments (shape c) t0 rest (with done (named x empty))

abbrev Joining : CallName → Arguments → Arguments → List ArgumentKind → List Lexeme → List Lexeme → Type 0
Joining c done es ss t0 ts =
    (mid : List Lexeme) (others : Arguments) → AreMembers ts mid others
    → After c (with done (list (with es others) empty)) ss t0 mid

-- functions stand before these tokens
abbrev Programs : List FunctionTree → List Lexeme → List Lexeme → Type 0
Programs fs all ts = (others : List FunctionTree) → IsProgram ts others → IsProgram all (fs ++ others)

-- what a block begins with
abbrev Opened : m.BlockKind → List Lexeme → List Lexeme → Type 0
Opened (m.WhileBody e) t1 ts =
    (from : List Lexeme) × ((t1 ≡ lexeme.Word word.While ∷ from) × IsExpression 0 from (lexeme.OpenBrace ∷ ts) e)
Opened (m.IfBody e) t1 ts =
    (from : List Lexeme) × ((t1 ≡ lexeme.Word word.If ∷ from) × IsExpression 0 from (lexeme.OpenBrace ∷ ts) e)
Opened (m.ElseBody e first) t1 ts =
    (from : List Lexeme) × ((mid : List Lexeme) × ((t1 ≡ lexeme.Word word.If ∷ from) × IsExpression 0 from (lexeme.OpenBrace ∷ mid) e × AreStatements mid (lexeme.CloseBrace ∷ lexeme.Word word.Else ∷ lexeme.OpenBrace ∷ ts) first))

-- the block at hand begins at these tokens
abbrev Encloses : List FunctionTree → List ℕ → List m.OpenBlock → List Lexeme → List Lexeme → Type 0
Encloses fs x [] all ts = Programs fs all (lexeme.Word word.Fn ∷ lexeme.Name x ∷ lexeme.OpenBrace ∷ ts)
Encloses fs x (o ∷ outer) all ts =
    (t0 : List Lexeme) × ((t1 : List Lexeme) × (Encloses fs x outer all t0 × AreStatements t0 t1 o.statements × Opened o.kind t1 ts))

abbrev At : Position → List Lexeme → List Lexeme → Type 0
At h all ts = (t0 : List Lexeme) × (Encloses h.functions h.name h.enclosing all t0 × AreStatements t0 ts h.statements)

abbrev begun : Purpose → List Lexeme → List Lexeme
begun (m.ToLet x) from = lexeme.Word word.Let ∷ lexeme.Name x ∷ lexeme.Equals ∷ from
begun (m.ToAssign x) from = lexeme.Name x ∷ lexeme.Equals ∷ from
begun m.ToTest from = lexeme.Word word.If ∷ from
begun m.ToRepeat from = lexeme.Word word.While ∷ from
begun m.ToPrint from = lexeme.Word word.Print ∷ from
begun m.ToReturn from = lexeme.Word word.Return ∷ from

abbrev indexing : Indexed → Lexeme
indexing m.OfParameters = lexeme.Word word.Paramv
indexing m.OfDependences = lexeme.Word word.Depv

-- up to these tokens stands what waits for an operand
abbrev mutual
  Waits : Position → List Lexeme → Stack → List Lexeme → Type 0
  Waits h all (Bottom p) ts = At h all (begun p ts)
  Waits h all (Left a op k) ts =
      (t0 : List Lexeme) × (Waits h all k t0 × (floor k ≤ level op) × IsExpression (level op) t0 (lexeme.Operator op ∷ ts) a)
  Waits h all (Prefix op k) ts = Waits h all k (lexeme_of_sign op ∷ ts)
  Waits h all (Round k) ts = Waits h all k (lexeme.OpenRound ∷ ts)
  Waits h all (Index i k) ts = Waits h all k (indexing i ∷ lexeme.OpenSquare ∷ ts)
  Waits h all (Argument c done ss a) ts =
      (t0 : List Lexeme) × (Stands h all a (lexeme.Call c ∷ lexeme.OpenRound ∷ t0) × Before c done (Value ∷ ss) t0 ts)
  Waits h all (Member c done es ss a) ts =
      (t0 : List Lexeme) × (Stands h all a (lexeme.Call c ∷ lexeme.OpenRound ∷ t0) × Joining c done es ss t0 ts)
  Waits h all (FlagsArgument c done a) ts =
      (t0 : List Lexeme) × ((ss : List ArgumentKind) × (Stands h all a (lexeme.Call c ∷ lexeme.OpenRound ∷ t0) × Before c done (FlagsAndOutput ∷ ss) t0 ts))

  Stands : Position → List Lexeme → CallSite → List Lexeme → Type 0
  Stands h all (InExpression k) ts = Waits h all k ts
  Stands h all AsStatement ts = At h all ts

-- an expression of these tokens, of each level up to this one
abbrev UpTo : ℕ → List Lexeme → List Lexeme → Expression → Type 0
UpTo b t0 ts e = (n : ℕ) → n ≤ b → IsExpression n t0 ts e

abbrev Holds : ℕ → Position → List Lexeme → Stack → List Lexeme → Expression → Type 0
Holds b h all k ts e = (t0 : List Lexeme) × (Waits h all k t0 × UpTo b t0 ts e)

abbrev HoldsLow : ℕ → Position → List Lexeme → List Lexeme → Held → Type 0
HoldsLow l h all ts held = Holds l h all held.pending ts held.value × (floor held.pending ≤ l)

floor_high : (k : Stack) → floor k ≤ 8
floor_high (Bottom p) = omega arith
floor_high (Left a op k) = omega (arith, level_low op)
floor_high (Prefix op k) = omega arith
floor_high (Round k) = omega arith
floor_high (Index i k) = omega arith
floor_high (Argument c done ss k) = omega arith
floor_high (Member c done es ss k) = omega arith
floor_high (FlagsArgument c done k) = omega arith

lower : (b l : ℕ) (h : Position) (all : List Lexeme) (k : Stack) (ts : List Lexeme) (e : Expression) → l ≤ b
    → Holds b h all k ts e → Holds l h all k ts e
lower b l h all k ts e small w = (w.0, (w.1.0, λ n low. w.1.1 n (omega arith)))

fold : (l b : ℕ) (h : Position) (all : List Lexeme) (k : Stack) (ts : List Lexeme) (e : Expression) → l ≤ b → floor k ≤ b
    → Holds b h all k ts e → HoldsLow l h all ts (fold_of l k e)
fold l b h all (Bottom p) ts e small high w = (lower b l h all (Bottom p) ts e small w, omega arith)
fold l b h all (Left a op k) ts e small high w = cond_both (nat_le l (level op)) _ _ (HoldsLow l h all ts)
    (λ yes1. fold l (level op) h all k ts (tree.Binary op a e) (leb-true l (level op) yes1) w.1.0.1.1
    (w.1.0.0, (w.1.0.1.0, λ n low. g.joined n op w.1.0.0 w.0 ts a e low w.1.0.1.2 (w.1.1 (level op + 1) high))))
    (λ low. (lower b l h all (Left a op k) ts e small w, elim (leb_tells l (level op)) as (λ _. level op + 1 ≤ l) [ inl p ↦ absurd (true≢false (sym p.0 ∙ low)) | inr p ↦ omega (arith, p.1) ]))
fold l b h all (Prefix op k) ts e small high w =
    fold l b h all k ts (tree.Unary op e) small (omega (arith, floor_high k)) (lexeme_of_sign op ∷ w.0, (w.1.0, λ n low. g.signed n op w.0 ts e (w.1.1 8 high)))
fold l b h all (Round k) ts e small high w = (lower b l h all (Round k) ts e small w, omega arith)
fold l b h all (Index i k) ts e small high w = (lower b l h all (Index i k) ts e small w, omega arith)
fold l b h all (Argument c done ss k) ts e small high w = (lower b l h all (Argument c done ss k) ts e small w, omega arith)
fold l b h all (Member c done es ss k) ts e small high w = (lower b l h all (Member c done es ss k) ts e small w, omega arith)
fold l b h all (FlagsArgument c done k) ts e small high w = (lower b l h all (FlagsArgument c done k) ts e small w, omega arith)

-- in a call whose arguments begin here
abbrev Calls : Position → CallSite → CallName → List Lexeme → (List Lexeme → Type 0) → Type 0
Calls h k c all P = (t0 : List Lexeme) × (Stands h all k (lexeme.Call c ∷ lexeme.OpenRound ∷ t0) × P t0)

abbrev Chooses : Position → Expression → Statements → List Lexeme → List Lexeme → Type 0
Chooses h e first all ts =
    (from : List Lexeme) × ((mid : List Lexeme) × (At h all (lexeme.Word word.If ∷ from) × IsExpression 0 from (lexeme.OpenBrace ∷ mid) e × AreStatements mid (lexeme.CloseBrace ∷ ts) first))

-- From the whole text, with these tokens left, the state says what was read.
abbrev Reached : State → List Lexeme → List Lexeme → Type 0
Reached (m.Functions fs) all ts = Programs fs all ts
Reached (m.FunctionName fs) all ts = Programs fs all (lexeme.Word word.Fn ∷ ts)
Reached (m.FunctionOpen fs x) all ts = Programs fs all (lexeme.Word word.Fn ∷ lexeme.Name x ∷ ts)
Reached (m.AtStatement h) all ts = At h all ts
Reached (m.LetName h) all ts = At h all (lexeme.Word word.Let ∷ ts)
Reached (m.LetEquals h x) all ts = At h all (lexeme.Word word.Let ∷ lexeme.Name x ∷ ts)
Reached (m.AssignEquals h x) all ts = At h all (lexeme.Name x ∷ ts)
Reached (m.AfterCall h c args) all ts =
    (t0 : List Lexeme) × (At h all (lexeme.Call c ∷ lexeme.OpenRound ∷ t0) × AreArguments (shape c) t0 ts args)
Reached (m.MayElse h e first) all ts = Chooses h e first all ts
Reached (m.ElseOpen h e first) all ts = Chooses h e first all (lexeme.Word word.Else ∷ ts)
Reached (m.Operand h k) all ts = Waits h all k ts
Reached (m.IndexOpen h i k) all ts = Waits h all k (indexing i ∷ ts)
Reached (m.CallOpen h c k) all ts = Stands h all k (lexeme.Call c ∷ ts)
Reached (m.CallEnd h c done k) all ts = Calls h k c all (λ t0. Ending c done t0 ts)
Reached (m.ListOpen h c done ss k) all ts = Calls h k c all (λ t0. Before c done (Values ∷ ss) t0 ts)
Reached (m.ListStart h c done ss k) all ts =
    Calls h k c all (λ t0. Before c done (Values ∷ ss) t0 (lexeme.OpenSquare ∷ ts))
Reached (m.NameAt h c done ss k) all ts = Calls h k c all (λ t0. Before c done (NameOfFunction ∷ ss) t0 ts)
Reached (m.AfterArgument h c done ss k) all ts = Calls h k c all (λ t0. After c done ss t0 ts)
Reached (m.OutputAnd h c done k) all ts =
    Calls h k c all (λ t0. (x : List ℕ) (rest : List Lexeme) → ts ≡ lexeme.Operator binary.And ∷ lexeme.Name x ∷ lexeme.CloseRound ∷ rest → AreArguments (shape c) t0 rest (with done (named x empty)))
Reached (m.OutputName h c done k) all ts = Calls h k c all (λ t0. Naming c done t0 ts)
Reached (m.AfterOperand h k e) all ts = Holds 8 h all k ts e

abbrev Reaches : Option State → List Lexeme → List Lexeme → Type 0
Reaches None all ts = Unit {0}
Reaches (Some s) all ts = Reached s all ts

more_statements : (a b c : List Lexeme) (ss : Statements) (s : Statement) → AreStatements a b ss → IsStatement b c s
    → AreStatements a c (ended_by ss s)
more_statements _ _ c _ s (g.none b) now = g.more b c c s nothing now (g.none c)
more_statements _ _ c _ s (g.more a mid b first others one d) now =
    g.more a mid c first (ended_by others s) one (more_statements mid b c others s d now)

one_more : (h : Position) (all ts rest : List Lexeme) (s : Statement) → At h all ts → IsStatement ts rest s
    → At (m.with_statement h s) all rest
one_more h all ts rest s w now = (w.0, (w.1.0, more_statements w.0 ts rest h.statements s w.1.1 now))

operand_reached : (h : Position) (k : Stack) (t : Lexeme) (all ts : List Lexeme) → Waits h all k (t ∷ ts)
    → Reaches (m.operand h k t) all ts
operand_reached h k (lexeme.Number n) all ts w = (_, (w, λ l _. g.number l n ts))
operand_reached h k (lexeme.Constant c) all ts w = (_, (w, λ l _. g.constant l c ts))
operand_reached h k (lexeme.Name x) all ts w = (_, (w, λ l _. g.variable l x ts))
operand_reached h k (lexeme.Word word.Paramc) all ts w = (_, (w, λ l _. g.paramc l ts))
operand_reached h k (lexeme.Word word.Depc) all ts w = (_, (w, λ l _. g.depc l ts))
operand_reached h k (lexeme.Word word.Code) all ts w = (_, (w, λ l _. g.code l ts))
operand_reached h k (lexeme.Word word.Paramv) all ts w = w
operand_reached h k (lexeme.Word word.Depv) all ts w = w
operand_reached h k lexeme.Not all ts w = w
operand_reached h k lexeme.Invert all ts w = w
operand_reached h k (lexeme.Operator binary.Sub) all ts w = w
operand_reached h k lexeme.OpenRound all ts w = w
operand_reached h k (lexeme.Call c) all ts w = w
operand_reached h k other all ts w = tt

whole_reached : (h : Position) (p : Purpose) (e : Expression) (t : Lexeme) (all from ts : List Lexeme)
    → At h all (begun p from) → IsExpression 0 from (t ∷ ts) e → Reaches (m.at_expression_end h p e t) all ts
whole_reached h (m.ToLet x) e lexeme.Semicolon all from ts a d = one_more h all _ ts (tree.Let x e) a (g.bind x from ts e d)
whole_reached h (m.ToAssign x) e lexeme.Semicolon all from ts a d =
    one_more h all _ ts (tree.Assign x e) a (g.assign x from ts e d)
whole_reached h m.ToTest e lexeme.OpenBrace all from ts a d =
    (ts, ((a.0, (_, (a.1.0, a.1.1, (from, (refl, d))))), g.none ts))
whole_reached h m.ToRepeat e lexeme.OpenBrace all from ts a d =
    (ts, ((a.0, (_, (a.1.0, a.1.1, (from, (refl, d))))), g.none ts))
whole_reached h m.ToPrint e lexeme.Semicolon all from ts a d = one_more h all _ ts (tree.Print e) a (g.print from ts e d)
whole_reached h m.ToReturn e lexeme.Semicolon all from ts a d = one_more h all _ ts (tree.Return e) a (g.give from ts e d)
whole_reached h p e t all from ts a d = tt

args_are : {ss : List ArgumentKind} {t0 rest : List Lexeme} {a b : Arguments} → a ≡ b → AreArguments ss t0 rest b
    → AreArguments ss t0 rest a
args_are {ss = ss} {t0 = t0} {rest = rest} is d = subst (λ (l : Arguments). AreArguments ss t0 rest l) (sym is) d

-- a call is whole
called_reached : (h : Position) (k : CallSite) (c : CallName) (args : Arguments) (all t0 ts : List Lexeme)
    → Stands h all k (lexeme.Call c ∷ lexeme.OpenRound ∷ t0) → AreArguments (shape c) t0 ts args
    → Reached (m.after_call h c args k) all ts
called_reached h (InExpression k) c args all t0 ts w d = (_, (w, λ l _. g.invoked l c t0 ts args d))
called_reached h AsStatement c args all t0 ts w d = (t0, (w, d))

argument_reached : (h : Position) (k : CallSite) (c : CallName) (done : Arguments) (ss : List ArgumentKind) (all ts : List Lexeme)
    → Calls h k c all (λ t0. Before c done ss t0 ts) → Reached (m.argument h c done ss k) all ts
argument_reached h k c done [] all ts w =
    (w.0, (w.1.0, λ rest is. args_are (sym (with_none done)) (w.1.1 rest empty (subst (λ (l : List Lexeme). AreArguments [] l rest empty) (sym is) (g.no_more rest)))))
argument_reached h k c done (Value ∷ ss) all ts w = w
argument_reached h k c done (Values ∷ ss) all ts w = w
argument_reached h k c done (NameOfFunction ∷ ss) all ts w = w
argument_reached h k c done (FlagsAndOutput ∷ ss) all ts w = (w.0, (ss, (w.1.0, w.1.1)))

followed_reached : (h : Position) (k : CallSite) (c : CallName) (done : Arguments) (ss : List ArgumentKind) (t : Lexeme)
    (all ts : List Lexeme) → Calls h k c all (λ t0. After c done ss t0 (t ∷ ts)) → Reaches (m.after_argument h c done ss k t) all ts
followed_reached h k c done [] lexeme.CloseRound all ts w =
    called_reached h k c done all w.0 ts w.1.0 (args_are (sym (with_none done)) (w.1.1 lexeme.CloseRound ts ts empty refl (g.closes ts)))
followed_reached h k c done (s ∷ ss) lexeme.Comma all ts w =
    argument_reached h k c done (s ∷ ss) all ts (w.0, (w.1.0, λ rest args d. w.1.1 lexeme.Comma ts rest args refl (g.goes s ss ts rest args d)))
followed_reached h k c done ss t all ts w = tt

list_reached : (h : Position) (k : CallSite) (c : CallName) (done : Arguments) (ss : List ArgumentKind) (t : Lexeme)
    (all ts : List Lexeme) → Calls h k c all (λ t0. Before c done (Values ∷ ss) t0 (lexeme.OpenSquare ∷ t ∷ ts))
    → Reaches (m.list_start h c done ss k t) all ts
list_reached h k c done ss lexeme.CloseSquare all ts w = (
  w.0,
  (
    w.1.0,
    λ t1 mid rest args is f.
        args_are (with_more done (list empty empty) args) (w.1.1 rest (list empty args) (subst (λ (l : List Lexeme). AreArguments (Values ∷ ss) (lexeme.OpenSquare ∷ lexeme.CloseSquare ∷ l) rest (list empty args)) (sym is) (g.no_values ss t1 mid rest args f))),
  ),
)
list_reached h k c done ss other all ts w = operand_reached h (Member c done empty ss k) other all ts (
  w.0,
  (
    w.1.0,
    λ mid others d t1 mid1 rest args is f.
        args_are (with_more done (list others empty) args) (w.1.1 rest (list others args) (g.some_values ss t1 (other ∷ ts) mid1 rest others args (subst (λ (l : List Lexeme). AreMembers (other ∷ ts) l others) is d) f)),
  ),
)

index_reached : (h : Position) (k : Stack) (i : Indexed) (e : Expression) (all t0 ts : List Lexeme)
    → Waits h all k (indexing i ∷ lexeme.OpenSquare ∷ t0) → IsExpression 0 t0 (lexeme.CloseSquare ∷ ts) e
    → Holds 8 h all k ts (m.element_of i e)
index_reached h k m.OfParameters e all t0 ts w d = (_, (w, λ l _. g.paramv l t0 ts e d))
index_reached h k m.OfDependences e all t0 ts w d = (_, (w, λ l _. g.depv l t0 ts e d))

closed_reached : (h : Position) (k : Stack) (e : Expression) (t : Lexeme) (all ts : List Lexeme)
    → Holds 0 h all k (t ∷ ts) e → Reaches (m.at_operand_end h k e t) all ts
closed_reached h (Round k) e lexeme.CloseRound all ts w =
    (_, (w.1.0, λ l _. g.parentheses l w.0 ts e (w.1.1 0 (omega arith))))
closed_reached h (Index i k) e lexeme.CloseSquare all ts w = index_reached h k i e all w.0 ts w.1.0 (w.1.1 0 (omega arith))
closed_reached h (Argument c done ss k) e t all ts w =
    followed_reached h k c (with done (value e empty)) ss t all ts (
      w.1.0.0,
      (
        w.1.0.1.0,
        λ t1 mid rest args is f.
            args_are (with_more done (value e empty) args) (w.1.0.1.1 rest (value e args) (g.one_value ss w.0 mid rest e t1 args (subst (λ (l : List Lexeme). IsExpression 0 w.0 l e) is (w.1.1 0 (omega arith))) f)),
      ),
    )
closed_reached h (Member c done es ss k) e lexeme.Comma all ts w =
    (w.1.0.0, (w.1.0.1.0, λ mid others d. subst (λ (l : Arguments). After c (with done (list l empty)) ss w.1.0.0 mid) (sym (with_more es (value e empty) others)) (w.1.0.1.1 mid (value e others) (g.member w.0 ts mid e others (w.1.1 0 (omega arith)) d))))
closed_reached h (Member c done es ss k) e lexeme.CloseSquare all ts w =
    (w.1.0.0, (w.1.0.1.0, w.1.0.1.1 ts (value e empty) (g.last w.0 ts e (w.1.1 0 (omega arith)))))
closed_reached h (FlagsArgument c done k) e lexeme.CloseRound all ts w =
    called_reached h k c (with done (value e empty)) all w.1.0.0 ts w.1.0.1.1.0 (w.1.0.1.1.1 ts (value e empty) (g.flags w.1.0.1.0 w.0 ts e (w.1.1 0 (omega arith))))
closed_reached h (FlagsArgument c done k) e lexeme.Comma all ts w =
    (w.1.0.0, (w.1.0.1.1.0, λ x rest is. args_are (with_more done (value e empty) (named x empty)) (w.1.0.1.1.1 rest (value e (named x empty)) (g.output w.1.0.1.0 w.0 rest e x (subst (λ (l : List Lexeme). IsExpression 0 w.0 (lexeme.Comma ∷ l) e) is (w.1.1 0 (omega arith)))))))
closed_reached h (Bottom p) e t all ts w = whole_reached h p e t all w.0 ts w.1.0 (w.1.1 0 (omega arith))
closed_reached h other e t all ts w = tt

spelled_some : (a b : BinaryOp) → Some a ≡ Some b → lexeme.Operator a ≡ lexeme.Operator b
spelled_some a b is = let same : a ≡ b = cc in ap lexeme.Operator same

operator_is : (t : Lexeme) (op : BinaryOp) → operator t ≡ Some op → t ≡ lexeme.Operator op
operator_is (lexeme.Operator o) op is = spelled_some o op is
operator_is other op is = cc

after_reached : (h : Position) (k : Stack) (e : Expression) (t : Lexeme) (o : Option BinaryOp) (all ts : List Lexeme)
    → operator t ≡ o → Holds 8 h all k (t ∷ ts) e → Reaches (m.after h k e t o) all ts
after_reached h k e t None all ts is w =
    let f = fold 0 8 h all k (t ∷ ts) e (omega arith) (floor_high k) w in
    closed_reached h (fold_of 0 k e).pending (fold_of 0 k e).value t all ts f.0
after_reached h k e t (Some op) all ts is w =
    let f = fold (level op) 8 h all k (t ∷ ts) e (omega (arith, level_low op)) (floor_high k) w in
    (f.0.0, (f.0.1.0, f.1, subst (λ (t1 : Lexeme). IsExpression (level op) f.0.0 (t1 ∷ ts) (fold_of (level op) k e).value) (operator_is t op is) (f.0.1.1 (level op) (omega arith))))

left_reached : (fs : List FunctionTree) (x : List ℕ) (outer : List m.OpenBlock) (before : Statements) (k : m.BlockKind)
    (body : Statements) (all t0 t1 t2 ts : List Lexeme) → Encloses fs x outer all t0 → AreStatements t0 t1 before
    → Opened k t1 t2 → AreStatements t2 (lexeme.CloseBrace ∷ ts) body → Reached (m.after_block fs x outer before k body) all ts
left_reached fs x outer before (m.WhileBody e) body all t0 t1 t2 ts w b o d =
    (t0, (w, more_statements t0 t1 ts before (tree.While e body) b (subst (λ (l : List Lexeme). IsStatement l ts (tree.While e body)) (sym o.1.0) (g.repeat o.0 t2 ts e body o.1.1 d))))
left_reached fs x outer before (m.IfBody e) body all t0 t1 t2 ts w b o d =
    (o.0, (t2, ((t0, (w, subst (λ (l : List Lexeme). AreStatements t0 l before) o.1.0 b)), o.1.1, d)))
left_reached fs x outer before (m.ElseBody e first) body all t0 t1 t2 ts w b o d =
    (t0, (w, more_statements t0 t1 ts before (tree.If e first body) b (subst (λ (l : List Lexeme). IsStatement l ts (tree.If e first body)) (sym o.1.1.0) (g.choice o.0 o.1.0 t2 ts e first body o.1.1.1 o.1.1.2 d))))

ended_reached : (fs : List FunctionTree) (x : List ℕ) (outer : List m.OpenBlock) (body : Statements) (all t2 ts : List Lexeme)
    → Encloses fs x outer all t2 → AreStatements t2 (lexeme.CloseBrace ∷ ts) body → Reached (m.at_block_end fs x outer body) all ts
ended_reached fs x [] body all t2 ts w d =
    λ others p. subst (λ (l : List FunctionTree). IsProgram all l) (sym (append_assoc fs (record { name = x; body = body } ∷ []) others)) (w _ (g.function x t2 ts body others d p))
ended_reached fs x (o ∷ outer) body all t2 ts w d =
    left_reached fs x outer o.statements o.kind body all w.0 w.1.0 t2 ts w.1.1.0 w.1.1.1 w.1.1.2 d

statement_reached : (h : Position) (t : Lexeme) (all ts : List Lexeme) → At h all (t ∷ ts) → Reaches (m.at_statement h t) all ts
statement_reached h (lexeme.Word word.Let) all ts a = a
statement_reached h (lexeme.Word word.If) all ts a = a
statement_reached h (lexeme.Word word.While) all ts a = a
statement_reached h (lexeme.Word word.Print) all ts a = a
statement_reached h (lexeme.Word word.Return) all ts a = a
statement_reached h (lexeme.Name x) all ts a = a
statement_reached h (lexeme.Call c) all ts a = a
statement_reached h lexeme.CloseBrace all ts a = ended_reached h.functions h.name h.enclosing h.statements all a.0 ts a.1.0 a.1.1
statement_reached h other all ts a = tt

chosen : (h : Position) (e : Expression) (first : Statements) (all ts : List Lexeme) → Chooses h e first all ts
    → At (m.with_statement h (tree.If e first nothing)) all ts
chosen h e first all ts w =
    one_more h all _ ts (tree.If e first nothing) w.1.1.0 (g.when w.0 w.1.0 ts e first w.1.1.1 w.1.1.2)

choice_reached : (h : Position) (e : Expression) (first : Statements) (t : Lexeme) (all ts : List Lexeme)
    → Chooses h e first all (t ∷ ts) → Reaches (m.may_else h e first t) all ts
choice_reached h e first (lexeme.Word word.Else) all ts w = w
choice_reached h e first other all ts w =
    statement_reached (m.with_statement h (tree.If e first nothing)) other all ts (chosen h e first all (other ∷ ts) w)

pub step_reached : (s : State) (t : Lexeme) (all ts : List Lexeme) → Reached s all (t ∷ ts) → Reaches (step s t) all ts
step_reached (m.Functions fs) (lexeme.Word word.Fn) all ts w = w
step_reached (m.FunctionName fs) (lexeme.Name x) all ts w = w
step_reached (m.FunctionOpen fs x) lexeme.OpenBrace all ts w = (ts, (w, g.none ts))
step_reached (m.AtStatement h) t all ts w = statement_reached h t all ts w
step_reached (m.LetName h) (lexeme.Name x) all ts w = w
step_reached (m.LetEquals h x) lexeme.Equals all ts w = w
step_reached (m.AssignEquals h x) lexeme.Equals all ts w = w
step_reached (m.AfterCall h c args) lexeme.Semicolon all ts w =
    one_more h all _ ts (tree.Do c args) w.1.0 (g.perform c w.0 ts args w.1.1)
step_reached (m.MayElse h e first) t all ts w = choice_reached h e first t all ts w
step_reached (m.ElseOpen h e first) lexeme.OpenBrace all ts w =
    (ts, ((w.1.1.0.0, (_, (w.1.1.0.1.0, w.1.1.0.1.1, (w.0, (w.1.0, (refl, w.1.1.1, w.1.1.2)))))), g.none ts))
step_reached (m.Operand h k) t all ts w = operand_reached h k t all ts w
step_reached (m.IndexOpen h i k) lexeme.OpenSquare all ts w = w
step_reached (m.CallOpen h c k) lexeme.OpenRound all ts w =
    argument_reached h k c empty (shape c) all ts (ts, (w, λ rest args d. d))
step_reached (m.CallEnd h c done k) lexeme.CloseRound all ts w =
    called_reached h k c done all w.0 ts w.1.0 (w.1.1 ts refl)
step_reached (m.ListOpen h c done ss k) lexeme.OpenSquare all ts w = w
step_reached (m.ListStart h c done ss k) t all ts w = list_reached h k c done ss t all ts w
step_reached (m.NameAt h c done ss k) (lexeme.Name x) all ts w = (
  w.0,
  (
    w.1.0,
    λ t1 mid rest args is f.
        args_are (with_more done (named x empty) args) (w.1.1 rest (named x args) (subst (λ (l : List Lexeme). AreArguments (NameOfFunction ∷ ss) (lexeme.Name x ∷ l) rest (named x args)) (sym is) (g.one_name ss x t1 mid rest args f))),
  ),
)
step_reached (m.AfterArgument h c done ss k) t all ts w = followed_reached h k c done ss t all ts w
step_reached (m.OutputAnd h c done k) (lexeme.Operator binary.And) all ts w =
    (w.0, (w.1.0, λ x rest is. w.1.1 x rest (ap (λ (l : List Lexeme). lexeme.Operator binary.And ∷ l) is)))
step_reached (m.OutputName h c done k) (lexeme.Name x) all ts w =
    (w.0, (w.1.0, λ rest is. w.1.1 x rest (ap (λ (l : List Lexeme). lexeme.Name x ∷ l) is)))
step_reached (m.AfterOperand h k e) t all ts w = after_reached h k e t (operator t) all ts refl w
step_reached other t all ts w = tt

pub reads_reached : (o : Option State) (all ts : List Lexeme) → Reaches o all ts → Reaches (reads o ts) all []
reads_reached o all [] w = w
reads_reached None all (t ∷ ts) w = reads_reached None all ts tt
reads_reached (Some s) all (t ∷ ts) w = reads_reached (step s t) all ts (step_reached s t all ts w)

-- what is read to functions is a program of them
pub read_is_program : (ts : List Lexeme) (fs : List FunctionTree) → reads start ts ≡ Some (Functions fs) → IsProgram ts fs
read_is_program ts fs is =
    let w : Programs fs ts [] = subst (λ (o : Option State). Reaches o ts []) is (reads_reached start ts ts (λ others p. p)) in
    subst (IsProgram ts) (append-nil fs) (w [] g.over)
