-- The grammar. Each relation leads from the tokens at a place to the tokens after what stands
-- there.
use Rattle.std.specs.Prelude.{◌+◌, ◌≤◌, ℕ, List, [], ◌∷◌, ◌++◌}
use Rattle.ocr_program_tree.specs.declared.tree.UnaryOp.{UnaryOp}
use Rattle.ocr_program_tree.specs.declared.tree.UnaryOp.TheVariants as unary
use Rattle.ocr_program_tree.specs.declared.tree.BinaryOp.{BinaryOp}
use Rattle.ocr_program_tree.specs.declared.tree.BinaryOp.TheVariants as binary
use Rattle.ocr_program_tree.specs.declared.tree.Constant as of_constant
use Rattle.ocr_program_tree.specs.declared.tree.CallName.{CallName}
use Rattle.ocr_program_tree.specs.Tree as tree
use Rattle.ocr_program_tree.specs.Tree.{Expression, Arguments, empty, value, list, named, Statement, Statements, nothing, statement, FunctionTree}
pub use Rattle.ocr_program_grammar.specs.declared.levels.TheConstants.{UNARY_LEVEL}
use Rattle.ocr_program_grammar.specs.declared.lexeme.Lexeme.{Lexeme}
use Rattle.ocr_program_grammar.specs.declared.lexeme.Lexeme.TheVariants.{Call, CloseBrace, CloseRound, CloseSquare, Comma, Constant, Equals, Invert, Name, Not, Number, OpenBrace, OpenRound, OpenSquare, Operator, Semicolon, Word}
use Rattle.ocr_program_grammar.specs.declared.lexeme.Word.TheVariants.{Code, Depc, Depv, Else, Fn, If, Let, Paramc, Paramv, Print, Return, While}
use Rattle.ocr_program_grammar.specs.declared.argument_kind.ArgumentKind.{ArgumentKind}
use Rattle.ocr_program_grammar.specs.declared.argument_kind.ArgumentKind.TheVariants.{Value, Values, NameOfFunction, FlagsAndOutput}
use Rattle.ocr_program_grammar.specs.Shape.{shape}
pub use Rattle.ocr_program_grammar.specs.Texts.{level}

abbrev pub lexeme_of_sign : UnaryOp → Lexeme
lexeme_of_sign unary.Not = Not
lexeme_of_sign unary.Invert = Invert
lexeme_of_sign unary.Minus = Operator binary.Sub

mutual
  -- an expression of this level or a higher one
  pub data IsExpression : ℕ → List Lexeme → List Lexeme → Expression → Type 0 where
    number : (l n : ℕ) (rest : List Lexeme) → IsExpression l (Number n ∷ rest) rest (tree.Number n)
    constant : (l : ℕ) (c : of_constant.Constant) (rest : List Lexeme)
        → IsExpression l (Constant c ∷ rest) rest (tree.Named c)
    variable : (l : ℕ) (x : List ℕ) (rest : List Lexeme)
        → IsExpression l (Name x ∷ rest) rest (tree.Var x)
    paramc : (l : ℕ) (rest : List Lexeme) → IsExpression l (Word Paramc ∷ rest) rest tree.Paramc
    depc : (l : ℕ) (rest : List Lexeme) → IsExpression l (Word Depc ∷ rest) rest tree.Depc
    code : (l : ℕ) (rest : List Lexeme) → IsExpression l (Word Code ∷ rest) rest tree.LastCode
    paramv : (l : ℕ) (ts rest : List Lexeme) (e : Expression)
        → IsExpression 0 ts (CloseSquare ∷ rest) e
        → IsExpression l (Word Paramv ∷ OpenSquare ∷ ts) rest (tree.Paramv e)
    depv : (l : ℕ) (ts rest : List Lexeme) (e : Expression)
        → IsExpression 0 ts (CloseSquare ∷ rest) e
        → IsExpression l (Word Depv ∷ OpenSquare ∷ ts) rest (tree.Depv e)
    signed : (l : ℕ) (op : UnaryOp) (ts rest : List Lexeme) (e : Expression)
        → IsExpression UNARY_LEVEL ts rest e
        → IsExpression l (lexeme_of_sign op ∷ ts) rest (tree.Unary op e)
    -- the right operand is of a higher level: operators of one level lean to the left
    joined : (l : ℕ) (op : BinaryOp) (ts mid rest : List Lexeme) (a b : Expression) → l ≤ level op
        → IsExpression (level op) ts (Operator op ∷ mid) a → IsExpression (level op + 1) mid rest b
        → IsExpression l ts rest (tree.Binary op a b)
    parentheses : (l : ℕ) (ts rest : List Lexeme) (e : Expression)
        → IsExpression 0 ts (CloseRound ∷ rest) e → IsExpression l (OpenRound ∷ ts) rest e
    invoked : (l : ℕ) (c : CallName) (ts rest : List Lexeme) (args : Arguments)
        → AreArguments (shape c) ts rest args
        → IsExpression l (Call c ∷ OpenRound ∷ ts) rest (tree.Invoked c args)

  -- the arguments of these slots, and the closing bracket
  pub data AreArguments : List ArgumentKind → List Lexeme → List Lexeme → Arguments → Type 0 where
    no_more : (rest : List Lexeme) → AreArguments [] (CloseRound ∷ rest) rest empty
    one_value : (ss : List ArgumentKind) (ts mid rest : List Lexeme) (e : Expression) (t : Lexeme)
        (args : Arguments) → IsExpression 0 ts (t ∷ mid) e → Follows ss t mid rest args
        → AreArguments (Value ∷ ss) ts rest (value e args)
    flags : (ss : List ArgumentKind) (ts rest : List Lexeme) (e : Expression)
        → IsExpression 0 ts (CloseRound ∷ rest) e
        → AreArguments (FlagsAndOutput ∷ ss) ts rest (value e empty)
    output : (ss : List ArgumentKind) (ts rest : List Lexeme) (e : Expression) (x : List ℕ)
        → IsExpression 0 ts (Comma ∷ Operator binary.And ∷ Name x ∷ CloseRound ∷ rest) e
        → AreArguments (FlagsAndOutput ∷ ss) ts rest (value e (named x empty))
    one_name : (ss : List ArgumentKind) (x : List ℕ) (t : Lexeme) (mid rest : List Lexeme)
        (args : Arguments) → Follows ss t mid rest args
        → AreArguments (NameOfFunction ∷ ss) (Name x ∷ t ∷ mid) rest (named x args)
    no_values : (ss : List ArgumentKind) (t : Lexeme) (mid rest : List Lexeme) (args : Arguments)
        → Follows ss t mid rest args
        → AreArguments (Values ∷ ss) (OpenSquare ∷ CloseSquare ∷ t ∷ mid) rest (list empty args)
    some_values : (ss : List ArgumentKind) (t : Lexeme) (ts mid rest : List Lexeme)
        (es args : Arguments) → AreMembers ts (t ∷ mid) es → Follows ss t mid rest args
        → AreArguments (Values ∷ ss) (OpenSquare ∷ ts) rest (list es args)

  -- what follows an argument, from its first token on
  pub data Follows : List ArgumentKind → Lexeme → List Lexeme → List Lexeme → Arguments
      → Type 0 where
    closes : (rest : List Lexeme) → Follows [] CloseRound rest rest empty
    goes : (s : ArgumentKind) (ss : List ArgumentKind) (ts rest : List Lexeme) (args : Arguments)
        → AreArguments (s ∷ ss) ts rest args → Follows (s ∷ ss) Comma ts rest args

  -- the members of a list that is not empty, and the closing bracket
  pub data AreMembers : List Lexeme → List Lexeme → Arguments → Type 0 where
    last : (ts rest : List Lexeme) (e : Expression) → IsExpression 0 ts (CloseSquare ∷ rest) e
        → AreMembers ts rest (value e empty)
    member : (ts mid rest : List Lexeme) (e : Expression) (es : Arguments)
        → IsExpression 0 ts (Comma ∷ mid) e → AreMembers mid rest es
        → AreMembers ts rest (value e es)

mutual
  pub data IsStatement : List Lexeme → List Lexeme → Statement → Type 0 where
    bind : (x : List ℕ) (ts rest : List Lexeme) (e : Expression)
        → IsExpression 0 ts (Semicolon ∷ rest) e
        → IsStatement (Word Let ∷ Name x ∷ Equals ∷ ts) rest (tree.Let x e)
    assign : (x : List ℕ) (ts rest : List Lexeme) (e : Expression)
        → IsExpression 0 ts (Semicolon ∷ rest) e
        → IsStatement (Name x ∷ Equals ∷ ts) rest (tree.Assign x e)
    when : (ts mid rest : List Lexeme) (e : Expression) (first : Statements)
        → IsExpression 0 ts (OpenBrace ∷ mid) e → AreStatements mid (CloseBrace ∷ rest) first
        → IsStatement (Word If ∷ ts) rest (tree.If e first nothing)
    -- an empty second block leaves the tree of none
    choice : (ts mid other rest : List Lexeme) (e : Expression) (first second : Statements)
        → IsExpression 0 ts (OpenBrace ∷ mid) e
        → AreStatements mid (CloseBrace ∷ Word Else ∷ OpenBrace ∷ other) first
        → AreStatements other (CloseBrace ∷ rest) second
        → IsStatement (Word If ∷ ts) rest (tree.If e first second)
    repeat : (ts mid rest : List Lexeme) (e : Expression) (body : Statements)
        → IsExpression 0 ts (OpenBrace ∷ mid) e → AreStatements mid (CloseBrace ∷ rest) body
        → IsStatement (Word While ∷ ts) rest (tree.While e body)
    print : (ts rest : List Lexeme) (e : Expression) → IsExpression 0 ts (Semicolon ∷ rest) e
        → IsStatement (Word Print ∷ ts) rest (tree.Print e)
    give : (ts rest : List Lexeme) (e : Expression) → IsExpression 0 ts (Semicolon ∷ rest) e
        → IsStatement (Word Return ∷ ts) rest (tree.Return e)
    perform : (c : CallName) (ts rest : List Lexeme) (args : Arguments)
        → AreArguments (shape c) ts (Semicolon ∷ rest) args
        → IsStatement (Call c ∷ OpenRound ∷ ts) rest (tree.Do c args)

  pub data AreStatements : List Lexeme → List Lexeme → Statements → Type 0 where
    none : (rest : List Lexeme) → AreStatements rest rest nothing
    more : (ts mid rest : List Lexeme) (s : Statement) (ss : Statements) → IsStatement ts mid s
        → AreStatements mid rest ss → AreStatements ts rest (statement s ss)

pub data IsProgram : List Lexeme → List FunctionTree → Type 0 where
  over : IsProgram [] []
  function : (x : List ℕ) (ts rest : List Lexeme) (body : Statements) (others : List FunctionTree)
      → AreStatements ts (CloseBrace ∷ rest) body → IsProgram rest others
      → IsProgram (Word Fn ∷ Name x ∷ OpenBrace ∷ ts) (record { name = x; body = body } ∷ others)

-- some program begins with these tokens
pub record GoesOn (front : List Lexeme) : Type 0 where
  pub rest : List Lexeme
  pub program : List FunctionTree
  pub whole : IsProgram (front ++ rest) program
