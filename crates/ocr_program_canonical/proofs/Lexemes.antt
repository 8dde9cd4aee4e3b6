-- The lexemes of the canonical text, and how many an expression has. What follows them is the last argument.
use Rattle.std.proofs.Common.{ℕ, ◌+◌, List, [], ◌∷◌, Bool, true, false}
use Rattle.std.specs.Prelude.{nat_lt}
use Rattle.ocr_program_tree.specs.declared.tree.BinaryOp.TheVariants as binary
use Rattle.ocr_program_tree.specs.declared.tree.CallName.{CallName}
use Rattle.ocr_program_tree.specs.Tree.{Expression, Number, Named, Var, Paramc, Depc, LastCode, Paramv, Depv, Unary, Binary, Invoked, Arguments, empty, value, list, named, Statement, Let, Assign, If, While, Print, Return, Do, Statements, nothing, statement, FunctionTree}
use Rattle.ocr_program_grammar.specs.declared.lexeme.Lexeme.{Lexeme}
use Rattle.ocr_program_grammar.specs.declared.lexeme.Lexeme.TheVariants as lexeme
use Rattle.ocr_program_grammar.specs.declared.lexeme.Word.TheVariants as word
use Rattle.ocr_program_grammar.specs.Grammar.{level, lexeme_of_sign}
use Rattle.ocr_program_grammar.specs.declared.levels.TheConstants.{UNARY_LEVEL}
use Rattle.ocr_program_canonical.specs.Canonical.{level_of}

abbrev pub bracketed : Bool → (List Lexeme → List Lexeme) → List Lexeme → List Lexeme
bracketed true inner rest = lexeme.OpenRound ∷ inner (lexeme.CloseRound ∷ rest)
bracketed false inner rest = inner rest

abbrev pub is_lower : Expression → ℕ → Bool
is_lower e least = nat_lt (level_of e) least

abbrev mutual
  pub expression : Expression → List Lexeme → List Lexeme
  expression (Number n) rest = lexeme.Number n ∷ rest
  expression (Named c) rest = lexeme.Constant c ∷ rest
  expression (Var x) rest = lexeme.Name x ∷ rest
  expression Paramc rest = lexeme.Word word.Paramc ∷ rest
  expression Depc rest = lexeme.Word word.Depc ∷ rest
  expression LastCode rest = lexeme.Word word.Code ∷ rest
  expression (Paramv e) rest = lexeme.Word word.Paramv ∷ lexeme.OpenSquare ∷ expression e (lexeme.CloseSquare ∷ rest)
  expression (Depv e) rest = lexeme.Word word.Depv ∷ lexeme.OpenSquare ∷ expression e (lexeme.CloseSquare ∷ rest)
  expression (Unary op e) rest = lexeme_of_sign op ∷ bracketed (is_lower e UNARY_LEVEL) (expression e) rest
  expression (Binary op a b) rest =
      bracketed (is_lower a (level op)) (expression a)
      (lexeme.Operator op ∷ bracketed (is_lower b (level op + 1)) (expression b) rest)
  expression (Invoked c args) rest = lexeme.Call c ∷ lexeme.OpenRound ∷ arguments args (lexeme.CloseRound ∷ rest)

  pub arguments : Arguments → List Lexeme → List Lexeme
  arguments empty rest = rest
  arguments (value e more) rest = expression e (further more rest)
  arguments (list es more) rest = lexeme.OpenSquare ∷ arguments es (lexeme.CloseSquare ∷ further more rest)
  arguments (named x more) rest = lexeme.Name x ∷ further more rest

  pub further : Arguments → List Lexeme → List Lexeme
  further empty rest = rest
  further (value e more) rest = lexeme.Comma ∷ expression e (further more rest)
  further (list es more) rest = lexeme.Comma ∷ lexeme.OpenSquare ∷ arguments es (lexeme.CloseSquare ∷ further more rest)
  further (named x more) rest = lexeme.Comma ∷ lexeme.Operator binary.And ∷ lexeme.Name x ∷ further more rest

abbrev pub call : CallName → Arguments → List Lexeme → List Lexeme
call c args rest = lexeme.Call c ∷ lexeme.OpenRound ∷ arguments args (lexeme.CloseRound ∷ rest)

-- an else block that is empty is left out
abbrev pub else_block : Statements → (List Lexeme → List Lexeme) → List Lexeme → List Lexeme
else_block nothing inner rest = rest
else_block (statement s ss) inner rest = lexeme.Word word.Else ∷ lexeme.OpenBrace ∷ inner (lexeme.CloseBrace ∷ rest)

abbrev mutual
  pub one : Statement → List Lexeme → List Lexeme
  one (Let x e) rest = lexeme.Word word.Let ∷ lexeme.Name x ∷ lexeme.Equals ∷ expression e (lexeme.Semicolon ∷ rest)
  one (Assign x e) rest = lexeme.Name x ∷ lexeme.Equals ∷ expression e (lexeme.Semicolon ∷ rest)
  one (Print e) rest = lexeme.Word word.Print ∷ expression e (lexeme.Semicolon ∷ rest)
  one (Return e) rest = lexeme.Word word.Return ∷ expression e (lexeme.Semicolon ∷ rest)
  one (Do c args) rest = call c args (lexeme.Semicolon ∷ rest)
  one (While e body) rest =
      lexeme.Word word.While ∷ expression e (lexeme.OpenBrace ∷ all body (lexeme.CloseBrace ∷ rest))
  one (If e first second) rest =
      lexeme.Word word.If
      ∷ expression e (lexeme.OpenBrace ∷ all first (lexeme.CloseBrace ∷ else_block second (all second) rest))

  pub all : Statements → List Lexeme → List Lexeme
  all nothing rest = rest
  all (statement s ss) rest = one s (all ss rest)

abbrev pub program : List FunctionTree → List Lexeme
program [] = []
program (f ∷ fs) =
    lexeme.Word word.Fn ∷ lexeme.Name f.name ∷ lexeme.OpenBrace ∷ all f.body (lexeme.CloseBrace ∷ program fs)

abbrev pub bracket_size : Bool → ℕ → ℕ
bracket_size true n = n + 2
bracket_size false n = n

-- how many lexemes these are
abbrev mutual
  pub size : Expression → ℕ
  size (Number n) = 1
  size (Named c) = 1
  size (Var x) = 1
  size Paramc = 1
  size Depc = 1
  size LastCode = 1
  size (Paramv e) = 3 + size e
  size (Depv e) = 3 + size e
  size (Unary op e) = 1 + bracket_size (is_lower e UNARY_LEVEL) (size e)
  size (Binary op a b) =
      bracket_size (is_lower a (level op)) (size a) + 1 + bracket_size (is_lower b (level op + 1)) (size b)
  size (Invoked c args) = 3 + arguments_size args

  pub arguments_size : Arguments → ℕ
  arguments_size empty = 0
  arguments_size (value e more) = size e + further_size more
  arguments_size (list es more) = 2 + arguments_size es + further_size more
  arguments_size (named x more) = 1 + further_size more

  pub further_size : Arguments → ℕ
  further_size empty = 0
  further_size (value e more) = 1 + size e + further_size more
  further_size (list es more) = 3 + arguments_size es + further_size more
  further_size (named x more) = 3 + further_size more

-- how many they are where a level is wanted
abbrev pub size_at : ℕ → Expression → ℕ
size_at l e = bracket_size (is_lower e l) (size e)
