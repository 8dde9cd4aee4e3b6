-- The canonical text of a task program: its one spelling with the fewest brackets, in lines.
use Rattle.std.specs.Prelude.{ℕ, ◌+◌, List, [], ◌∷◌, ◌++◌, if◌then◌else◌, nat_lt, codes, decimal, flat_map}
use Rattle.ocr_program_tree.specs.Tree.{Expression, Number, Named, Var, Paramc, Depc, LastCode, Paramv, Depv, Unary, Binary, Invoked, Arguments, empty, value, list, named, Statement, Let, Assign, If, While, Print, Return, Do, Statements, nothing, statement, FunctionTree}
use Rattle.ocr_program_grammar.specs.declared.levels.TheConstants.{UNARY_LEVEL}
use Rattle.ocr_program_grammar.specs.Texts.{level, operator_text, sign_text, constant_text, call_text}

-- the level of the operator of an expression, above all levels where none joins it
abbrev pub level_of : Expression → ℕ
level_of (Binary op a b) = level op
level_of other = UNARY_LEVEL

-- an operand, in brackets exactly where its level is below the least that may stand here without
abbrev pub operand_text : ℕ → ℕ → List ℕ → List ℕ
operand_text least own text = if nat_lt own least then codes "(" ++ text ++ codes ")" else text

abbrev mutual
  pub expression_text : Expression → List ℕ
  expression_text (Number n) = decimal n
  expression_text (Named c) = constant_text c
  expression_text (Var x) = x
  expression_text Paramc = codes "paramc"
  expression_text Depc = codes "depc"
  expression_text LastCode = codes "code"
  expression_text (Paramv e) = codes "paramv[" ++ expression_text e ++ codes "]"
  expression_text (Depv e) = codes "depv[" ++ expression_text e ++ codes "]"
  expression_text (Unary op e) =
      sign_text op ++ operand_text UNARY_LEVEL (level_of e) (expression_text e)
  expression_text (Binary op a b) = operand_text (level op) (level_of a) (expression_text a)
      ++ codes " " ++ operator_text op ++ codes " "
      ++ operand_text (level op + 1) (level_of b) (expression_text b)
  expression_text (Invoked call arguments) =
      call_text call ++ codes "(" ++ arguments_text arguments ++ codes ")"

  -- `, ` stands between two arguments; a name after others is the variable that the call sets,
  -- behind `&`
  pub arguments_text : Arguments → List ℕ
  arguments_text empty = []
  arguments_text (value e rest) = expression_text e ++ further_text rest
  arguments_text (list es rest) = codes "[" ++ arguments_text es ++ codes "]" ++ further_text rest
  arguments_text (named x rest) = x ++ further_text rest

  pub further_text : Arguments → List ℕ
  further_text empty = []
  further_text (value e rest) = codes ", " ++ expression_text e ++ further_text rest
  further_text (list es rest) = codes ", [" ++ arguments_text es ++ codes "]" ++ further_text rest
  further_text (named x rest) = codes ", &" ++ x ++ further_text rest

-- a line, behind the spaces of its depth
abbrev pub line : List ℕ → List ℕ → List ℕ
line margin text = margin ++ text ++ codes "\n"

abbrev mutual
  pub statement_text : List ℕ → Statement → List ℕ
  statement_text margin (Let x e) =
      line margin (codes "let " ++ x ++ codes " = " ++ expression_text e ++ codes ";")
  statement_text margin (Assign x e) =
      line margin (x ++ codes " = " ++ expression_text e ++ codes ";")
  statement_text margin (Print e) = line margin (codes "print " ++ expression_text e ++ codes ";")
  statement_text margin (Return e) = line margin (codes "return " ++ expression_text e ++ codes ";")
  statement_text margin (Do call arguments) =
      line margin (expression_text (Invoked call arguments) ++ codes ";")
  statement_text margin (While e body) =
      line margin (codes "while " ++ expression_text e ++ codes " {")
      ++ statements_text (margin ++ codes "  ") body ++ line margin (codes "}")
  statement_text margin (If e first nothing) =
      line margin (codes "if " ++ expression_text e ++ codes " {")
      ++ statements_text (margin ++ codes "  ") first ++ line margin (codes "}")
  statement_text margin (If e first (statement s rest)) =
      line margin (codes "if " ++ expression_text e ++ codes " {")
      ++ statements_text (margin ++ codes "  ") first ++ line margin (codes "} else {")
      ++ statements_text (margin ++ codes "  ") (statement s rest) ++ line margin (codes "}")

  pub statements_text : List ℕ → Statements → List ℕ
  statements_text margin nothing = []
  statements_text margin (statement s rest) = statement_text margin s ++ statements_text margin rest

abbrev pub function_text : FunctionTree → List ℕ
function_text f = line [] (codes "fn " ++ f.name ++ codes " {")
    ++ statements_text (codes "  ") f.body ++ line [] (codes "}")

-- an empty line stands between two functions
abbrev pub program_text : List FunctionTree → List ℕ
program_text [] = []
program_text (f ∷ rest) = function_text f ++ flat_map (λ g. codes "\n" ++ function_text g) rest
