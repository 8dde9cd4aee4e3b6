-- Code as the plain tree that it stands for.
use Rattle.std.specs.Prelude.{◌≡◌, ◌<◌, ℕ, List, [], ◌∷◌, Bool, true, ◌&&◌, not, nat_lt, ◌==◌, ◌^◌, bytes_eq, map, length, slice_index_or}
use Rattle.std.specs.List.{list_any}
use Rattle.ocr_program_tree.specs.Tree as tree
pub use Rattle.ocr_program_tree.specs.Rules.{has_function}
use Rattle.ocr_program_tree.specs.declared.tree.CallName.{CallName}
use Rattle.ocr_program_tree.specs.declared.tree.CallName.TheVariants as name
use Rattle.ocr_body_code.specs.declared.code.ExprCode.{ExprCode}
use Rattle.ocr_body_code.specs.declared.code.ExprCode.TheVariants as node
use Rattle.ocr_body_code.specs.declared.code.CallCode.{CallCode}
use Rattle.ocr_body_code.specs.declared.code.CallCode.TheVariants as call
use Rattle.ocr_body_code.specs.declared.code.ArgCode.{ArgCode}
use Rattle.ocr_body_code.specs.declared.code.ArgCode.TheVariants as args
use Rattle.ocr_body_code.specs.declared.code.Named.{Named}
use Rattle.ocr_body_code.specs.declared.code.StmtCode.{StmtCode, Row_of-StmtCode, end_of-StmtCode}
use Rattle.ocr_body_code.specs.declared.code.StmtCode.{more_of-StmtCode}
use Rattle.ocr_body_code.specs.declared.code.StmtCode.TheVariants as step
use Rattle.ocr_body_code.specs.declared.code.FunctionCode.{FunctionCode}

-- the name at a place
abbrev pub name_at : List (List ℕ) → ℕ → List ℕ
name_at names i = slice_index_or names i []

abbrev pub call_name : CallCode → CallName
call_name (call.Load' p d q w) = name.Load
call_name (call.Store' p d q w r v) = name.Store
call_name (call.Coded made xs) = made

abbrev mutual
  pub expression_at : List (List ℕ) → ExprCode → tree.Expression
  expression_at names (node.Number n) = tree.Number n
  expression_at names (node.Constant c) = tree.Named c
  expression_at names (node.Variable i) = tree.Var (name_at names i)
  expression_at names node.Paramc = tree.Paramc
  expression_at names node.Depc = tree.Depc
  expression_at names node.LastCode = tree.LastCode
  expression_at names (node.Paramv' p e) = tree.Paramv (expression_at names e)
  expression_at names (node.Depv' p e) = tree.Depv (expression_at names e)
  expression_at names (node.Unary' op p e) = tree.Unary op (expression_at names e)
  expression_at names (node.Binary' op p a q b) =
      tree.Binary op (expression_at names a) (expression_at names b)
  expression_at names (node.WithNumber op i v) =
      tree.Binary op (tree.Var (name_at names i)) (tree.Number v)
  expression_at names (node.WithVariable op i j) =
      tree.Binary op (tree.Var (name_at names i)) (tree.Var (name_at names j))
  expression_at names (node.Invoke' p c) = tree.Invoked (call_name c) (call_arguments names c)

  pub call_arguments : List (List ℕ) → CallCode → tree.Arguments
  call_arguments names (call.Load' p d q w) =
      tree.value (expression_at names d) (tree.value (expression_at names w) tree.empty)
  call_arguments names (call.Store' p d q w r v) =
      tree.value (expression_at names d)
      (tree.value (expression_at names w) (tree.value (expression_at names v) tree.empty))
  call_arguments names (call.Coded made xs) = arguments_at names xs

  pub arguments_at : List (List ℕ) → ArgCode → tree.Arguments
  arguments_at names args.End = tree.empty
  arguments_at names (args.Value' p e q rest) =
      tree.value (expression_at names e) (arguments_at names rest)
  arguments_at names (args.List' p es q rest) =
      tree.list (arguments_at names es) (arguments_at names rest)
  arguments_at names (args.Name' x p rest) =
      tree.named (name_at names x.place) (arguments_at names rest)

abbrev mutual
  pub statement_at : List (List ℕ) → StmtCode → tree.Statement
  statement_at names (step.Let i e) = tree.Let (name_at names i) (expression_at names e)
  statement_at names (step.Assign i e) = tree.Assign (name_at names i) (expression_at names e)
  statement_at names (step.If' e m first n second) =
      tree.If (expression_at names e) (row_at names first) (row_at names second)
  statement_at names (step.While' e m body) = tree.While (expression_at names e) (row_at names body)
  statement_at names (step.Print e) = tree.Print (expression_at names e)
  statement_at names (step.Return e) = tree.Return (expression_at names e)
  statement_at names (step.Invoke c) = tree.Do (call_name c) (call_arguments names c)

  pub row_at : {m : _} → List (List ℕ) → Row_of-StmtCode m → tree.Statements
  row_at names end_of-StmtCode = tree.nothing
  row_at names (more_of-StmtCode s rest) = tree.statement (statement_at names s) (row_at names rest)

-- the statements of a list
abbrev pub statements_in : List (List ℕ) → List StmtCode → tree.Statements
statements_in names [] = tree.nothing
statements_in names (s ∷ rest) = tree.statement (statement_at names s) (statements_in names rest)

-- a name has a place among these, and the number of the function of this name
abbrev pub is_name_placed : (List ℕ → ℕ) → List (List ℕ) → Named → Bool
is_name_placed numbers names x =
    nat_lt x.place (length names) && (numbers (name_at names x.place) == x.number)

-- every variable has a name among these, every function has its number, and every number has 64
-- bits
abbrev mutual
  pub is_placed : (List ℕ → ℕ) → List (List ℕ) → ExprCode → Bool
  is_placed numbers names (node.Number v) = nat_lt v (2 ^ 64)
  is_placed numbers names (node.Variable i) = nat_lt i (length names)
  is_placed numbers names (node.Paramv' p e) = is_placed numbers names e
  is_placed numbers names (node.Depv' p e) = is_placed numbers names e
  is_placed numbers names (node.Unary' op p e) = is_placed numbers names e
  is_placed numbers names (node.Binary' op p a q b) =
      is_placed numbers names a && is_placed numbers names b
  is_placed numbers names (node.WithNumber op i v) =
      nat_lt i (length names) && nat_lt v (2 ^ 64)
  is_placed numbers names (node.WithVariable op i j) =
      nat_lt i (length names) && nat_lt j (length names)
  is_placed numbers names (node.Invoke' p c) = is_call_placed numbers names c
  is_placed numbers names other = true

  pub is_call_placed : (List ℕ → ℕ) → List (List ℕ) → CallCode → Bool
  is_call_placed numbers names (call.Load' p d q w) =
      is_placed numbers names d && is_placed numbers names w
  is_call_placed numbers names (call.Store' p d q w r v) =
      is_placed numbers names d && (is_placed numbers names w && is_placed numbers names v)
  is_call_placed numbers names (call.Coded made xs) =
      has_function made (arguments_at names xs) && are_args_placed numbers names xs

  pub are_args_placed : (List ℕ → ℕ) → List (List ℕ) → ArgCode → Bool
  are_args_placed numbers names args.End = true
  are_args_placed numbers names (args.Value' p e q rest) =
      is_placed numbers names e && are_args_placed numbers names rest
  are_args_placed numbers names (args.List' p es q rest) =
      are_args_placed numbers names es && are_args_placed numbers names rest
  are_args_placed numbers names (args.Name' x p rest) =
      is_name_placed numbers names x && are_args_placed numbers names rest

abbrev mutual
  pub is_step_placed : (List ℕ → ℕ) → List (List ℕ) → StmtCode → Bool
  is_step_placed numbers names (step.Let i e) =
      nat_lt i (length names) && is_placed numbers names e
  is_step_placed numbers names (step.Assign i e) =
      nat_lt i (length names) && is_placed numbers names e
  is_step_placed numbers names (step.If' e m first k second) =
      is_placed numbers names e
      && (is_row_placed numbers names first && is_row_placed numbers names second)
  is_step_placed numbers names (step.While' e m body) =
      is_placed numbers names e && is_row_placed numbers names body
  is_step_placed numbers names (step.Print e) = is_placed numbers names e
  is_step_placed numbers names (step.Return e) = is_placed numbers names e
  is_step_placed numbers names (step.Invoke c) = is_call_placed numbers names c

  pub is_row_placed : {m : _} → (List ℕ → ℕ) → List (List ℕ) → Row_of-StmtCode m → Bool
  is_row_placed numbers names end_of-StmtCode = true
  is_row_placed numbers names (more_of-StmtCode s rest) =
      is_step_placed numbers names s && is_row_placed numbers names rest

abbrev pub are_placed : (List ℕ → ℕ) → List (List ℕ) → List StmtCode → Bool
are_placed numbers names [] = true
are_placed numbers names (s ∷ rest) =
    is_step_placed numbers names s && are_placed numbers names rest

-- this is the first of these names, and has its number
pub record IsFirstName (numbers : List ℕ → ℕ) (names : List (List ℕ)) (named : Named)
    (these : List (List ℕ)) : Type 0 where
  pub some : 0 < length these
  pub placed : named.place < length names
  pub first : slice_index_or these 0 [] ≡ name_at names named.place
  pub number : numbers (slice_index_or these 0 []) ≡ named.number

-- all names differ
abbrev pub are_distinct : List (List ℕ) → Bool
are_distinct [] = true
are_distinct (x ∷ xs) = not (list_any (bytes_eq x) xs) && are_distinct xs

-- code whose names differ, whose variables all have a name, whose functions have their numbers, and
-- whose numbers have 64 bits
abbrev pub is_sound : (List ℕ → ℕ) → FunctionCode → Bool
is_sound numbers f = are_distinct f.names.items && are_placed numbers f.names.items f.body.items

abbrev pub are_sound : (List ℕ → ℕ) → List FunctionCode → Bool
are_sound numbers [] = true
are_sound numbers (f ∷ rest) = is_sound numbers f && are_sound numbers rest

-- the body of a function's code
abbrev pub body_in : FunctionCode → tree.Statements
body_in f = statements_in f.names.items f.body.items

abbrev pub bodies_in : List FunctionCode → List tree.Statements
bodies_in fs = map body_in fs
