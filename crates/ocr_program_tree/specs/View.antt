-- The plain tree of a tree in memory.
use Rattle.std.specs.Prelude.{ℕ, List, [], ◌∷◌, map, Option, None, Some}
use Rattle.ocr_program_tree.specs.Tree as tree
use Rattle.ocr_program_tree.specs.declared.tree.CallName.{CallName}
use Rattle.ocr_program_tree.specs.declared.tree.CallName.TheVariants as name
use Rattle.ocr_program_tree.specs.declared.tree.Expr.{Expr}
use Rattle.ocr_program_tree.specs.declared.tree.Expr.TheVariants as expr
use Rattle.ocr_program_tree.specs.declared.tree.Invoke.{Invoke, Row_of-Expr, end_of-Expr, more_of-Expr}
use Rattle.ocr_program_tree.specs.declared.tree.Invoke.TheVariants as call
use Rattle.ocr_program_tree.specs.declared.tree.Stmt.{Stmt, Row_of-Stmt, end_of-Stmt, more_of-Stmt}
use Rattle.ocr_program_tree.specs.declared.tree.Stmt.TheVariants as stmt
use Rattle.ocr_program_tree.specs.declared.tree.Function.{Function}
use Rattle.ocr_program_tree.specs.declared.tree.Program.{Program}

-- the name of a call
abbrev pub name_of : Invoke → CallName
name_of (call.DbCreate' p a q b) = name.DbCreate
name_of (call.DbRelease' p a) = name.DbRelease
name_of (call.DbDestroy' p a) = name.DbDestroy
name_of (call.EventCreate' p a q b) = name.EventCreate
name_of (call.EventCreateParams' p a q b r c s d t e) = name.EventCreateParams
name_of (call.EventDestroy' p a) = name.EventDestroy
name_of (call.Satisfy' p a q b) = name.Satisfy
name_of (call.SatisfySlot' p a q b r c) = name.SatisfySlot
name_of (call.AddDependence' p a q b r c s d) = name.AddDependence
name_of (call.TemplateCreate' f p a q b) = name.TemplateCreate
name_of (call.TemplateDestroy' p a) = name.TemplateDestroy
name_of (call.EdtCreate' p t q c m ps r d n ds s f o) = name.EdtCreate
name_of call.Shutdown = name.Shutdown
name_of (call.Abort' p a) = name.Abort
name_of (call.Load' p a q b) = name.Load
name_of (call.Store' p a q b r c) = name.Store

-- the variable after `&`, where one stands
abbrev pub output_of : Option (List ℕ) → tree.Arguments
output_of None = tree.empty
output_of (Some x) = tree.named x tree.empty

abbrev mutual
  pub expression_of : Expr → tree.Expression
  expression_of (expr.Number n) = tree.Number n
  expression_of (expr.Constant c) = tree.Named c
  expression_of (expr.Var x) = tree.Var x
  expression_of expr.Paramc = tree.Paramc
  expression_of expr.Depc = tree.Depc
  expression_of expr.Code = tree.LastCode
  expression_of (expr.Paramv' p e) = tree.Paramv (expression_of e)
  expression_of (expr.Depv' p e) = tree.Depv (expression_of e)
  expression_of (expr.Unary' op p e) = tree.Unary op (expression_of e)
  expression_of (expr.Binary' op p a q b) = tree.Binary op (expression_of a) (expression_of b)
  expression_of (expr.Invoke' p call) = tree.Invoked (name_of call) (arguments_of call)

  pub arguments_of : Invoke → tree.Arguments
  arguments_of (call.DbCreate' p a q b) =
      tree.value (expression_of a) (tree.value (expression_of b) tree.empty)
  arguments_of (call.DbRelease' p a) = tree.value (expression_of a) tree.empty
  arguments_of (call.DbDestroy' p a) = tree.value (expression_of a) tree.empty
  arguments_of (call.EventCreate' p a q b) =
      tree.value (expression_of a) (tree.value (expression_of b) tree.empty)
  arguments_of (call.EventCreateParams' p a q b r c s d t e) =
      tree.value (expression_of a) (tree.value (expression_of b) (tree.value (expression_of c)
      (tree.value (expression_of d) (tree.value (expression_of e) tree.empty))))
  arguments_of (call.EventDestroy' p a) = tree.value (expression_of a) tree.empty
  arguments_of (call.Satisfy' p a q b) =
      tree.value (expression_of a) (tree.value (expression_of b) tree.empty)
  arguments_of (call.SatisfySlot' p a q b r c) =
      tree.value (expression_of a) (tree.value (expression_of b)
      (tree.value (expression_of c) tree.empty))
  arguments_of (call.AddDependence' p a q b r c s d) =
      tree.value (expression_of a) (tree.value (expression_of b)
      (tree.value (expression_of c) (tree.value (expression_of d) tree.empty)))
  arguments_of (call.TemplateCreate' f p a q b) =
      tree.named f (tree.value (expression_of a) (tree.value (expression_of b) tree.empty))
  arguments_of (call.TemplateDestroy' p a) = tree.value (expression_of a) tree.empty
  arguments_of (call.EdtCreate' p t q c m ps r d n ds s f o) =
      tree.value (expression_of t) (tree.value (expression_of c) (tree.list (row_arguments ps)
      (tree.value (expression_of d) (tree.list (row_arguments ds)
      (tree.value (expression_of f) (output_of o))))))
  arguments_of call.Shutdown = tree.empty
  arguments_of (call.Abort' p a) = tree.value (expression_of a) tree.empty
  arguments_of (call.Load' p a q b) =
      tree.value (expression_of a) (tree.value (expression_of b) tree.empty)
  arguments_of (call.Store' p a q b r c) =
      tree.value (expression_of a) (tree.value (expression_of b)
      (tree.value (expression_of c) tree.empty))

  pub row_arguments : {m : _} → Row_of-Expr m → tree.Arguments
  row_arguments end_of-Expr = tree.empty
  row_arguments (more_of-Expr e rest) = tree.value (expression_of e) (row_arguments rest)

abbrev mutual
  pub statement_of : Stmt → tree.Statement
  statement_of (stmt.Let x e) = tree.Let x (expression_of e)
  statement_of (stmt.Assign x e) = tree.Assign x (expression_of e)
  statement_of (stmt.If' e m first n second) =
      tree.If (expression_of e) (row_statements first) (row_statements second)
  statement_of (stmt.While' e m body) = tree.While (expression_of e) (row_statements body)
  statement_of (stmt.Print e) = tree.Print (expression_of e)
  statement_of (stmt.Return e) = tree.Return (expression_of e)
  statement_of (stmt.Invoke call) = tree.Do (name_of call) (arguments_of call)

  pub row_statements : {m : _} → Row_of-Stmt m → tree.Statements
  row_statements end_of-Stmt = tree.nothing
  row_statements (more_of-Stmt s rest) = tree.statement (statement_of s) (row_statements rest)

-- the statements of a list
abbrev pub statements_of : List Stmt → tree.Statements
statements_of [] = tree.nothing
statements_of (s ∷ rest) = tree.statement (statement_of s) (statements_of rest)

-- the members of a list
abbrev pub members_of : List Expr → tree.Arguments
members_of [] = tree.empty
members_of (e ∷ rest) = tree.value (expression_of e) (members_of rest)

abbrev pub function_of : Function → tree.FunctionTree
function_of f = record { name = f.name; body = statements_of f.body.items }

abbrev pub functions_of : List Function → List tree.FunctionTree
functions_of fs = map function_of fs

abbrev pub tree_of : Program → List tree.FunctionTree
tree_of p = functions_of p.functions.items
