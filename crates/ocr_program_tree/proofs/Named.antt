-- A tree in memory has a function's name in each ocrEdtTemplateCreate.
use Rattle.std.proofs.Common.{◌≡◌, refl, Bool, true, ◌&&◌, List, [], ◌∷◌, Option, None, Some, ℕ}
use Rattle.ocr_program_tree.specs.Each.{is_each_call, is_each_call_of_all, is_each_call_in, is_each_call_in_all, is_each_call_of}
use Rattle.ocr_program_tree.specs.Rules.{has_function}
use Rattle.ocr_program_tree.specs.View.{expression_of, row_arguments, name_of, arguments_of, output_of, statement_of, statements_of, row_statements, functions_of}
use Rattle.ocr_program_tree.specs.declared.tree.Expr.{Expr}
use Rattle.ocr_program_tree.specs.declared.tree.Expr.TheVariants as expr
use Rattle.ocr_program_tree.specs.declared.tree.Invoke.{Invoke, Row_of-Expr, end_of-Expr, more_of-Expr}
use Rattle.ocr_program_tree.specs.declared.tree.Invoke.TheVariants as call
use Rattle.ocr_program_tree.specs.declared.tree.Stmt.{Stmt, Row_of-Stmt, end_of-Stmt, more_of-Stmt}
use Rattle.ocr_program_tree.specs.declared.tree.Stmt.TheVariants as stmt
use Rattle.ocr_program_tree.specs.declared.tree.Function.{Function}

both : {a b : Bool} → a ≡ true → b ≡ true → (a && b) ≡ true
both p q = λ i. p i && q i

call_named : (c : Invoke) → has_function (name_of c) (arguments_of c) ≡ true
call_named (call.DbCreate' p a q b) = refl
call_named (call.DbRelease' p a) = refl
call_named (call.DbDestroy' p a) = refl
call_named (call.EventCreate' p a q b) = refl
call_named (call.EventCreateParams' p a q b r c s d t e) = refl
call_named (call.EventDestroy' p a) = refl
call_named (call.Satisfy' p a q b) = refl
call_named (call.SatisfySlot' p a q b r c) = refl
call_named (call.AddDependence' p a q b r c s d) = refl
call_named (call.TemplateCreate' f p a q b) = refl
call_named (call.TemplateDestroy' p a) = refl
call_named (call.EdtCreate' p t q c m ps r d n ds s f o) = refl
call_named call.Shutdown = refl
call_named (call.Abort' p a) = refl
call_named (call.Load' p a q b) = refl
call_named (call.Store' p a q b r c) = refl

output_named : (o : Option (List ℕ)) → is_each_call_of_all has_function (output_of o) ≡ true
output_named None = refl
output_named (Some x) = refl

mutual
  expression_named : (e : Expr) → is_each_call has_function (expression_of e) ≡ true
  expression_named (expr.Number n) = refl
  expression_named (expr.Constant c) = refl
  expression_named (expr.Var x) = refl
  expression_named expr.Paramc = refl
  expression_named expr.Depc = refl
  expression_named expr.Code = refl
  expression_named (expr.Paramv' p e) = expression_named e
  expression_named (expr.Depv' p e) = expression_named e
  expression_named (expr.Unary' op p e) = expression_named e
  expression_named (expr.Binary' op p a q b) = both (expression_named a) (expression_named b)
  expression_named (expr.Invoke' p c) = both (call_named c) (arguments_named c)

  arguments_named : (c : Invoke) → is_each_call_of_all has_function (arguments_of c) ≡ true
  arguments_named (call.DbCreate' p a q b) = both (expression_named a) (both (expression_named b) refl)
  arguments_named (call.DbRelease' p a) = both (expression_named a) refl
  arguments_named (call.DbDestroy' p a) = both (expression_named a) refl
  arguments_named (call.EventCreate' p a q b) = both (expression_named a) (both (expression_named b) refl)
  arguments_named (call.EventCreateParams' p a q b r c s d t e) =
      both (expression_named a) (both (expression_named b) (both (expression_named c) (both (expression_named d) (both (expression_named e) refl))))
  arguments_named (call.EventDestroy' p a) = both (expression_named a) refl
  arguments_named (call.Satisfy' p a q b) = both (expression_named a) (both (expression_named b) refl)
  arguments_named (call.SatisfySlot' p a q b r c) = both (expression_named a) (both (expression_named b) (both (expression_named c) refl))
  arguments_named (call.AddDependence' p a q b r c s d) =
      both (expression_named a) (both (expression_named b) (both (expression_named c) (both (expression_named d) refl)))
  arguments_named (call.TemplateCreate' f p a q b) = both (expression_named a) (both (expression_named b) refl)
  arguments_named (call.TemplateDestroy' p a) = both (expression_named a) refl
  arguments_named (call.EdtCreate' p t q c m ps r d n ds s f o) =
      both (expression_named t) (both (expression_named c) (both (row_named ps) (both (expression_named d) (both (row_named ds) (both (expression_named f) (output_named o))))))
  arguments_named call.Shutdown = refl
  arguments_named (call.Abort' p a) = both (expression_named a) refl
  arguments_named (call.Load' p a q b) = both (expression_named a) (both (expression_named b) refl)
  arguments_named (call.Store' p a q b r c) = both (expression_named a) (both (expression_named b) (both (expression_named c) refl))

  row_named : {m : _} (row : Row_of-Expr m) → is_each_call_of_all has_function (row_arguments row) ≡ true
  row_named end_of-Expr = refl
  row_named (more_of-Expr e rest) = both (expression_named e) (row_named rest)

mutual
  statement_named : (s : Stmt) → is_each_call_in has_function (statement_of s) ≡ true
  statement_named (stmt.Let x e) = expression_named e
  statement_named (stmt.Assign x e) = expression_named e
  statement_named (stmt.If' e m first n second) = both (expression_named e) (both (block_named first) (block_named second))
  statement_named (stmt.While' e m body) = both (expression_named e) (block_named body)
  statement_named (stmt.Print e) = expression_named e
  statement_named (stmt.Return e) = expression_named e
  statement_named (stmt.Invoke c) = both (call_named c) (arguments_named c)

  block_named : {m : _} (row : Row_of-Stmt m) → is_each_call_in_all has_function (row_statements row) ≡ true
  block_named end_of-Stmt = refl
  block_named (more_of-Stmt s rest) = both (statement_named s) (block_named rest)

statements_named : (ss : List Stmt) → is_each_call_in_all has_function (statements_of ss) ≡ true
statements_named [] = refl
statements_named (s ∷ rest) = both (statement_named s) (statements_named rest)

pub functions_named : (fs : List Function) → is_each_call_of has_function (functions_of fs) ≡ true
functions_named [] = refl
functions_named (f ∷ fs) = both (statements_named f.body.items) (functions_named fs)
