-- The code of parts of a function, over the names that were met so far.
use Rattle.std.specs.Prelude.{◌≡◌, ◌<◌, ℕ, List, ◌++◌, true, length}
use Rattle.ocr_program_tree.specs.Tree as tree
use Rattle.ocr_program_tree.specs.declared.tree.CallName.{CallName}
use Rattle.std.specs.Option.{unwrap_or}
use Rattle.std.specs.BTreeMap.{get_by}
use Rattle.std.specs.Cmp.Lexicographic.{slice_cmp}
use Rattle.std.specs.Ordering.{nat_cmp}
use Rattle.ocr_body_code.specs.declared.numbers.Numbers.{Numbers}
use Rattle.ocr_body_code.specs.Code.{name_at, is_placed, is_call_placed, are_args_placed, is_step_placed}
use Rattle.ocr_body_code.specs.Code.{are_placed, call_name, call_arguments, arguments_at, expression_at}
use Rattle.ocr_body_code.specs.Code.{statement_at, statements_in}
use Rattle.ocr_body_code.specs.declared.code.ExprCode.{ExprCode}
use Rattle.ocr_body_code.specs.declared.code.CallCode.{CallCode}
use Rattle.ocr_body_code.specs.declared.code.ArgCode.{ArgCode}
use Rattle.ocr_body_code.specs.declared.code.StmtCode.{StmtCode}

-- the number of a name by an index of functions
abbrev pub numbers_of : Numbers → List ℕ → ℕ
numbers_of index name =
    unwrap_or (get_by (λ key. slice_cmp nat_cmp name key.now) index.by_name) index.none

-- names were added at the end
abbrev pub Grew : List (List ℕ) → List (List ℕ) → Type 0
Grew before now = (more : List (List ℕ)) × (now ≡ before ++ more)

-- this is the place of the name
pub record IsPlace (names : List (List ℕ)) (place : ℕ) (name : List ℕ) : Type 0 where
  pub placed : place < length names
  pub same : name_at names place ≡ name

-- this node is the code of the expression
pub record IsExpression (numbers : List ℕ → ℕ) (names : List (List ℕ))
    (node : ExprCode) (e : tree.Expression) : Type 0 where
  pub placed : is_placed numbers names node ≡ true
  pub same : expression_at names node ≡ e

-- this is the code of the arguments
pub record IsArguments (numbers : List ℕ → ℕ) (names : List (List ℕ))
    (args : ArgCode) (xs : tree.Arguments) : Type 0 where
  pub placed : are_args_placed numbers names args ≡ true
  pub same : arguments_at names args ≡ xs

-- this is the code of the call
pub record IsCall (numbers : List ℕ → ℕ) (names : List (List ℕ))
    (call : CallCode) (name : CallName) (xs : tree.Arguments) : Type 0 where
  pub placed : is_call_placed numbers names call ≡ true
  pub named : call_name call ≡ name
  pub same : call_arguments names call ≡ xs

-- this is the code of the statement
pub record IsStatement (numbers : List ℕ → ℕ) (names : List (List ℕ))
    (step : StmtCode) (s : tree.Statement) : Type 0 where
  pub placed : is_step_placed numbers names step ≡ true
  pub same : statement_at names step ≡ s

-- these are the code of the statements
pub record AreStatements (numbers : List ℕ → ℕ) (names : List (List ℕ))
    (steps : List StmtCode) (ss : tree.Statements) : Type 0 where
  pub placed : are_placed numbers names steps ≡ true
  pub same : statements_in names steps ≡ ss
