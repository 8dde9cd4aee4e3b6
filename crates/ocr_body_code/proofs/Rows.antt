-- The statements of a block in memory.
use Rattle.std.proofs.Common.{◌≡◌, ℕ, List, refl, ap, ◌∙◌, Vec, Global, Bool, ◌&&◌}
use Rattle.ocr_program_tree.specs.Tree as tree
use Rattle.ocr_body_code.specs.Code.{statement_at, statements_in, row_at, expression_at, is_placed, is_step_placed, is_row_placed, are_placed}
use Rattle.ocr_body_code.specs.declared.code.StmtCode.{StmtCode, Row_of-StmtCode, end_of-StmtCode, more_of-StmtCode}
use Rattle.ocr_body_code.specs.declared.code.ExprCode.{ExprCode}
use Rattle.ocr_body_code.specs.declared.code.StmtCode.TheViews as views
use Rattle.ocr_body_code.specs.declared.code.StmtCode.TheBlock.{items-the_row-StmtCode, hidden-the_row-StmtCode-0, items_hidden-the_row-StmtCode-0}

pub row_is_items : (names : List (List ℕ)) (n : _) (row : Row_of-StmtCode n) → row_at names row ≡ statements_in names (items-the_row-StmtCode n row)
row_is_items names n end_of-StmtCode = refl
row_is_items names n (more_of-StmtCode {n = m} s rest) = ap (λ (t : tree.Statements). tree.statement (statement_at names s) t) (row_is_items names m rest)

-- the statements of a block, as its list
pub hidden_is : (names : List (List ℕ)) (v : Vec StmtCode Global) → row_at names (hidden-the_row-StmtCode-0 v) ≡ statements_in names v.items
hidden_is names v = row_is_items names _ (hidden-the_row-StmtCode-0 v) ∙ ap (statements_in names) (items_hidden-the_row-StmtCode-0 v)

pub if_view : (names : List (List ℕ)) (e : ExprCode) (first second : Vec StmtCode Global)
    → statement_at names (views.If e first second) ≡ tree.If (expression_at names e) (statements_in names first.items) (statements_in names second.items)
if_view names e first second = λ i. tree.If (expression_at names e) (hidden_is names first i) (hidden_is names second i)

pub while_view : (names : List (List ℕ)) (e : ExprCode) (body : Vec StmtCode Global)
    → statement_at names (views.While e body) ≡ tree.While (expression_at names e) (statements_in names body.items)
while_view names e body = λ i. tree.While (expression_at names e) (hidden_is names body i)

pub row_placed : (w : List ℕ → ℕ) (k : List (List ℕ)) (n : _) (row : Row_of-StmtCode n) → is_row_placed w k row ≡ are_placed w k (items-the_row-StmtCode n row)
row_placed w k n end_of-StmtCode = refl
row_placed w k n (more_of-StmtCode {n = m} s rest) = ap (λ (b : Bool). is_step_placed w k s && b) (row_placed w k m rest)

pub hidden_placed : (w : List ℕ → ℕ) (k : List (List ℕ)) (v : Vec StmtCode Global) → is_row_placed w k (hidden-the_row-StmtCode-0 v) ≡ are_placed w k v.items
hidden_placed w k v = row_placed w k _ (hidden-the_row-StmtCode-0 v) ∙ ap (are_placed w k) (items_hidden-the_row-StmtCode-0 v)

pub if_placed : (w : List ℕ → ℕ) (k : List (List ℕ)) (e : ExprCode) (first second : Vec StmtCode Global)
    → is_step_placed w k (views.If e first second) ≡ (is_placed w k e && (are_placed w k first.items && are_placed w k second.items))
if_placed w k e first second = λ i. is_placed w k e && (hidden_placed w k first i && hidden_placed w k second i)

pub while_placed : (w : List ℕ → ℕ) (k : List (List ℕ)) (e : ExprCode) (body : Vec StmtCode Global) → is_step_placed w k (views.While e body) ≡ (is_placed w k e && are_placed w k body.items)
while_placed w k e body = λ i. is_placed w k e && hidden_placed w k body i
