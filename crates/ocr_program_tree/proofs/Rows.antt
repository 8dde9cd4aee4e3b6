-- The lists of a tree in memory: the row of a vector is its items.
use Rattle.std.proofs.Common.{◌≡◌, ◌<◌, refl, ap, ◌∙◌, sym, subst, Vec, Box, Bor, Global, Option, List, [], ◌∷◌, ℕ, suc, length, get_or, All, arith}
use denote.Param.Weighed.{most}
use Rattle.ocr_program_tree.specs.Argument.{IsWithin}
use Rattle.ocr_program_tree.specs.declared.argument.Argument.{Argument}
use Rattle.ocr_program_tree.specs.declared.argument.Argument.TheVariants as argument
use Rattle.ocr_program_tree.specs.Tree as tree
use Rattle.ocr_program_tree.specs.View.{expression_of, row_arguments, members_of, arguments_of, output_of, statement_of, statements_of, row_statements}
use Rattle.ocr_program_tree.specs.declared.tree.Expr.{Expr, size-Expr}
use Rattle.ocr_program_tree.specs.declared.tree.Invoke.{Row_of-Expr, end_of-Expr, more_of-Expr}
use Rattle.ocr_program_tree.specs.declared.tree.Stmt.{Stmt, Row_of-Stmt, end_of-Stmt, more_of-Stmt}
use Rattle.ocr_program_tree.specs.declared.tree.Expr.TheViews as call
use Rattle.ocr_program_tree.specs.declared.tree.Stmt.TheViews as stmt
use Rattle.ocr_program_tree.specs.declared.tree.Expr.TheBlock.{items-the_row-Expr, hidden-the_row-Expr-0, items_hidden-the_row-Expr-0}
use Rattle.ocr_program_tree.specs.declared.tree.Stmt.TheBlock.{items-the_row-Stmt, hidden-the_row-Stmt-0, items_hidden-the_row-Stmt-0}

row_is_members : (n : _) (row : Row_of-Expr n) → row_arguments row ≡ members_of (items-the_row-Expr n row)
row_is_members n end_of-Expr = refl
row_is_members n (more_of-Expr {n = m} e rest) = ap (λ (t : tree.Arguments). tree.value (expression_of e) t) (row_is_members m rest)

-- the members of a list of values
pub members_are : (v : Vec Expr Global) → row_arguments (hidden-the_row-Expr-0 v) ≡ members_of v.items
members_are v = row_is_members _ (hidden-the_row-Expr-0 v) ∙ ap members_of (items_hidden-the_row-Expr-0 v)

-- the arguments of ocrEdtCreate
pub creation_view : (t c : Box Expr Global) (ps : Vec Expr Global) (d : Box Expr Global) (ds : Vec Expr Global) (f : Box Expr Global)
    (o : Option (List ℕ)) → arguments_of (call.EdtCreate t c ps d ds f o)
    ≡ tree.value (expression_of t.value) (tree.value (expression_of c.value) (tree.list (members_of ps.items)
    (tree.value (expression_of d.value) (tree.list (members_of ds.items) (tree.value (expression_of f.value) (output_of o))))))
creation_view t c ps d ds f o =
    λ i. tree.value (expression_of t.value) (tree.value (expression_of c.value) (tree.list (members_are ps i)
    (tree.value (expression_of d.value) (tree.list (members_are ds i) (tree.value (expression_of f.value) (output_of o))))))

row_is_statements : (n : _) (row : Row_of-Stmt n) → row_statements row ≡ statements_of (items-the_row-Stmt n row)
row_is_statements n end_of-Stmt = refl
row_is_statements n (more_of-Stmt {n = m} s rest) = ap (λ (t : tree.Statements). tree.statement (statement_of s) t) (row_is_statements m rest)

-- the statements of a block
pub statements_are : (v : Vec Stmt Global) → row_statements (hidden-the_row-Stmt-0 v) ≡ statements_of v.items
statements_are v = row_is_statements _ (hidden-the_row-Stmt-0 v) ∙ ap statements_of (items_hidden-the_row-Stmt-0 v)

pub if_view : (e : Expr) (first second : Vec Stmt Global)
    → statement_of (stmt.If e first second) ≡ tree.If (expression_of e) (statements_of first.items) (statements_of second.items)
if_view e first second = λ i. tree.If (expression_of e) (statements_are first i) (statements_are second i)

pub while_view : (e : Expr) (body : Vec Stmt Global) → statement_of (stmt.While e body) ≡ tree.While (expression_of e) (statements_of body.items)
while_view e body = λ i. tree.While (expression_of e) (statements_are body i)

most_below : (levels : ℕ) (es : List Expr) → 0 < levels → All (λ e. size-Expr e < levels) es → most size-Expr es < levels
most_below levels [] some below = some
most_below levels (e ∷ es) some below =
    omega (arith, below 0 e (omega arith), most_below levels es some (λ k d inside. below (suc k) d (omega (arith, inside))))

-- the members of a list among arguments that are within some levels are within these
pub list_within : (levels : ℕ) (xs : List Argument) (place : ℕ) (a : Argument) (es : Bor (List Expr))
    → All (IsWithin levels) xs → place < length xs → a ≡ get_or xs place a → a ≡ argument.List es → most size-Expr es.now < levels
list_within levels xs place a es within inside at is =
    let all : IsWithin levels (argument.List es) = subst (λ (b : Argument). IsWithin levels b) (sym at ∙ is) (within place a inside) in
    most_below levels es.now all.0 all.1
