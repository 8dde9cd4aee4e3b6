-- The code of statements, one after another.
use Rattle.std.proofs.Common.{◌≡◌, ◌<◌, ◌≤◌, ◌+◌, ℕ, zero, suc, List, [], ◌∷◌, ◌++◌, true, length, take, get_or, take_all, refl, sym, ◌∙◌, ap, arith, Vec, Global}
use Rattle.ocr_program_tree.specs.Tree as tree
use Rattle.ocr_body_code.specs.Code.{is_step_placed, are_placed, statement_at, statements_in}
use Rattle.ocr_body_code.specs.Resolved.{Grew, IsPlace, IsExpression, IsStatement, AreStatements}
use Rattle.ocr_program_tree.specs.View.{statement_of, statements_of}
use Rattle.ocr_body_code.specs.declared.code.StmtCode.{StmtCode}
use Rattle.ocr_program_tree.specs.declared.tree.Stmt.{Stmt}
use Rattle.ocr_body_code.proofs.Sides.{first_of, second_of}
use Rattle.ocr_body_code.proofs.Names.{both, grew_twice, place_kept, expression_kept, statements_kept}
use Rattle.ocr_body_code.proofs.Weight.{weight, weights}
use Rattle.ocr_body_code.proofs.Rows.{if_view, while_view, if_placed, while_placed}
use Rattle.std.proofs.lemmas.Bool.{lt-ltb}
use Rattle.ocr_body_code.specs.declared.code.ExprCode.{ExprCode}
use Rattle.ocr_body_code.specs.declared.code.StmtCode.TheViews as step
use Rattle.ocr_body_code.specs.declared.code.StmtCode.TheVariants as variant

-- statements and then others
abbrev joined : tree.Statements → tree.Statements → tree.Statements
joined tree.nothing others = others
joined (tree.statement s rest) others = tree.statement s (joined rest others)

in_push : (names : List (List ℕ)) (ss : List StmtCode) (s : StmtCode) → statements_in names (ss ++ s ∷ []) ≡ joined (statements_in names ss) (tree.statement (statement_at names s) tree.nothing)
in_push names [] s = refl
in_push names (t ∷ ss) s = ap (tree.statement (statement_at names t)) (in_push names ss s)

of_take_suc : (ss : List Stmt) (i : ℕ) (d : Stmt) → i < length ss → statements_of (take (suc i) ss) ≡ joined (statements_of (take i ss)) (tree.statement (statement_of (get_or ss i d)) tree.nothing)
of_take_suc [] i d less = absurd (omega (arith, less))
of_take_suc (s ∷ ss) zero d less = refl
of_take_suc (s ∷ ss) (suc i) d less = ap (tree.statement (statement_of s)) (of_take_suc ss i d (omega (arith, less)))

placed_push : (w : List ℕ → ℕ) (n : List (List ℕ)) (ss : List StmtCode) (s : StmtCode) → are_placed w n ss ≡ true → is_step_placed w n s ≡ true → are_placed w n (ss ++ s ∷ []) ≡ true
placed_push w n [] s are is = both _ _ is refl
placed_push w n (t ∷ ss) s are is = both _ _ (first_of _ _ are) (placed_push w n ss s (second_of _ _ are) is)

-- one statement more
pub pushed_statements : (w : List ℕ → ℕ) (xs ys : List (List ℕ)) (ss ts : List StmtCode) (s : StmtCode) (stmts : List Stmt) (i j : ℕ) (d : Stmt) → Grew xs ys → ts ≡ ss ++ s ∷ [] → j ≡ i + 1 → i < length stmts
    → AreStatements w xs ss (statements_of (take i stmts)) → IsStatement w ys s (statement_of (get_or stmts i d)) → AreStatements w ys ts (statements_of (take j stmts))
pushed_statements w xs ys ss ts s stmts i j d grew is next less before here =
    let kept : AreStatements w ys ss (statements_of (take i stmts)) = statements_kept w xs ys ss _ grew before in
    let there : j ≡ suc i = omega arith in
    record {
      placed = ap (are_placed w ys) is ∙ placed_push w ys ss s kept.placed here.placed;
      same =
          ap (statements_in ys) is ∙ in_push ys ss s
          ∙ (λ k. joined (kept.same k) (tree.statement (here.same k) tree.nothing))
          ∙ sym (ap (λ (n : ℕ). statements_of (take n stmts)) there ∙ of_take_suc stmts i d less);
    }

pub all_statements : (w : List ℕ → ℕ) (xs : List (List ℕ)) (ss : List StmtCode) (stmts : List Stmt) (i : ℕ) → length stmts ≤ i → AreStatements w xs ss (statements_of (take i stmts)) → AreStatements w xs ss (statements_of stmts)
all_statements w xs ss stmts i le are = record { placed = are.placed; same = are.same ∙ ap statements_of (take_all i stmts le) }

pub no_statements : (w : List ℕ → ℕ) (xs : List (List ℕ)) (ss : List StmtCode) (stmts : List Stmt) → ss ≡ [] → AreStatements w xs ss (statements_of (take 0 stmts))
no_statements w xs ss stmts none = record { placed = ap (are_placed w xs) none; same = ap (statements_in xs) none }

-- a choice over its parts, each of which was resolved over the names that were met until then
pub if_is : (w : List ℕ → ℕ) (xs ys zs : List (List ℕ)) (a : ExprCode) (first second : Vec StmtCode Global) (s : tree.Statement) (ea : tree.Expression) (sf ss : tree.Statements) → Grew xs ys → Grew ys zs
    → IsExpression w xs a ea → AreStatements w ys first.items sf → AreStatements w zs second.items ss → s ≡ tree.If ea sf ss → IsStatement w zs (step.If a first second) s
if_is w xs ys zs a first second s ea sf ss grew again test first_are second_are is =
    let kept : IsExpression w zs a ea = expression_kept w xs zs a ea (grew_twice xs ys zs grew again) test in
    let held : AreStatements w zs first.items sf = statements_kept w ys zs first.items sf again first_are in
    record {
      placed = if_placed w zs a first second ∙ both _ _ kept.placed (both _ _ held.placed second_are.placed);
      same = if_view zs a first second ∙ (λ i. tree.If (kept.same i) (held.same i) (second_are.same i)) ∙ sym is;
    }

pub while_is : (w : List ℕ → ℕ) (xs ys : List (List ℕ)) (a : ExprCode) (body : Vec StmtCode Global) (s : tree.Statement) (ea : tree.Expression) (ss : tree.Statements) → Grew xs ys
    → IsExpression w xs a ea → AreStatements w ys body.items ss → s ≡ tree.While ea ss → IsStatement w ys (step.While a body) s
while_is w xs ys a body s ea ss grew test steps is =
    let kept : IsExpression w ys a ea = expression_kept w xs ys a ea grew test in
    record {
      placed = while_placed w ys a body ∙ both _ _ kept.placed steps.placed;
      same = while_view ys a body ∙ (λ i. tree.While (kept.same i) (steps.same i)) ∙ sym is;
    }

-- a variable's place was found over fewer names
pub let_is : (w : List ℕ → ℕ) (xs ys : List (List ℕ)) (i : ℕ) (x : List ℕ) (a : ExprCode) (s : tree.Statement) (ea : tree.Expression) → Grew xs ys → IsPlace xs i x → IsExpression w ys a ea
    → s ≡ tree.Let x ea → IsStatement w ys (variant.Let i a) s
let_is w xs ys i x a s ea grew at value is =
    let kept : IsPlace ys i x = place_kept xs ys i x grew at in
    record { placed = both _ _ (lt-ltb i (length ys) kept.placed) value.placed; same = (λ j. tree.Let (kept.same j) (value.same j)) ∙ sym is }

pub assign_is : (w : List ℕ → ℕ) (xs ys : List (List ℕ)) (i : ℕ) (x : List ℕ) (a : ExprCode) (s : tree.Statement) (ea : tree.Expression) → Grew xs ys → IsPlace xs i x → IsExpression w ys a ea
    → s ≡ tree.Assign x ea → IsStatement w ys (variant.Assign i a) s
assign_is w xs ys i x a s ea grew at value is =
    let kept : IsPlace ys i x = place_kept xs ys i x grew at in
    record { placed = both _ _ (lt-ltb i (length ys) kept.placed) value.placed; same = (λ j. tree.Assign (kept.same j) (value.same j)) ∙ sym is }

-- a statement of a list is no larger than the list
pub weight_of : (ss : List Stmt) (i : ℕ) (d : Stmt) → i < length ss → weight (statement_of (get_or ss i d)) ≤ weights (statements_of ss)
weight_of [] i d h = absurd (omega (arith, h))
weight_of (s ∷ ss) zero d h = omega arith
weight_of (s ∷ ss) (suc i) d h = omega (arith, weight_of ss i d (omega (arith, h)))
