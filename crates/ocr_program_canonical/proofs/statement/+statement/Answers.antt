use Rattle.std.proofs.Common.{◌≡◌, ◌<◌, ◌++◌, ◌∙◌, sym, ap, List, ℕ, length, codes, rules}
use Rattle.ocr_program_tree.specs.Tree.{Statement, While, If}
use Rattle.ocr_program_tree.specs.declared.tree.Stmt.{Stmt}
use Rattle.ocr_program_tree.specs.View.{expression_of, statement_of, statements_of}
use Rattle.ocr_program_canonical.specs.Canonical.{expression_text, statement_text, statements_text, line}
use Rattle.ocr_program_canonical.specs.Written.{deeper}
use Rattle.ocr_program_canonical.proofs.Pieces.{three, five, on_ok}
use Rattle.ocr_program_tree.proofs.Rows.{while_view, if_view}
use Rattle.ocr_program_canonical.proofs.Blocks.{without_else, with_else}
use Rattle.ocr_program_canonical.proofs.statement.+statement.Goals as goal

pub statement-returns-in_ok-block-in-While : goal.statement-returns-in_ok-block-in-While
statement-returns-in_ok-block-in-While t c =
    let e = c.in-While in
    let margin : List ℕ = c.args.margin.now in
    let body = c.deref.result.now in
    let x0 : List ℕ = c.args.text.now.items in
    let x1 : List ℕ = c.worded-in-While.new.text.items in
    let x2 : List ℕ = c.block.new.text.items in
    let x3 : List ℕ = c.line.new.text.items in
    let view = ap statement_of e.is ∙ while_view e.test e.body ∙ ap (λ (ss : List Stmt). While (expression_of e.test) (statements_of ss)) (sym c.deref.ensures.value) in
    let e1 : x1 ≡ x0 ++ line margin (codes "while " ++ expression_text (expression_of e.test) ++ codes " {") = c.in_ok-worded-in-While.ensures in
    let e2 : x2 ≡ x1 ++ statements_text (deeper margin) (statements_of body) = c.in_ok-block-in-While.ensures in
    on_ok c.line.result
    (λ h. three _ _ (line margin (codes "}")) x0 x1 x2 x3 e1 e2 h ∙ ap (λ (s : Statement). x0 ++ statement_text margin s) (sym view))
    c.line.ensures

pub statement-returns-then-is_empty : goal.statement-returns-then-is_empty
statement-returns-then-is_empty t c =
    let e = c.in-If in
    let margin : List ℕ = c.args.margin.now in
    let first = c.deref-in-If.result.now in
    let second = e.no.items in
    let x0 : List ℕ = c.args.text.now.items in
    let x1 : List ℕ = c.worded-in-If.new.text.items in
    let x2 : List ℕ = c.block-in-If.new.text.items in
    let x3 : List ℕ = c.line-then-is_empty.new.text.items in
    let view = ap statement_of e.is ∙ if_view e.test e.yes e.no
    ∙ ap (λ (ss : List Stmt). If (expression_of e.test) (statements_of ss) (statements_of second)) (sym c.deref-in-If.ensures.value) in
    let none : length second ≡ 0 = search rules in
    let e1 : x1 ≡ x0 ++ line margin (codes "if " ++ expression_text (expression_of e.test) ++ codes " {") = c.in_ok-worded-in-If.ensures in
    let e2 : x2 ≡ x1 ++ statements_text (deeper margin) (statements_of first) = c.in_ok-block-in-If.ensures in
    on_ok c.line-then-is_empty.result
    (λ h. three _ _ (line margin (codes "}")) x0 x1 x2 x3 e1 e2 h
    ∙ ap (λ (t : List ℕ). x0 ++ t) (sym (without_else margin (expression_of e.test) (statements_of first) second none))
    ∙ ap (λ (s : Statement). x0 ++ statement_text margin s) (sym view))
    c.line-then-is_empty.ensures

pub statement-returns-in_ok-block-in-If-2 : goal.statement-returns-in_ok-block-in-If-2
statement-returns-in_ok-block-in-If-2 t c =
    let e = c.in-If in
    let margin : List ℕ = c.args.margin.now in
    let first = c.deref-in-If.result.now in
    let second = c.deref-in-If-2.result.now in
    let x0 : List ℕ = c.args.text.now.items in
    let x1 : List ℕ = c.worded-in-If.new.text.items in
    let x2 : List ℕ = c.block-in-If.new.text.items in
    let x3 : List ℕ = c.else_line.new.text.items in
    let x4 : List ℕ = c.block-in-If-2.new.text.items in
    let x5 : List ℕ = c.line-in-If.new.text.items in
    let view = ap statement_of e.is ∙ if_view e.test e.yes e.no
    ∙ (λ i. If (expression_of e.test) (statements_of (sym c.deref-in-If.ensures.value i)) (statements_of (sym c.deref-in-If-2.ensures.value i))) in
    let some : 0 < length second = search rules in
    let e1 : x1 ≡ x0 ++ line margin (codes "if " ++ expression_text (expression_of e.test) ++ codes " {") = c.in_ok-worded-in-If.ensures in
    let e2 : x2 ≡ x1 ++ statements_text (deeper margin) (statements_of first) = c.in_ok-block-in-If.ensures in
    let e3 : x3 ≡ x2 ++ line margin (codes "} else {") = c.in_ok-else_line-in-If.ensures in
    let e4 : x4 ≡ x3 ++ statements_text (deeper margin) (statements_of second) = c.in_ok-block-in-If-2.ensures in
    on_ok c.line-in-If.result
    (λ h. five _ _ _ _ (line margin (codes "}")) x0 x1 x2 x3 x4 x5 e1 e2 e3 e4 h
    ∙ ap (λ (t : List ℕ). x0 ++ t) (sym (with_else margin (expression_of e.test) (statements_of first) second some))
    ∙ ap (λ (s : Statement). x0 ++ statement_text margin s) (sym view))
    c.line-in-If.ensures
