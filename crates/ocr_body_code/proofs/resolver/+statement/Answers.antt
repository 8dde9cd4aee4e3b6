use Rattle.std.proofs.Common.{◌≡◌, ◌≤◌, ◌+◌, ◌++◌, ◌∷◌, [], List, length, refl, ap, sym, subst, ◌∙◌, arith}
use Rattle.ocr_program_tree.specs.Tree as tree
use Rattle.ocr_body_code.specs.Resolved.{IsStatement, numbers_of}
use Rattle.ocr_program_tree.specs.View.{expression_of, statement_of, statements_of}
use Rattle.ocr_program_tree.specs.declared.tree.Stmt.{Stmt}
use Rattle.ocr_program_tree.proofs.Rows.{if_view as if_of, while_view as while_of}
use Rattle.ocr_body_code.proofs.Blocks.{if_is, while_is, let_is, assign_is, pushed_statements, all_statements, weight_of}
use Rattle.ocr_body_code.proofs.Names.{grew_twice}
use Rattle.ocr_body_code.proofs.Weight.{weight, weights}
use Rattle.ocr_body_code.proofs.resolver.+statement.Goals as goal

pub statement-statements-requires : goal.statement-statements-requires
statement-statements-requires t c =
    let is : statement_of c.args.stmt.now ≡ tree.If (expression_of c.in-If.test) (statements_of c.in-If.yes.items) (statements_of c.in-If.no.items) =
    ap statement_of c.in-If.is ∙ if_of c.in-If.test c.in-If.yes c.in-If.no in
    let items : c.deref.result.now ≡ c.in-If.yes.items = c.deref.ensures.value in
    omega (arith, ap weight is, ap (λ (ss : List Stmt). weights (statements_of ss)) items)

pub statement-statements-requires-in-If : goal.statement-statements-requires-in-If
statement-statements-requires-in-If t c =
    let is : statement_of c.args.stmt.now ≡ tree.If (expression_of c.in-If.test) (statements_of c.in-If.yes.items) (statements_of c.in-If.no.items) =
    ap statement_of c.in-If.is ∙ if_of c.in-If.test c.in-If.yes c.in-If.no in
    let items : c.deref-in-If.result.now ≡ c.in-If.no.items = c.deref-in-If.ensures.value in
    omega (arith, ap weight is, ap (λ (ss : List Stmt). weights (statements_of ss)) items)

pub statement-statements-requires-in-While : goal.statement-statements-requires-in-While
statement-statements-requires-in-While t c =
    let is : statement_of c.args.stmt.now ≡ tree.While (expression_of c.in-While.test) (statements_of c.in-While.body.items) =
    ap statement_of c.in-While.is ∙ while_of c.in-While.test c.in-While.body in
    let items : c.deref-in-While.result.now ≡ c.in-While.body.items = c.deref-in-While.ensures.value in
    omega (arith, ap weight is, ap (λ (ss : List Stmt). weights (statements_of ss)) items)

pub statement-returns-in_ok-expression-in-Let-clause-grew : goal.statement-returns-in_ok-expression-in-Let-clause-grew
statement-returns-in_ok-expression-in-Let-clause-grew t c =
    grew_twice c.args.names.now c.place.new.self c.expression.new.names c.in_ok-place-in-Let.ensures.grew c.in_ok-expression-in-Let.ensures.grew

pub statement-returns-in_ok-expression-in-Let-clause-ok : goal.statement-returns-in_ok-expression-in-Let-clause-ok
statement-returns-in_ok-expression-in-Let-clause-ok t c =
    let_is (numbers_of c.args.numbers.now) c.place.new.self c.expression.new.names c.in_ok-place-in-Let.place c.in-Let.name c.in_ok-expression-in-Let.field-0 (statement_of c.args.stmt.now) (expression_of c.in-Let.value)
    c.in_ok-expression-in-Let.ensures.grew c.in_ok-place-in-Let.ensures.ok c.in_ok-expression-in-Let.ensures.ok (ap statement_of c.in-Let.is)

pub statement-returns-in_ok-expression-in-Assign-clause-grew : goal.statement-returns-in_ok-expression-in-Assign-clause-grew
statement-returns-in_ok-expression-in-Assign-clause-grew t c =
    grew_twice c.args.names.now c.place-in-Assign.new.self c.expression-in-Assign.new.names c.in_ok-place-in-Assign.ensures.grew c.in_ok-expression-in-Assign.ensures.grew

pub statement-returns-in_ok-expression-in-Assign-clause-ok : goal.statement-returns-in_ok-expression-in-Assign-clause-ok
statement-returns-in_ok-expression-in-Assign-clause-ok t c =
    assign_is (numbers_of c.args.numbers.now) c.place-in-Assign.new.self c.expression-in-Assign.new.names c.in_ok-place-in-Assign.place c.in-Assign.name c.in_ok-expression-in-Assign.field-0 (statement_of c.args.stmt.now) (expression_of c.in-Assign.value)
    c.in_ok-expression-in-Assign.ensures.grew c.in_ok-place-in-Assign.ensures.ok c.in_ok-expression-in-Assign.ensures.ok (ap statement_of c.in-Assign.is)

pub statement-returns-in_ok-no-in-If-clause-grew : goal.statement-returns-in_ok-no-in-If-clause-grew
statement-returns-in_ok-no-in-If-clause-grew t c =
    grew_twice c.args.names.now c.statements.new.names c.statements-in-If.new.names
    (grew_twice c.args.names.now c.expression-in-If.new.names c.statements.new.names c.in_ok-test-in-If.ensures.grew c.in_ok-yes-in-If.ensures.grew)
    c.in_ok-no-in-If.ensures.grew

pub statement-returns-in_ok-no-in-If-clause-ok : goal.statement-returns-in_ok-no-in-If-clause-ok
statement-returns-in_ok-no-in-If-clause-ok t c =
    let is : statement_of c.args.stmt.now ≡ tree.If (expression_of c.in-If.test) (statements_of c.in-If.yes.items) (statements_of c.in-If.no.items) =
    ap statement_of c.in-If.is ∙ if_of c.in-If.test c.in-If.yes c.in-If.no in
    if_is (numbers_of c.args.numbers.now) c.expression-in-If.new.names c.statements.new.names c.statements-in-If.new.names c.in_ok-test-in-If.test c.in_ok-yes-in-If.yes c.in_ok-no-in-If.no
    (statement_of c.args.stmt.now) (expression_of c.in-If.test) (statements_of c.deref.result.now) (statements_of c.deref-in-If.result.now)
    c.in_ok-yes-in-If.ensures.grew c.in_ok-no-in-If.ensures.grew c.in_ok-test-in-If.ensures.ok c.in_ok-yes-in-If.ensures.ok c.in_ok-no-in-If.ensures.ok
    (is ∙ sym (λ i. tree.If (expression_of c.in-If.test) (statements_of (c.deref.ensures.value i)) (statements_of (c.deref-in-If.ensures.value i))))

pub statement-returns-in_ok-body-in-While-clause-grew : goal.statement-returns-in_ok-body-in-While-clause-grew
statement-returns-in_ok-body-in-While-clause-grew t c =
    grew_twice c.args.names.now c.expression-in-While.new.names c.statements-in-While.new.names c.in_ok-test-in-While.ensures.grew c.in_ok-body-in-While.ensures.grew

pub statement-returns-in_ok-body-in-While-clause-ok : goal.statement-returns-in_ok-body-in-While-clause-ok
statement-returns-in_ok-body-in-While-clause-ok t c =
    let is : statement_of c.args.stmt.now ≡ tree.While (expression_of c.in-While.test) (statements_of c.in-While.body.items) =
    ap statement_of c.in-While.is ∙ while_of c.in-While.test c.in-While.body in
    while_is (numbers_of c.args.numbers.now) c.expression-in-While.new.names c.statements-in-While.new.names c.in_ok-test-in-While.test c.in_ok-body-in-While.body
    (statement_of c.args.stmt.now) (expression_of c.in-While.test) (statements_of c.deref-in-While.result.now)
    c.in_ok-body-in-While.ensures.grew c.in_ok-test-in-While.ensures.ok c.in_ok-body-in-While.ensures.ok
    (is ∙ sym (λ i. tree.While (expression_of c.in-While.test) (statements_of (c.deref-in-While.ensures.value i))))

pub statements-statement-requires : goal.statements-statement-requires
statements-statement-requires t c =
    omega (arith, weight_of c.args.stmts.now c.loop-stmt.stmt-index c.stmt-item.result c.loop-stmt-test.true, ap (λ (s : Stmt). weight (statement_of s)) c.stmt-item.is)

pub statements-loop-stmt-preserved : goal.statements-loop-stmt-preserved
statements-loop-stmt-preserved t c =
    let pushed : c.push_reserved.new.self.items ≡ c.loop-stmt.steps.items ++ c.in_ok-step.step ∷ [] =
    c.push_reserved.ensures.items ∙ (λ i. c.reserve.ensures.items i ++ c.in_ok-step.step ∷ []) in
    record {
      grew = grew_twice c.args.names.now c.loop-stmt.names c.statement.new.names c.loop-stmt.invariant.grew c.in_ok-step.ensures.grew;
      done = pushed_statements (numbers_of c.args.numbers.now) c.loop-stmt.names c.statement.new.names c.loop-stmt.steps.items c.push_reserved.new.self.items c.in_ok-step.step
          c.args.stmts.now c.loop-stmt.stmt-index (c.loop-stmt.stmt-index + 1) c.stmt-item.result c.in_ok-step.ensures.grew pushed refl c.loop-stmt-test.true c.loop-stmt.invariant.done
          (subst (λ (s : Stmt). IsStatement (numbers_of c.args.numbers.now) c.statement.new.names c.in_ok-step.step (statement_of s)) c.stmt-item.is c.in_ok-step.ensures.ok);
    }

pub statements-returns-clause-ok : goal.statements-returns-clause-ok
statements-returns-clause-ok t c =
    let le : length c.args.stmts.now ≤ c.loop-stmt.stmt-index = omega arith in
    all_statements (numbers_of c.args.numbers.now) c.loop-stmt.names c.loop-stmt.steps.items c.args.stmts.now c.loop-stmt.stmt-index le c.loop-stmt.invariant.done
