use Rattle.std.proofs.Common.{◌≡◌, ◌<◌, ◌-◌, ◌∙◌, ℕ, List, ap, sym, subst, arith}
use Rattle.ocr_program_tree.specs.Tree as tree
use Rattle.ocr_program_tree.specs.Tree.{Expression}
use Rattle.ocr_body_code.specs.Code.{expression_at}
use Rattle.ocr_body_code.specs.declared.code.ExprCode.{ExprCode}
use Rattle.ocr_body_steps.specs.Local.{frame_of, value_in}
use Rattle.ocr_body_steps.specs.Plain.{Leaves}
use Rattle.ocr_body_steps.proofs.Operands.{unary_leaves, binary_leaves}
use Rattle.ocr_body_steps.proofs.plain.+plain.Goals as goal

pub deep-returns-in-Unary-clause-found : goal.deep-returns-in-Unary-clause-found
deep-returns-in-Unary-clause-found t c = λ some.
    let names = c.args.frame.now.names.now in
    let f = frame_of c.args.frame.now in
    let code = c.args.local.now.code in
    let variables : List ℕ → ℕ = λ y. value_in names c.args.local.now.values.items y in
    let e : Expression = expression_at names c.deref.result.now in
    let is : expression_at names c.args.expr.now ≡ tree.Unary c.in-Unary.op e =
    ap (expression_at names) c.in-Unary.is ∙ ap (λ (d : ExprCode). tree.Unary c.in-Unary.op (expression_at names d)) (sym c.deref.ensures) in
    subst (λ (d : Expression). Leaves f d code variables c.args.fuel c.apply.result c.operand-x.result.left) (sym is)
    (unary_leaves f c.in-Unary.op e code variables c.args.fuel (c.args.fuel - 1) c.operand-x.result.value c.apply.result c.operand-x.result.left
    (omega (arith, c.if-fuel-eq0.false)) (c.operand-x.ensures.found some) c.apply.ensures)

pub deep-returns-in-Ok-clause-found : goal.deep-returns-in-Ok-clause-found
deep-returns-in-Ok-clause-found t c = λ some.
    let names = c.args.frame.now.names.now in
    let f = frame_of c.args.frame.now in
    let code = c.args.local.now.code in
    let variables : List ℕ → ℕ = λ y. value_in names c.args.local.now.values.items y in
    let a : Expression = expression_at names c.deref-in-Binary-2.result.now in
    let b : Expression = expression_at names c.deref-in-Binary-3.result.now in
    let is : expression_at names c.args.expr.now ≡ tree.Binary c.in-Binary.op a b =
    ap (expression_at names) c.in-Binary.is ∙ sym (λ i. tree.Binary c.in-Binary.op (expression_at names (c.deref-in-Binary-2.ensures i)) (expression_at names (c.deref-in-Binary-3.ensures i))) in
    let found : c.operand-x-in-Binary.result.left < 18446744073709551615 = omega (arith, c.if-x.false, c.operand-x-in-Binary.type_inv) in
    subst (λ (d : Expression). Leaves f d code variables c.args.fuel c.in-Ok.value c.operand-y.result.left) (sym is)
    (binary_leaves f c.in-Binary.op a b code variables c.args.fuel (c.args.fuel - 1) c.operand-x-in-Binary.result.value c.operand-x-in-Binary.result.left c.operand-y.result.value c.in-Ok.value c.operand-y.result.left
    (omega (arith, c.if-fuel-eq0.false)) (c.operand-x-in-Binary.ensures.found found) (c.operand-y.ensures.found some) c.in-Ok.ensures.ok)
