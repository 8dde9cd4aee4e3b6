use Rattle.std.proofs.Common.{◌≡◌, ◌∙◌, List, ◌∷◌, ◌++◌, [], ap, sym}
use Rattle.ocr_program_tree.specs.Tree as tree
use Rattle.ocr_program_tree.specs.Argument.{plain_of}
use Rattle.ocr_program_tree.specs.View.{expression_of, members_of, output_of, arguments_of}
use Rattle.ocr_program_tree.specs.declared.argument.Argument.{Argument}
use Rattle.ocr_program_tree.proofs.Rows.{creation_view}
use Rattle.ocr_program_tree.proofs.tree.Invoke.arguments.Goals as goal

pub returns-in_default-clause-same : goal.returns-in_default-clause-same
returns-in_default-clause-same c =
    let e = c.in-EdtCreate in
    ap plain_of c.in_ok-arguments-in-EdtCreate.ensures.items
    ∙ (λ i. tree.value (expression_of (c.deref-in-EdtCreate.ensures i)) (tree.value (expression_of (c.deref-in-EdtCreate-2.ensures i))
    (tree.list (members_of (c.deref-in-EdtCreate-3.ensures.value i)) (tree.value (expression_of (c.deref-in-EdtCreate-4.ensures i))
    (tree.list (members_of (c.deref-in-EdtCreate-5.ensures.value i)) (tree.value (expression_of (c.deref-in-EdtCreate-6.ensures i))
    (output_of (sym c.in_default.is i))))))))
    ∙ sym (ap arguments_of e.is ∙ creation_view e.template e.paramc e.params e.depc e.deps e.flags e.output)

grown : (xs ys zs : List Argument) (a : Argument) → xs ≡ ys → zs ≡ xs ++ (a ∷ []) → zs ≡ ys ++ (a ∷ [])
grown xs ys zs a e f = f ∙ ap (λ (l : List Argument). l ++ (a ∷ [])) e

pub returns-in_ok-push-in-EdtCreate-clause-same : goal.returns-in_ok-push-in-EdtCreate-clause-same
returns-in_ok-push-in-EdtCreate-clause-same c =
    let e = c.in-EdtCreate in
    ap plain_of (grown _ _ _ _ c.in_ok-arguments-in-EdtCreate.ensures.items c.in_ok-push-in-EdtCreate.ensures.items)
    ∙ (λ i. tree.value (expression_of (c.deref-in-EdtCreate.ensures i)) (tree.value (expression_of (c.deref-in-EdtCreate-2.ensures i))
    (tree.list (members_of (c.deref-in-EdtCreate-3.ensures.value i)) (tree.value (expression_of (c.deref-in-EdtCreate-4.ensures i))
    (tree.list (members_of (c.deref-in-EdtCreate-5.ensures.value i)) (tree.value (expression_of (c.deref-in-EdtCreate-6.ensures i))
    (output_of (sym c.in-Some.is i))))))))
    ∙ sym (ap arguments_of e.is ∙ creation_view e.template e.paramc e.params e.depc e.deps e.flags e.output)
