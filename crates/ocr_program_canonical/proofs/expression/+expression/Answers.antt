use Rattle.std.proofs.Common.{◌∙◌, ◌++◌, ap, arith}
use Rattle.ocr_program_tree.proofs.Rows.{list_within}
use Rattle.ocr_program_tree.specs.Tree.{Arguments}
use Rattle.ocr_program_tree.specs.declared.tree.Invoke.{size-Invoke}
use Rattle.ocr_program_canonical.specs.Canonical.{arguments_text}
use Rattle.ocr_program_canonical.proofs.Arguments.{all_written}
use Rattle.ocr_program_canonical.proofs.expression.+expression.Goals as goal

pub arguments-members-requires : goal.arguments-members-requires
arguments-members-requires t c =
    let smaller = list_within (size-Invoke c.args.call.now) c.in_ok-list.list.items c.loop-place.place c.index.result.now c.in-List.values
    c.in_ok-list.ensures.within (omega (arith, c.loop-place-test.true, c.len-place-end.ensures)) c.index.ensures c.in-List.is in
    (omega (arith, smaller, c.decreases), tt {0})

pub arguments-returns : goal.arguments-returns
arguments-returns t c =
    all_written c.loop-place.place c.in_ok-list.list.items c.loop-place.text.items _ (omega (arith, c.loop-place-test.false, c.len-place-end.ensures)) c.loop-place.invariant
    ∙ ap (λ (xs : Arguments). c.args.text.now.items ++ arguments_text xs) c.in_ok-list.ensures.same
