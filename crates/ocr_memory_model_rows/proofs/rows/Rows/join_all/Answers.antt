use Rattle.std.proofs.Common.{◌++◌, arith, refl, subst}
use Rattle.ocr_memory_model_rows.specs.Order.{IsNextRow}
use Rattle.ocr_memory_model_rows.proofs.Joins.{next_taken, taken_all}
use Rattle.ocr_memory_model_rows.proofs.rows.Rows.join_all.Goals as goal

pub loop-place-preserved : goal.loop-place-preserved
loop-place-preserved c = λ g causes order next.
    next_taken g causes c.args.places.now c.join.new.row c.loop-place.place-index _ c.loop-place-test.true refl (c.in_ok-join.ensures g _ order (c.loop-place.invariant g causes order next))

pub returns : goal.returns
returns c = λ g causes order next.
    subst (λ l. IsNextRow g (l ++ causes) c.loop-place.row) (taken_all c.args.places.now c.loop-place.place-index (omega (arith, c.loop-place-test.false))) (c.loop-place.invariant g causes order next)
