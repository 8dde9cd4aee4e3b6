use Rattle.std.proofs.Common.{◌<◌, [], ◌∷◌, length, arith, ◌∙◌, ap}
use Rattle.ocr_memory_model_rows.specs.Rows.{has}
use Rattle.ocr_memory_model_rows.proofs.Joins.{next_joined, place_bundle, place_low}
use Rattle.ocr_memory_model_rows.proofs.rows.Rows.join.Goals as goal

pub returns : goal.returns
returns c = λ g causes order next.
    let below : c.args.place < length g = (let n = order.count in omega (arith, n)) in
    next_joined g causes (c.args.place ∷ []) c.args.row.now _ c.row.result.now next
    (place_low g c.args.place c.row.result.now below (ap length c.row.ensures ∙ order.room c.args.place below))
    (place_bundle g c.args.place c.row.result.now (λ a. ap (λ r. has r a) c.row.ensures ∙ order.is a c.args.place below))
    c.in_ok-take_in.ensures.len c.in_ok-take_in.ensures.most c.in_ok-take_in.ensures.has
