use Rattle.std.proofs.Common.{◌≡◌, ◌<◌, ◌++◌, [], ◌∷◌, length, ◌∙◌, ap, subst, arith}
use Rattle.std.specs.Prelude.{slice_get}
use Rattle.ocr_memory_model_rows.specs.Order.{IsNextRow}
use Rattle.ocr_memory_model_order.specs.Causes.{graph_of}
use Rattle.ocr_memory_model_order.specs.Makers.{satisfies, oldest}
use Rattle.ocr_memory_model_order.specs.Places.{places}
use Rattle.ocr_memory_model.specs.Keys.{some_place}
use Rattle.ocr_memory_model.proofs.Keeps.{first_is, first_low}
use Rattle.ocr_memory_model_order.proofs.Graphs.{graph_length}
use Rattle.ocr_memory_model.proofs.past.Past.join_first.Goals as goal

pub join-requires : goal.join-requires
join-requires c =
    let kept = c.requires.kept.2 in
    let first : c.in-Some.place.now ∷ [] ≡ oldest (places (satisfies c.args.event) c.requires.kept.1) = ap some_place c.in-Some.ensures.value ∙ ap (λ l. some_place (slice_get l 0)) (c.list_of.ensures ∙ kept.satisfactions c.args.event) ∙ first_is (places (satisfies c.args.event) c.requires.kept.1) in
    let low : c.in-Some.place.now < length c.requires.kept.1 = first_low c.requires.kept.1 c.args.event c.in-Some.place.now first in
    let n = kept.rows.count in let m = graph_length c.requires.kept.0 c.requires.kept.1 in omega (arith, low, n, m)

pub returns-in_ok-join-in-Some : goal.returns-in_ok-join-in-Some
returns-in_ok-join-in-Some c = λ s past causes kept next.
    subst (λ l. IsNextRow (graph_of s past) (l ++ causes) c.join.new.row)
    (ap some_place c.in-Some.ensures.value ∙ ap (λ l. some_place (slice_get l 0)) (c.list_of.ensures ∙ kept.satisfactions c.args.event) ∙ first_is (places (satisfies c.args.event) past))
    (c.in_ok-join-in-Some.ensures (graph_of s past) causes kept.rows next)
