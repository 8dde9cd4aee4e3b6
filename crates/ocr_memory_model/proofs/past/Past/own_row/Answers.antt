use Rattle.std.proofs.Common.{◌<◌, [], length, ◌∙◌, ap, subst, arith}
use Rattle.ocr_memory_model_rows.specs.Order.{IsNextRow}
use Rattle.ocr_memory_model_order.specs.Causes.{graph_of}
use Rattle.ocr_memory_model.specs.Keys.{some_place}
use Rattle.ocr_memory_model.proofs.Keeps.{last_low}
use Rattle.ocr_memory_model_order.proofs.Graphs.{graph_length}
use Rattle.ocr_memory_model.proofs.past.Past.own_row.Goals as goal

pub join-requires : goal.join-requires
join-requires c =
    let kept = c.requires.kept.2 in
    let low : c.in-Some.place.now < length c.requires.kept.1 = last_low c.requires.kept.1 c.args.edt c.in-Some.place.now (ap some_place c.in-Some.ensures.value ∙ kept.last c.args.edt) in
    let n = kept.rows.count in let m = graph_length c.requires.kept.0 c.requires.kept.1 in omega (arith, low, n, m)

pub returns-in_ok-join-in-Some : goal.returns-in_ok-join-in-Some
returns-in_ok-join-in-Some c = λ s past kept.
    subst (λ l. IsNextRow (graph_of s past) l c.join.new.row) (ap some_place c.in-Some.ensures.value ∙ kept.last c.args.edt) (c.in_ok-join-in-Some.ensures (graph_of s past) [] kept.rows (c.in_ok-row.ensures (graph_of s past) kept.rows))
