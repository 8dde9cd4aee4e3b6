use Rattle.std.proofs.Common.{◌++◌, ◌∙◌, subst, arith}
use Rattle.ocr_memory_model_rows.specs.Order.{IsNextRow}
use Rattle.ocr_memory_model_order.specs.Causes.{graph_of, last_of, starting}
use Rattle.ocr_memory_model_order.specs.Places.{places}
use Rattle.ocr_memory_model.proofs.Keeps.{starting_low, next_turned}
use Rattle.ocr_memory_model_order.proofs.Graphs.{graph_length}
use Rattle.ocr_memory_model.proofs.past.Past.start_row.Goals as goal

pub join_all-requires : goal.join_all-requires
join_all-requires c =
    let kept = c.requires.kept.2 in
    starting_low c.requires.kept.1 c.args.edt _ c.list_of.result.now (c.list_of.ensures ∙ kept.starting c.args.edt)
    (let n = kept.rows.count in let m = graph_length c.requires.kept.0 c.requires.kept.1 in omega (arith, n, m))

pub returns : goal.returns
returns c = λ s past kept.
    next_turned (graph_of s past) (places (starting c.args.edt) past) (last_of past c.args.edt) c.join_all.new.row
    (subst (λ l. IsNextRow (graph_of s past) (l ++ last_of past c.args.edt) c.join_all.new.row) (c.list_of.ensures ∙ kept.starting c.args.edt)
    (c.in_ok-join_all.ensures (graph_of s past) (last_of past c.args.edt) kept.rows (c.in_ok-row.ensures s past kept)))
