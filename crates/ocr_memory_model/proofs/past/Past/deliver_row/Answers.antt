use Rattle.std.proofs.Common.{◌≡◌, [], reverse, ◌∙◌, ap, subst, arith}
use Rattle.std.specs.List.{zip}
use Rattle.ocr_machine_history.specs.History.{history_of}
use Rattle.ocr_machine_parts.specs.Parts.{Parts}
use Rattle.ocr_memory_model_rows.specs.Order.{IsNextRow}
use Rattle.ocr_memory_model_order.specs.Causes.{graph_of}
use Rattle.ocr_memory_model_order.specs.Makers.{satisfies, matched, matches_of}
use Rattle.ocr_memory_model_order.specs.Places.{places}
use Rattle.ocr_memory_model_order.proofs.Graphs.{graph_length}
use Rattle.ocr_memory_model.proofs.Entries.{history_length}
use Rattle.ocr_memory_model.proofs.Keeps.{matched_low, made_by_all}
use Rattle.ocr_memory_model.proofs.past.Past.deliver_row.Goals as goal

pub join-requires : goal.join-requires
join-requires c =
    let n = c.requires.kept.1.rows.count in
    let m = graph_length c.requires.kept.0 (history_of c.args.entries.now) in
    let l = history_length c.args.entries.now in
    let low = c.requires.place in omega (arith, n, m, l, low)

pub join_source-requires-clause-kept : goal.join_source-requires-clause-kept
join_source-requires-clause-kept c = (c.requires.kept.0, history_of c.args.entries.now, c.requires.kept.1)

pub join_source-requires-clause-matched : goal.join_source-requires-clause-matched
join_source-requires-clause-matched c =
    let kept = c.requires.kept.1 in
    let n = kept.rows.count in
    let m = graph_length c.requires.kept.0 (history_of c.args.entries.now) in
    matched_low (history_of c.args.entries.now) c.args.message.now c.source_at-source.result _ c.as_slice.result.now _ _ (c.as_slice.ensures.value ∙ c.in_ok-found.ensures)
    (c.list_of-satisfactions.ensures ∙ kept.satisfactions c.source_at-source.result)
    (omega (arith, n, m))

pub returns : goal.returns
returns c = λ s of kept.
    let past = history_of c.args.entries.now in
    let m = c.args.message.now in
    let source = c.source_at-source.result in
    let matches : c.as_slice.result.now ≡ matches_of past m source = c.as_slice.ensures.value ∙ c.in_ok-found.ensures
    ∙ ap (λ l. matched m (zip l c.links_of.result.now)) (c.list_of-satisfactions.ensures ∙ kept.satisfactions source)
    ∙ ap (λ l. matched m (zip (reverse (places (satisfies source) past)) l)) (c.links_of.ensures ∙ kept.links source) in
    subst (λ l. IsNextRow (graph_of s past) l c.join.new.row)
    (made_by_all s past m source c.as_slice.result.now _ c.source_at-source.ensures matches (ap (λ (f : Parts). f.face source) of.parts))
    (c.in_ok-join.ensures (graph_of s past) _ kept.rows (c.in_ok-join_source.ensures s past [] kept (c.in_ok-row.ensures (graph_of s past) kept.rows)))
