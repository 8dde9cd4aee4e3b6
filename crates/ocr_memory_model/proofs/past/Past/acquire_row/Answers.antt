use Rattle.std.proofs.Common.{◌≡◌, ◌++◌, if◌then◌else◌, sym, ◌∙◌, ap, subst}
use Rattle.ocr_memory_model_rows.specs.Order.{IsNextRow}
use Rattle.ocr_memory_model_order.specs.Causes.{graph_of, last_of, ends, isolated_ends, ended_for}
use Rattle.ocr_memory_model_order.specs.Places.{places}
use Rattle.ocr_memory_model.proofs.Keeps.{next_swapped}
use Rattle.ocr_memory_model.proofs.past.Past.acquire_row.Goals as goal

pub returns-then-is_isolated : goal.returns-then-is_isolated
returns-then-is_isolated c = λ s past kept.
    let d = c.args.block in
    let all : ended_for s past d c.args.mode ≡ places (ends s d) past = ap (ended_for s past d) c.in-Some.is ∙ ap (λ b. if b then places (ends s d) past else places (isolated_ends s d) past) (sym c.is_isolated.ensures ∙ c.if-is_isolated.true) in
    subst (λ l. IsNextRow (graph_of s past) (last_of past c.args.edt ++ l) c.join.new.row) (sym all)
    (next_swapped (graph_of s past) (places (ends s d) past) (last_of past c.args.edt) c.join.new.row
    (c.in_ok-join.ensures (graph_of s past) (last_of past c.args.edt) (λ x. places (ends s x) past) kept.ended (c.in_ok-row.ensures s past kept)))

pub returns : goal.returns
returns c = λ s past kept.
    let d = c.args.block in
    let some : ended_for s past d c.args.mode ≡ places (isolated_ends s d) past = ap (ended_for s past d) c.in-Some.is ∙ ap (λ b. if b then places (ends s d) past else places (isolated_ends s d) past) (sym c.is_isolated.ensures ∙ c.if-is_isolated.false) in
    subst (λ l. IsNextRow (graph_of s past) (last_of past c.args.edt ++ l) c.join-2.new.row) (sym some)
    (next_swapped (graph_of s past) (places (isolated_ends s d) past) (last_of past c.args.edt) c.join-2.new.row
    (c.in_ok-join-2.ensures (graph_of s past) (last_of past c.args.edt) (λ x. places (isolated_ends s x) past) kept.isolated (c.in_ok-row.ensures s past kept)))
