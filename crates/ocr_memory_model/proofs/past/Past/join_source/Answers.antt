use Rattle.std.proofs.Common.{◌++◌, sym, ◌∙◌, ap, subst}
use Rattle.ocr_memory_model_rows.specs.Order.{IsNextRow}
use Rattle.ocr_memory_model_order.specs.Causes.{graph_of}
use Rattle.ocr_memory_model.specs.SetOff.{set_off_on}
use Rattle.ocr_memory_model.proofs.Keeps.{face_told}
use Rattle.ocr_memory_model.proofs.past.Past.join_source.Goals as goal

pub returns-in_ok-join_set_off-in-Some : goal.returns-in_ok-join_set_off-in-Some
returns-in_ok-join_set_off-in-Some c = λ s past causes kept next.
    subst (λ l. IsNextRow (graph_of s past) (l ++ causes) c.join_set_off.new.row)
    (sym (ap (set_off_on past c.args.source c.args.matches.now) c.in-Some.ensures.some ∙ face_told past c.args.source c.args.matches.now c.in-Some.face.now))
    (c.in_ok-join_set_off-in-Some.ensures s past causes kept next)

pub returns-in-None : goal.returns-in-None
returns-in-None c = λ s past causes kept next.
    subst (λ l. IsNextRow (graph_of s past) (l ++ causes) c.args.row.now)
    (sym (ap (set_off_on past c.args.source c.args.matches.now) c.in-None.ensures.none)) next
