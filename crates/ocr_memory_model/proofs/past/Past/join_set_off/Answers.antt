use Rattle.std.proofs.Common.{◌++◌, sym, ◌∙◌, ap, subst}
use Rattle.ocr_machine_parts.specs.declared.part.Part.TheVariants as part
use Rattle.ocr_memory_model_rows.specs.Order.{IsNextRow}
use Rattle.ocr_memory_model_order.specs.Causes.{graph_of}
use Rattle.ocr_memory_model_order.specs.Makers.{satisfies, leaves}
use Rattle.ocr_memory_model.specs.SetOff.{set_off_on}
use Rattle.ocr_memory_model_order.specs.Places.{places}
use Rattle.ocr_memory_model.proofs.past.Past.join_set_off.Goals as goal

pub returns-in_ok-join_first-in-Plain : goal.returns-in_ok-join_first-in-Plain
returns-in_ok-join_first-in-Plain c = λ s past causes kept next.
    subst (λ x. IsNextRow (graph_of s past) (set_off_on past c.args.source c.args.matches.now x ++ causes) c.join_first.new.row)
    (sym (c.in-Event.is ∙ ap part.Event (sym c.get.ensures ∙ c.in-Plain.is)))
    (c.in_ok-join_first-in-Plain.ensures s past causes kept next)

pub returns-in_ok-join-in-Latch : goal.returns-in_ok-join-in-Latch
returns-in_ok-join-in-Latch c = λ s past causes kept next.
    subst (λ x. IsNextRow (graph_of s past) (set_off_on past c.args.source c.args.matches.now x ++ causes) c.join.new.row)
    (sym (c.in-Event.is ∙ ap part.Event (sym c.get.ensures ∙ c.in-Latch.is)))
    (c.in_ok-join-in-Latch.ensures (graph_of s past) causes (λ x. places (satisfies x) past) kept.satisfied next)

pub returns-in_ok-join_all-in-Channel : goal.returns-in_ok-join_all-in-Channel
returns-in_ok-join_all-in-Channel c = λ s past causes kept next.
    subst (λ x. IsNextRow (graph_of s past) (set_off_on past c.args.source c.args.matches.now x ++ causes) c.join_all.new.row)
    (sym (c.in-Event.is ∙ ap part.Event (sym c.get.ensures ∙ c.in-Channel.is)))
    (c.in_ok-join_all-in-Channel.ensures (graph_of s past) causes kept.rows next)

pub returns-in_ok-join-in-Scope : goal.returns-in_ok-join-in-Scope
returns-in_ok-join-in-Scope c = λ s past causes kept next.
    subst (λ x. IsNextRow (graph_of s past) (set_off_on past c.args.source c.args.matches.now x ++ causes) c.join-in-Scope.new.row)
    (sym c.in-Scope.is)
    (c.in_ok-join-in-Scope.ensures (graph_of s past) causes (λ x. places (leaves x) past) kept.left next)
