use Rattle.std.proofs.Common.{sym, ap, ◌∙◌, ◌+◌, refl}
use Rattle.ocr_turns_rule.proofs.Clerks.{gave_true, true_same, gave}
use Rattle.ocr_turns_rule.specs.Steps.{without_part}
use Rattle.ocr_turns_rule.specs.Sums.{remove_at}
use Rattle.ocr_turns.proofs.turns.Turns.give_among.Goals as goal

pub invariant_of-clerk : goal.invariant_of-clerk
invariant_of-clerk g c =
    let given = c.put_back.ensures.given in let rest = c.clerk.invariant.rests.0 in
    true_same ((λ i. (without_part c.clerk.inside.seat.me.0 c.args.place, rest i)) ∙ sym given) refl refl (sym c.remove_part-part.ensures.removed) refl refl refl refl (gave_true c.clerk.invariant c.args.place)

pub returns : goal.returns
returns g c = gave c.args.clerk.now _ c.args.place c.requires.open
    (c.put_back.ensures.table.0 ∙ ap (λ x. x.table) c.clerk.view_is)
    (ap (λ m. m.0) c.put_back.ensures.given ∙ ap (λ x. without_part x.view c.args.place) c.clerk.view_is)
    (c.remove_part-part.ensures.removed ∙ ap (λ x. remove_at c.args.place x.parts) c.clerk.view_is)
    (ap (λ x. x.room) c.clerk.view_is)
    (c.remove_part-part.ensures.room ∙ ap (λ x. x.spare + 1) c.clerk.view_is)
    (ap (λ x. x.space) c.clerk.view_is)
