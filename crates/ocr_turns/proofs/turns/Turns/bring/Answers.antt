use Rattle.std.proofs.Common.{sym, ap, subst, ◌∙◌, arith, ◌<◌, ◌≤◌, ◌+◌, ◌∷◌, Some, None}
use Rattle.atomic_table.specs.Table.{rest}
use Rattle.ocr_turns_rule.specs.Steps.{settles}
use Rattle.ocr_turns_rule.specs.Sums.{weigh, one_at}
use Rattle.ocr_turns_rule.proofs.Takes.{allows_settle}
use Rattle.ocr_turns_rule.proofs.Clerks.{place_fits}
use Rattle.ocr_turns.proofs.turns.Turns.bring.Goals as goal

pub overflow_add-place : goal.overflow_add-place
overflow_add-place g c = let lim = c.self.invariant.limits.1 in let is = ap (λ x. x.1.limit) c.self.view_is in let p = c.requires.place in omega arith

pub exchange-held-requires : goal.exchange-held-requires
exchange-held-requires g c =
    let id = ap (λ x. x.0) c.self.view_is in let turn = c.requires.turn in
    (c.requires.table ∙ sym id, (Some turn.0, turn.1 ∙ ap (λ l. (c.args.place, Some turn.0) ∷ l) (sym (ap rest turn.1))))

pub load-requires : goal.load-requires
load-requires g c =
    let m = g.M.Machine.meaning in let id = ap (λ x. x.0) c.self.view_is in let ex = c.exchange-held.ensures in let p = c.args.place in let table = c.self.inside.table.shared in let turn = c.requires.turn in
    let lt : p < table.table_id.slots = place_fits table.table_id table.key c.self.inside.limit c.self.inside.share p c.self.invariant (let is = ap (λ x. x.1.limit) c.self.view_is in let q = c.requires.place in omega arith) in
    let view = ap (λ x. x.0) ex.3 in (
      ex.0 ∙ (c.requires.table ∙ sym id),
      (let a = c.self.invariant.words in omega arith),
      allows_settle m table.key table.table_id.slots c.exchange-held.new.seat.id c.exchange-held.new.seat.me p lt
          (subst (λ v. 0 < v.root + v.seat) (sym view) c.requires.seat)
          (ap (λ x. x.1) ex.3 ∙ ap (λ l. (p, None) ∷ rest l) turn.1)
          (ap (λ v. v.carried) view ∙ turn.2)
          (subst (λ v. 1 ≤ weigh (one_at p) v.parts) (sym view) turn.3),
    )

pub returns-clause-part : goal.returns-clause-part
returns-clause-part g c =
    let ex = c.exchange-held.ensures in let p = c.args.place in let hand = c.args.seat.now.me.1 in
    (c.in-Some.part, ex.2 ∙ ap (λ h. (p, h) ∷ rest hand) c.in-Some.is, subst (λ y. settles y c.load.new.seat.me) ex.3 c.load.ensures.2, c.push_reserved.ensures.items)
