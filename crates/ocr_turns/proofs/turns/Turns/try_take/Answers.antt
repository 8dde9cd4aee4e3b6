use Rattle.std.proofs.Common.{sym, ap, subst, ◌∙◌, arith, ◌<◌, ◌≤◌, ◌+◌, ◌∷◌, Some, None, refl}
use Rattle.atomic_table.specs.Table.{rest}
use Rattle.ocr_turns_rule.specs.Sums.{weigh, one_at}
use Rattle.ocr_turns_rule.proofs.Takes.{allows_take, kept_last, taken_home, took}
use Rattle.ocr_turns_rule.proofs.Clerks.{place_fits}
use Rattle.ocr_turns.proofs.turns.Turns.try_take.Goals as goal

pub overflow_add-place : goal.overflow_add-place
overflow_add-place g c = let lim = c.self.invariant.limits.1 in let is = ap (λ x. x.1.limit) c.self.view_is in let p = c.requires.place in omega arith

pub compare_exchange-found-requires : goal.compare_exchange-found-requires
compare_exchange-found-requires g c =
    let m = g.M.Machine.meaning in let id = ap (λ x. x.0) c.self.view_is in let p = c.args.place in let table = c.self.inside.table.shared in
    let lt : p < table.table_id.slots = place_fits table.table_id table.key c.self.inside.limit c.self.inside.share p c.self.invariant (let is = ap (λ x. x.1.limit) c.self.view_is in let q = c.requires.place in omega arith) in (
      c.requires.table ∙ sym id,
      (let a = c.self.invariant.words in omega arith),
      allows_take m table.key table.table_id.slots c.args.seat.now.id c.args.seat.now.me p lt c.requires.seat c.requires.hand.1 c.requires.hand.0,
    )

pub bring-requires-clause-table : goal.bring-requires-clause-table
bring-requires-clause-table g c = c.compare_exchange-found.ensures.0 ∙ c.requires.table

pub bring-requires-clause-seat : goal.bring-requires-clause-seat
bring-requires-clause-seat g c =
    let old = c.compare_exchange-found.ensures in
    let t = took g.M.Machine.meaning c.self.inside.table.shared.table_id.slots c.args.place c.args.seat.now.me c.compare_exchange-found.new.seat.me c.compare_exchange-found.result old.2 c.if-found-ne0.false c.requires.hand.1 in
    subst (λ v. 0 < v.root + v.seat) (sym t.1) c.requires.seat

pub bring-requires-clause-turn : goal.bring-requires-clause-turn
bring-requires-clause-turn g c =
    let old = c.compare_exchange-found.ensures in let p = c.args.place in
    let t = took g.M.Machine.meaning c.self.inside.table.shared.table_id.slots p c.args.seat.now.me c.compare_exchange-found.new.seat.me c.compare_exchange-found.result old.2 c.if-found-ne0.false c.requires.hand.1 in
    (t.0, t.2, ap (λ v. v.carried) t.1, subst (λ v. 1 ≤ weigh (one_at p) v.parts) (sym t.1) (kept_last c.args.seat.now.me.0.parts p t.0))

pub returns-clause-free : goal.returns-clause-free
returns-clause-free g c = λ _.
    let m = g.M.Machine.meaning in let me = c.args.seat.now.me in let p = c.args.place in let w = c.compare_exchange-found.new.seat.me in
    let t = took m c.self.inside.table.shared.table_id.slots p me w c.compare_exchange-found.result c.compare_exchange-found.ensures.2 c.if-found-ne0.false c.requires.hand.1 in
    let part = c.bring.ensures.part in
    let home = taken_home m p me w (w.0, (p, None) ∷ rest w.1) c.bring.new.seat.me (Some part.0) part.0 c.requires.hand.0 t part.1 refl part.2 refl in
    (part.0, home.0, home.1, part.3)
