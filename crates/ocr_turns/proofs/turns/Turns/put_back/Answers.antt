use Rattle.std.proofs.Common.{sym, ap, subst, ◌∙◌, arith, ◌<◌, ◌+◌, ◌∷◌, [], Some, None}
use Rattle.atomic_table.specs.Table.{rest}
use Rattle.ocr_turns_rule.specs.Contract.{Loose, Rests, SeenAs}
use Rattle.ocr_turns_rule.proofs.Clerks.{place_fits}
use Rattle.ocr_turns_rule.proofs.Numbered.{find_weighs}
use Rattle.ocr_turns_rule.proofs.Steps.{carried_loose}
use Rattle.ocr_turns_rule.proofs.Takes.{allows_fetch, allows_return, fetched}
use Rattle.ocr_turns.proofs.turns.Turns.put_back.Goals as goal

pub load-requires : goal.load-requires
load-requires g c =
    let m = g.M.Machine.meaning in let id = ap (λ x. x.0) c.self.view_is in let p = c.args.place in let me = c.args.seat.now.me in let table = c.self.inside.table.shared in
    let lt : p < table.table_id.slots = place_fits table.table_id table.key c.self.inside.limit c.self.inside.share p c.self.invariant (let is = ap (λ x. x.1.limit) c.self.view_is in let q = c.requires.place in omega arith) in (
      c.requires.table ∙ sym id,
      (let a = c.self.invariant.words in omega arith),
      allows_fetch m table.key table.table_id.slots c.args.seat.now.id me p lt c.requires.seat c.requires.hand.1 c.requires.hand.0
          (find_weighs p me.0.parts c.requires.keeps.2.kept c.requires.keeps.2.keeps),
    )

pub exchange-requires : goal.exchange-requires
exchange-requires g c =
    let id = ap (λ x. x.0) c.self.view_is in let old = c.load.ensures in
    let t = fetched c.self.inside.table.shared.table_id.slots c.args.place c.args.seat.now.me c.load.new.seat.me old.2 c.requires.hand.1 in
    (old.0 ∙ (c.requires.table ∙ sym id), (None, t.1 ∙ ap (λ l. (c.args.place, None) ∷ l) (sym (ap rest t.1))))

pub store-requires : goal.store-requires
store-requires g c =
    let m = g.M.Machine.meaning in let id = ap (λ x. x.0) c.self.view_is in let old = c.load.ensures in let ex = c.exchange.ensures in let p = c.args.place in let table = c.self.inside.table.shared in
    let t = fetched table.table_id.slots p c.args.seat.now.me c.load.new.seat.me old.2 c.requires.hand.1 in
    let lt : p < table.table_id.slots = place_fits table.table_id table.key c.self.inside.limit c.self.inside.share p c.self.invariant (let is = ap (λ x. x.1.limit) c.self.view_is in let q = c.requires.place in omega arith) in
    let view = ap (λ x. x.0) ex.3 ∙ t.0 in let key = sym (ap (λ x. x.1) c.self.view_is) in
    let x = c.requires.keeps.0 in
    let like : SeenAs m table.key c.args.seat.now.me.0 p x = subst (λ t. SeenAs m t c.args.seat.now.me.0 p x) key c.requires.keeps.2 in (
      ex.0 ∙ (old.0 ∙ (c.requires.table ∙ sym id)),
      (let a = c.self.invariant.words in omega arith),
      allows_return m table.key table.table_id.slots c.exchange.new.seat.id c.exchange.new.seat.me p lt
          (subst (λ v. 0 < v.root + v.seat) (sym view) c.requires.seat)
          x
          (ap (λ x. x.1) ex.3 ∙ (ap (λ l. (p, c.args.part) ∷ rest l) t.1 ∙ ap (λ o. (p, o) ∷ []) c.requires.keeps.1))
          (subst (λ v. SeenAs m table.key v p x) (sym view) (record { kept = like.kept; keeps = like.keeps; alike = like.alike }))
          (ap (λ v. v.carried) view)
          (ap (λ v. v.closed) view ∙ c.requires.open)
          (subst (λ v. Rests m table.key v p) (sym view) (subst (λ t. Rests m t c.args.seat.now.me.0 p) key c.requires.rests))
          (subst (λ v. Loose m table.key v p) (sym view) (carried_loose m table.key c.args.seat.now.me.0 p (Some p) (subst (λ t. Loose m t c.args.seat.now.me.0 p) key c.requires.loose))),
    )
