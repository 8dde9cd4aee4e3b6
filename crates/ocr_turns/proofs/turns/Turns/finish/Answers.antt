use Rattle.std.proofs.Common.{sym, ap, subst, arith, ◌∙◌, ◌≡◌, ◌∷◌, map, length}
use Rattle.ocr_turns_rule.specs.Contract.{Finished}
use Rattle.ocr_turns_rule.specs.Sums.{weigh_all}
use Rattle.ocr_turns_rule.proofs.Splits.{finished}
use Rattle.ocr_turns_rule.proofs.Totals.{below_ones}
use Rattle.ocr_turns.proofs.turns.Turns.finish.Goals as goal

pub count_entries-entries-requires : goal.count_entries-entries-requires
count_entries-entries-requires g c =
    let m = g.M.Machine.meaning in let values = c.close_with-closed.ensures.values.2 in let me = c.root.inside.seat.me in let key = c.self.inside.table.shared.key in
    let view = sym (ap (λ x. x.view) c.root.view_is) in
    let all : Finished m key me.0 (me.0.log ∷ me.0.joined) = finished m key values.0 values.1.0 c.root.inside.seat.id me.0 values.1.1 (subst (λ v. v.root ≡ 1) view c.requires.root.0) (subst (λ v. v.out ≡ 0) view c.requires.root.1) in
    let logs = ap (map (λ l. l.items)) (c.as_slice.ensures.value ∙ c.in_ok-insert.ensures.items) ∙ (λ i. c.root.invariant.log_is i ∷ c.root.invariant.joined_are i) in
    let n = ap (weigh_all (λ _. 1)) logs in let o = all.once (λ _. 1) in let b = below_ones (length all.history) in let few = all.few in omega arith

pub returns : goal.returns
returns g c =
    let m = g.M.Machine.meaning in let values = c.close_with-closed.ensures.values.2 in let me = c.root.inside.seat.me in let key = c.self.inside.table.shared.key in
    let is = ap (λ x. x.view) c.root.view_is in let view = sym is in
    let all : Finished m key me.0 (me.0.log ∷ me.0.joined) = finished m key values.0 values.1.0 c.root.inside.seat.id me.0 values.1.1 (subst (λ v. v.root ≡ 1) view c.requires.root.0) (subst (λ v. v.out ≡ 0) view c.requires.root.1) in
    let logs = ap (map (λ l. l.items)) c.in_ok-insert.ensures.items ∙ (λ i. c.root.invariant.log_is i ∷ c.root.invariant.joined_are i) in
    let f : Finished m c.args.self.1 c.args.root.view (map (λ l. l.items) c.insert.new.self.items) = subst (λ (z : Type 0). z) (λ i. Finished m (ap (λ x. x.1) c.self.view_is i) (is i) (sym logs i)) all in
    (f, (let count = c.count_entries-entries.ensures in let slice = ap (λ l. weigh_all (λ _. 1) (map (λ x. x.items) l)) c.as_slice.ensures.value in let o = f.once (λ _. 1) in let b = below_ones (length f.history) in omega arith))
