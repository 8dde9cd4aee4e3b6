use Rattle.std.proofs.Common.{sym, ap, subst, arith, ◌∙◌, ◌≡◌, ◌≤◌, ◌<◌, ◌+◌, ◌-◌, ◌++◌, length, vec_capacity, refl}
use Rattle.ocr_base.specs.Mail.{without, named}
use Rattle.ocr_turns_rule.specs.Rule.{OPEN}
use Rattle.ocr_turns_rule.specs.Steps.{deed, logged}
use Rattle.ocr_turns_rule.specs.Sums.{weigh, one_at, as_some, replace_all}
use Rattle.ocr_turns_rule.proofs.Clerks.{true_same, shut_true, logged_true, tried_open, tried_shut, tried_tells}
use Rattle.ocr_turns_rule.proofs.Numbered.{weigh_keys, length_replace_all}
use Rattle.ocr_turns_rule.proofs.Totals.{weigh_at}
use Rattle.ocr_turns_rule.specs.Units.{units}
use Rattle.ocr_turns_rule.proofs.Units.{logged_units}
use Rattle.ocr_turns.proofs.turns.Turns.commit.Goals as goal

pub invariant_of-clerk : goal.invariant_of-clerk
invariant_of-clerk g c =
    let m = g.M.Machine.meaning in let me = c.clerk.inside.seat.me in let n = c.step_commit-found.result in
    let d = deed m c.args.self.now.1.limit me.0 c.args.entry c.args.change.parts.items c.args.change.messages.items in
    let past : OPEN ≤ n = omega (arith, c.if-found-ge-ENDED.true) in
    true_same (sym (tried_shut m (logged me.0 n d) me c.step_commit-found.new.seat.me n c.step_commit-found.ensures.told past)) refl refl refl refl refl refl refl (shut_true c.clerk.invariant n past)

pub put_all-requires : goal.put_all-requires
put_all-requires g c =
    let view = ap (λ x. x.view) c.clerk.view_is in
    let may = c.requires.may (sym (ap (λ v. v.closed) view) ∙ (sym c.clerk.invariant.closed_is ∙ c.in_default.is)) in
    λ k p a there.
    let one = weigh_at c.args.change.parts.items k p a there in let le = (may.keeps p).1 in
    let same = weigh_keys (one_at p) c.clerk.inside.parts.items c.clerk.inside.seat.me.0.parts c.clerk.invariant.keeps in
    let is = ap (λ v. weigh (one_at p) v.parts) view in omega arith

pub overflow_add-clerk : goal.overflow_add-clerk
overflow_add-clerk g c =
    let view = ap (λ x. x.view) c.clerk.view_is in
    let may = c.requires.may (sym (ap (λ v. v.closed) view) ∙ (sym c.clerk.invariant.closed_is ∙ c.in_default.is)) in
    let share = may.share in let same = ap (λ v. v.weight) view in let own = c.clerk.invariant.weight_is in let w = c.weight-weight.ensures in
    let loads = c.self.invariant.loads in let key = ap (λ x. x.1.share) c.self.view_is in omega arith

pub invariant_of-clerk-2 : goal.invariant_of-clerk-2
invariant_of-clerk-2 g c =
    let m = g.M.Machine.meaning in let me = c.clerk.inside.seat.me in let n = c.step_commit-found.result in
    let d = deed m c.args.self.now.1.limit me.0 c.args.entry c.args.change.parts.items c.args.change.messages.items in
    let under : n < OPEN = omega (arith, c.if-found-ge-ENDED.false) in
    let view = ap (λ x. x.view) c.clerk.view_is in
    let may = c.requires.may (sym (ap (λ v. v.closed) view) ∙ (sym c.clerk.invariant.closed_is ∙ c.in_default.is)) in
    let same_units = subst (λ v. units (logged v n (deed m c.args.self.now.1.limit v c.args.entry c.args.change.parts.items c.args.change.messages.items)) ≡ units v) (sym view)
    (logged_units c.args.clerk.now.view n (deed m c.args.self.now.1.limit c.args.clerk.now.view c.args.entry c.args.change.parts.items c.args.change.messages.items) may.owes refl may.spares) in
    true_same (sym (tried_open m (logged me.0 n d) me c.step_commit-found.new.seat.me n c.step_commit-found.ensures.told under)) (sym c.push_reserved.ensures.items) refl (sym c.put_all.ensures.parts)
    (sym (c.owe_anew.ensures.owed ∙ ap (λ o. without o c.clerk.inside.owed.items ++ named n 0 c.args.change.messages.items) c.delivers-delivered.ensures))
    (ap (λ w. c.clerk.inside.weight + w) (sym c.weight-weight.ensures)) refl refl (logged_true c.clerk.invariant n d same_units (tried_tells m (logged me.0 n d) me c.step_commit-found.new.seat.me n c.step_commit-found.ensures.told under).1)

pub returns : goal.returns
returns g c =
    let m = g.M.Machine.meaning in let is = c.clerk.view_is in let me = c.clerk.inside.seat.me in let n = c.step_commit-found.result in let limit = c.args.self.now.1.limit in
    let e = c.args.entry in let ps = c.args.change.parts.items in let ms = c.args.change.messages.items in let hand = c.clerk.inside.parts.items in let log = c.clerk.inside.log.items in
    let d = deed m limit me.0 e ps ms in let old = c.step_commit-found.ensures in
    let under : n < OPEN = omega (arith, c.if-found-ge-ENDED.false) in
    let room : c.push_reserved.new.self.room + 1 ≡ c.args.clerk.now.room =
    (let less = c.push_reserved.ensures.room in let was = ap (λ x. x.room) is in omega arith) in
    let spare : vec_capacity c.put_all.new.hand - length c.put_all.new.hand.items ≡ c.args.clerk.now.spare =
    (let cap = c.put_all.ensures.room in let len = ap length c.put_all.ensures.parts in let same = length_replace_all (as_some ps) hand in let was = ap (λ x. x.spare) is in omega arith) in (
      sym (ap (λ x. x.view.closed) is) ∙ (sym c.clerk.invariant.closed_is ∙ c.in_default.is),
      under,
      old.table.0 ∙ ap (λ x. x.table) is,
      ap (λ z. z.0) (tried_open m (logged me.0 n d) me c.step_commit-found.new.seat.me n old.told under) ∙ ap (λ x. logged x.view n (deed m limit x.view e ps ms)) is,
      c.put_all.ensures.parts ∙ ap (λ x. replace_all (as_some ps) x.parts) is,
      room,
      spare,
      (tried_tells m (logged me.0 n d) me c.step_commit-found.new.seat.me n old.told under).0,
    )
