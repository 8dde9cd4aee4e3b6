use Rattle.std.proofs.Common.{sym, ap, subst, arith, ◌∙◌, ◌≡◌, ◌≤◌, ◌<◌, ◌+◌, ◌++◌, refl}
use Rattle.ocr_base.specs.Mail.{without, named}
use Rattle.ocr_turns_rule.specs.Contract.{Known, MayCommit}
use Rattle.ocr_turns_rule.specs.Rule.{OPEN}
use Rattle.ocr_turns_rule.specs.Steps.{deed, logged}
use Rattle.ocr_turns_rule.specs.Sums.{as_some, replace_all}
use Rattle.ocr_turns_rule.proofs.Clerks.{true_same, shut_true, logged_true, tried_open, tried_shut, tried_tells}
use Rattle.ocr_turns_rule.specs.Units.{units}
use Rattle.ocr_turns_rule.proofs.Units.{logged_units}
use Rattle.ocr_turns.specs.Hand.{at_hand}
use Rattle.ocr_turns.proofs.turns.Turns.commit_at_hand.Goals as goal

pub invariant_of-clerk : goal.invariant_of-clerk
invariant_of-clerk g c =
    let m = g.M.Machine.meaning in let me = c.clerk.inside.seat.me in let n = c.step_at_hand-found.result in
    let ps = at_hand c.clerk.inside.parts.items in let ms = c.args.messages.items in let d = deed m c.args.self.now.1.limit me.0 c.args.entry ps ms in
    let past : OPEN ≤ n = omega (arith, c.if-found-ge-ENDED.true) in
    true_same (sym (tried_shut m (logged me.0 n d) me c.step_at_hand-found.new.seat.me n c.step_at_hand-found.ensures.told past)) refl refl refl refl refl refl refl (shut_true c.clerk.invariant n past)

pub step_at_hand-found-requires-clause-may : goal.step_at_hand-found-requires-clause-may
step_at_hand-found-requires-clause-may g c =
    let m = g.M.Machine.meaning in let is = c.clerk.view_is in let t = c.args.self.now.1 in
    let may = c.requires.may (sym (ap (λ x. x.view.closed) is) ∙ (sym c.clerk.invariant.closed_is ∙ c.in_default.is)) in
    subst (λ x. MayCommit m t x.view c.args.entry (at_hand x.parts) c.args.messages.items) (sym is) may

pub overflow_add-clerk : goal.overflow_add-clerk
overflow_add-clerk g c =
    let view = ap (λ x. x.view) c.clerk.view_is in
    let may = c.requires.may (sym (ap (λ v. v.closed) view) ∙ (sym c.clerk.invariant.closed_is ∙ c.in_default.is)) in
    let share = may.share in let same = ap (λ v. v.weight) view in let own = c.clerk.invariant.weight_is in let w = c.weight-weight.ensures in
    let loads = c.self.invariant.loads in let key = ap (λ x. x.1.share) c.self.view_is in omega arith

pub invariant_of-clerk-2 : goal.invariant_of-clerk-2
invariant_of-clerk-2 g c =
    let m = g.M.Machine.meaning in let me = c.clerk.inside.seat.me in let n = c.step_at_hand-found.result in
    let ps = at_hand c.clerk.inside.parts.items in let ms = c.args.messages.items in let d = deed m c.args.self.now.1.limit me.0 c.args.entry ps ms in
    let under : n < OPEN = omega (arith, c.if-found-ge-ENDED.false) in
    let hand = ap (λ x. x.parts) c.clerk.view_is in
    let view = ap (λ x. x.view) c.clerk.view_is in
    let may = c.requires.may (sym (ap (λ v. v.closed) view) ∙ (sym c.clerk.invariant.closed_is ∙ c.in_default.is)) in
    let same_units = subst (λ (k : Known _ _ _ _ _). units (logged k.view n (deed m c.args.self.now.1.limit k.view c.args.entry (at_hand k.parts) ms)) ≡ units k.view) (sym c.clerk.view_is)
    (logged_units c.args.clerk.now.view n (deed m c.args.self.now.1.limit c.args.clerk.now.view c.args.entry (at_hand c.args.clerk.now.parts) ms) may.owes refl may.spares) in
    true_same (sym (tried_open m (logged me.0 n d) me c.step_at_hand-found.new.seat.me n c.step_at_hand-found.ensures.told under)) (sym c.push_reserved.ensures.items) refl
    (subst (λ l. replace_all (as_some (at_hand l)) l ≡ l) (sym hand) c.requires.same)
    (sym (c.owe_anew.ensures.owed ∙ ap (λ o. without o c.clerk.inside.owed.items ++ named n 0 ms) c.delivers-delivered.ensures))
    (ap (λ w. c.clerk.inside.weight + w) (sym c.weight-weight.ensures)) refl refl (logged_true c.clerk.invariant n d same_units (tried_tells m (logged me.0 n d) me c.step_at_hand-found.new.seat.me n c.step_at_hand-found.ensures.told under).1)

pub returns : goal.returns
returns g c =
    let m = g.M.Machine.meaning in let is = c.clerk.view_is in let me = c.clerk.inside.seat.me in let n = c.step_at_hand-found.result in let limit = c.args.self.now.1.limit in
    let e = c.args.entry in let log = c.clerk.inside.log.items in
    let d = deed m limit me.0 e (at_hand c.clerk.inside.parts.items) c.args.messages.items in let old = c.step_at_hand-found.ensures in
    let under : n < OPEN = omega (arith, c.if-found-ge-ENDED.false) in
    let room : c.push_reserved.new.self.room + 1 ≡ c.args.clerk.now.room =
    (let less = c.push_reserved.ensures.room in let was = ap (λ x. x.room) is in omega arith) in (
      sym (ap (λ x. x.view.closed) is) ∙ (sym c.clerk.invariant.closed_is ∙ c.in_default.is),
      under,
      old.table.0 ∙ ap (λ x. x.table) is,
      ap (λ z. z.0) (tried_open m (logged me.0 n d) me c.step_at_hand-found.new.seat.me n old.told under) ∙ ap (λ x. logged x.view n (deed m limit x.view e (at_hand x.parts) c.args.messages.items)) is,
      ap (λ x. x.parts) is ∙ sym c.requires.same,
      room,
      ap (λ x. x.spare) is,
      (tried_tells m (logged me.0 n d) me c.step_at_hand-found.new.seat.me n old.told under).0,
    )
