use Rattle.std.proofs.Common.{sym, ap, ◌∙◌, arith, ⊎_elim, ◌≡◌, ◌<◌, ◌≤◌, refl}
use Rattle.atomic_table.specs.Table.{keeps}
use Rattle.ocr_turns_rule.proofs.Commits.{look_at}
use Rattle.ocr_turns_rule.specs.Rule.{OPEN}
use Rattle.ocr_turns_rule.specs.Steps.{SeesOpen}
use Rattle.ocr_turns_rule.proofs.Clerks.{out_of, shut_true, tried_open, tried_shut, true_same}
use Rattle.ocr_turns.proofs.turns.Turns.look.Goals as goal

pub load-found-requires : goal.load-found-requires
load-found-requires g c =
    let m = g.M.Machine.meaning in let me = c.clerk.inside.seat.me in
    let key = c.self.inside.table.shared.key in (
      ap (λ x. x.table) c.clerk.view_is ∙ (c.requires.0 ∙ sym (ap (λ x. x.0) c.self.view_is)),
      (let a = c.self.invariant.words in omega arith),
      λ s k len at lt.
          let r = look_at m key k.history s k.kept k.counted k.alive c.clerk.inside.seat.id me.0 at (sym c.clerk.invariant.closed_is ∙ c.in_default.is) (out_of me c.clerk.invariant.seat) me.1 lt in
          (r.0, keeps, tt, r.1.0, r.1.1),
    )

pub invariant_of-clerk : goal.invariant_of-clerk
invariant_of-clerk g c =
    let m = g.M.Machine.meaning in let me = c.clerk.inside.seat.me in let n = c.load-found.result in
    let past : OPEN ≤ n = omega (arith, c.if-found-ge-ENDED.true) in
    true_same (sym (tried_shut m me.0 me c.load-found.new.seat.me n c.load-found.ensures.2 past)) refl refl refl refl refl refl refl (shut_true c.clerk.invariant n past)

pub invariant_of-clerk-else-found-ge-ENDED : goal.invariant_of-clerk-else-found-ge-ENDED
invariant_of-clerk-else-found-ge-ENDED g c =
    let m = g.M.Machine.meaning in let me = c.clerk.inside.seat.me in let n = c.load-found.result in
    let under : n < OPEN = omega (arith, c.if-found-ge-ENDED.false) in
    true_same (sym (tried_open m me.0 me c.load-found.new.seat.me n c.load-found.ensures.2 under)) refl refl refl refl refl refl refl c.clerk.invariant

pub returns : goal.returns
returns g c =
    let is = c.clerk.view_is in let old = c.load-found.ensures in
    let new = c.load-found.new.seat.me.0 in
    let same : new ≡ c.args.clerk.now.view = ⊎_elim (λ h. h.1 ∙ ap (λ x. x.view) is) (λ h. let past = h.0 in absurd (omega (arith, c.if-found-ge-ENDED.false))) old.2.1 in
    let seen : SeesOpen g.M.Machine.meaning new = ⊎_elim (λ h. h.2) (λ h. let past = h.0 in absurd (omega (arith, c.if-found-ge-ENDED.false))) old.2.1 in (
      sym (ap (λ x. x.view.closed) is) ∙ (sym c.clerk.invariant.closed_is ∙ c.in_default.is),
      (old.0 ∙ ap (λ x. x.table) is, ap (λ x. x.parts) is, (ap (λ x. x.room) is, ap (λ x. x.spare) is, ap (λ x. x.space) is)),
      same,
      seen,
    )
