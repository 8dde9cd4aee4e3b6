use Rattle.std.proofs.Common.{sym, ap, subst, ◌∙◌, arith, ⊎_elim, ◌≡◌, ◌<◌, ◌≤◌, ◌+◌, refl}
use Rattle.atomic_table.specs.Table.{keeps}
use Rattle.ocr_turns_rule.specs.Steps.{filled_by, limit_of, with_drawn, Sees}
use Rattle.ocr_turns_rule.specs.Sums.{AreBelow}
use Rattle.ocr_turns_rule.proofs.Draws.{draw_at}
use Rattle.ocr_turns_rule.proofs.Clerks.{drew_true, filled_true, out_of, true_same}
use Rattle.ocr_turns.proofs.turns.Turns.draw.Goals as goal

pub fetch_add-found-requires : goal.fetch_add-found-requires
fetch_add-found-requires g c =
    let m = g.M.Machine.meaning in let me = c.clerk.inside.seat.me in
    let key = c.self.inside.table.shared.key in (
      ap (λ x. x.table) c.clerk.view_is ∙ (c.requires.0 ∙ sym (ap (λ x. x.0) c.self.view_is)),
      (let a = c.self.invariant.words in omega arith),
      λ s k len at lt.
          let r = draw_at m key k.history s k.kept k.counted k.alive c.clerk.inside.seat.id me.0 me.1 at (sym c.clerk.invariant.full_is ∙ c.in_default.is) (out_of me c.clerk.invariant.seat) in
          (r.0, keeps, tt, r.1.0, r.1.1),
    )

pub invariant_of-clerk : goal.invariant_of-clerk
invariant_of-clerk g c =
    let me = c.clerk.inside.seat.me in let n = c.fetch_add-found.result in let old = c.fetch_add-found.ensures.2 in
    let limit : limit_of me.0.terms ≡ c.args.self.now.1.limit = ap (λ x. limit_of x.view.terms) c.clerk.view_is ∙ ap limit_of c.requires.1 in
    let real : c.self.inside.limit ≡ c.args.self.now.1.limit = c.self.invariant.limit_is ∙ ap (λ x. x.1.limit) c.self.view_is in
    let past : limit_of me.0.terms ≤ n = omega (arith, c.if-found-self.true) in
    let view : c.fetch_add-found.new.seat.me.0 ≡ filled_by me.0 n = ⊎_elim (λ h. let under = h.0 in absurd (omega arith)) (λ h. h.1) old.1 in
    true_same (λ i. (sym view i, sym old.0 i)) refl refl refl refl refl refl refl (filled_true c.clerk.invariant n past)

pub invariant_of-clerk-else-found-self : goal.invariant_of-clerk-else-found-self
invariant_of-clerk-else-found-self g c =
    let me = c.clerk.inside.seat.me in let n = c.fetch_add-found.result in let old = c.fetch_add-found.ensures.2 in
    let limit : limit_of me.0.terms ≡ c.args.self.now.1.limit = ap (λ x. limit_of x.view.terms) c.clerk.view_is ∙ ap limit_of c.requires.1 in
    let real : c.self.inside.limit ≡ c.args.self.now.1.limit = c.self.invariant.limit_is ∙ ap (λ x. x.1.limit) c.self.view_is in
    let under : n < limit_of me.0.terms = omega (arith, c.if-found-self.false) in
    let view : c.fetch_add-found.new.seat.me.0 ≡ with_drawn me.0 (n + 1) = ⊎_elim (λ h. h.1) (λ h. let past = h.0 in absurd (omega arith)) old.1 in
    true_same (λ i. (sym view i, sym old.0 i)) refl refl refl refl refl refl refl (drew_true c.clerk.invariant (n + 1))

pub returns : goal.returns
returns g c =
    let m = g.M.Machine.meaning in let is = c.clerk.view_is in let old = c.fetch_add-found.ensures in let n = c.fetch_add-found.result in
    let view = ap (λ x. x.view) is in
    let limit : limit_of c.clerk.inside.seat.me.0.terms ≡ c.args.self.now.1.limit = ap (λ v. limit_of v.terms) view ∙ ap limit_of c.requires.1 in
    let real : c.self.inside.limit ≡ c.args.self.now.1.limit = c.self.invariant.limit_is ∙ ap (λ x. x.1.limit) c.self.view_is in
    let under : n < c.args.self.now.1.limit = omega (arith, c.if-found-self.false) in
    let new = c.fetch_add-found.new.seat.me.0 in
    let drew : new ≡ with_drawn c.args.clerk.now.view (n + 1) = ⊎_elim (λ h. h.1 ∙ ap (λ v. with_drawn v (n + 1)) view) (λ h. let past = h.0 in absurd (omega arith)) old.2.1 in
    let seen : Sees m new = ⊎_elim (λ h. h.2) (λ h. let past = h.0 in absurd (omega arith)) old.2.1 in
    let before : AreBelow (n + 1) c.clerk.inside.seat.me.0.drawn = ⊎_elim (λ h. h.3) (λ h. let past = h.0 in absurd (omega arith)) old.2.1 in (
      sym (ap (λ v. v.full) view) ∙ (sym c.clerk.invariant.full_is ∙ c.in_default.is),
      omega arith,
      omega arith,
      (old.0 ∙ ap (λ x. x.table) is, ap (λ x. x.parts) is, (ap (λ x. x.room) is, ap (λ x. x.spare) is, ap (λ x. x.space) is)),
      drew,
      seen,
      subst (λ v. AreBelow (n + 1) v.drawn) view before,
    )
