use Rattle.std.proofs.Common.{sym, ap, subst, ◌∙◌, arith, ◌<◌, ◌≡◌, refl}
use Rattle.ocr_turns_rule.proofs.Clerks.{true_same}
use Rattle.ocr_turns_rule.proofs.Splits.{splits}
use Rattle.ocr_turns.proofs.turns.Turns.split.Goals as goal

pub split_seat-seat-requires : goal.split_seat-seat-requires
split_seat-seat-requires g c =
    let m = g.M.Machine.meaning in let id = ap (λ x. x.0) c.self.view_is in let view = sym (ap (λ x. x.view) c.root.view_is) in (
      ap (λ x. x.table) c.root.view_is ∙ (c.requires.table.0 ∙ sym id),
      (let a = c.self.invariant.words in omega arith),
      splits m c.self.inside.table.shared.key c.root.inside.seat.id c.root.inside.seat.me.0 c.root.inside.seat.me.0.spares 0 (omega arith) (λ _ had. had)
          (subst (λ v. v.root ≡ 1) view c.requires.root.0)
          (subst (λ v. 0 < v.quota) view c.requires.root.1),
    )

pub invariant_of-root : goal.invariant_of-root
invariant_of-root g c =
    let old = c.root.invariant in
    true_same (sym c.split_seat-seat.ensures.2) refl refl refl refl refl refl refl
    (record {
      log_is = old.log_is;
      joined_are = old.joined_are;
      keeps = old.keeps;
      owed_are = old.owed_are;
      weight_is = old.weight_is;
      closed_is = old.closed_is;
      full_is = old.full_is;
      fewer = old.fewer;
      exact = old.exact;
      past_end = old.past_end;
      past_limit = old.past_limit;
      ranges = old.ranges;
      rests = old.rests;
      seat = old.seat;
    })
