use Rattle.std.proofs.Common.{inr, map, [], sym, ap, subst, ◌∙◌, arith, ◌<◌, ◌-◌, ◌≡◌, refl}
use Rattle.ocr_turns_rule.specs.Live.{MayLower}
use Rattle.ocr_turns_rule.proofs.Clerks.{seat_none, true_same}
use Rattle.ocr_turns_rule.proofs.Splits.{splits}
use Rattle.ocr_turns_rule.proofs.Ranges.{none_owed}
use Rattle.ocr_turns_rule.specs.Steps.{fresh_spare, limit_of}
use Rattle.ocr_turns.proofs.turns.Turns.split_spare.Goals as goal

pub split_seat-seat-requires : goal.split_seat-seat-requires
split_seat-seat-requires g c =
    let m = g.M.Machine.meaning in let id = ap (λ x. x.0) c.self.view_is in let view = sym (ap (λ x. x.view) c.root.view_is) in (
      ap (λ x. x.table) c.root.view_is ∙ (c.requires.table.0 ∙ sym id),
      (let a = c.self.invariant.words in omega arith),
      splits m c.self.inside.table.shared.key c.root.inside.seat.id c.root.inside.seat.me.0 (c.root.inside.seat.me.0.spares - 1) 1 (let may = (subst (λ v. MayLower v 1) view c.requires.spare).0 in omega arith) (λ some_end _. let may = (subst (λ v. MayLower v 1) view c.requires.spare).1 some_end in omega arith)
          (subst (λ v. v.root ≡ 1) view c.requires.root.0)
          (subst (λ v. 0 < v.quota) view c.requires.root.1),
    )

pub invariant_of-root : goal.invariant_of-root
invariant_of-root g c =
    let old = c.root.invariant in let less = c.saturating_sub-root-inside.ensures in let view = sym (ap (λ x. x.view) c.root.view_is) in
    let may = (subst (λ v. MayLower v 1) view c.requires.spare).0 in
    true_same (sym c.split_seat-seat.ensures.2) refl refl refl refl refl refl refl
    (record {
      log_is = old.log_is;
      joined_are = old.joined_are;
      keeps = old.keeps;
      owed_are = old.owed_are;
      weight_is = old.weight_is;
      closed_is = old.closed_is;
      full_is = old.full_is;
      fewer = let few = old.fewer in omega arith;
      exact = λ one. absurd (let z = subst (λ v. v.root ≡ 1) view c.requires.root.0 in seat_none c.root.inside.seat.me old.seat z one);
      past_end = old.past_end;
      past_limit = old.past_limit;
      ranges = old.ranges;
      rests = old.rests;
      seat = old.seat;
    })

pub invariant_of-result : goal.invariant_of-result
invariant_of-result g c =
    let old = c.root.invariant in let is = c.split_seat-seat.ensures in let v = c.root.inside.seat.me.0 in
    true_same {me = (fresh_spare v, [])} (sym is.4) (sym c.in_ok-log.ensures.0) (sym (ap (map (λ l. l.items)) c.new.ensures.items)) (sym c.in_ok-parts.ensures.items) (sym c.new-3.ensures) refl refl refl
    (record {
      log_is = refl;
      joined_are = refl;
      keeps = refl;
      owed_are = refl;
      weight_is = refl;
      closed_is = refl;
      full_is = refl;
      fewer = omega arith;
      exact = λ _. refl;
      past_end = tt;
      past_limit = tt;
      ranges = none_owed (limit_of v.terms);
      rests = (refl, refl);
      seat = inr (refl, refl, refl);
    })
