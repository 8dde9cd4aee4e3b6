use Rattle.std.proofs.Common.{sym, ap, subst, ◌∙◌, ◌≡◌, map, arith}
use Rattle.ocr_turns_rule.specs.Clerks.{IsTrueTo}
use Rattle.ocr_turns_rule.specs.Live.{MayLive, count_lived}
use Rattle.ocr_turns_rule.proofs.Live.{lived_fewer, lived_small, lived_units, lived_view}
use Rattle.ocr_turns_rule.specs.Units.{units}
use Rattle.ocr_turns.proofs.turns.Turns.step_live.Goals as goal

pub invariant_of-clerk : goal.invariant_of-clerk
invariant_of-clerk g c =
    let m = g.M.Machine.meaning in let me = c.clerk.inside.seat.me in let told = c.take_live-found.ensures.told in let true_to = c.clerk.invariant in
    let now = lived_view m c.args.step me.0 c.take_live-found.result c.take_live-found.new.seat.me.0 told.1 in
    let view = ap (λ x. x.view) c.clerk.view_is in
    let after = lived_units m c.args.step me.0 c.take_live-found.result c.take_live-found.new.seat.me.0 (subst (λ v. MayLive v c.args.step) (sym view) c.requires.may) told.1 in
    subst (λ z. IsTrueTo z c.clerk.inside.log.items (map (λ l. l.items) c.clerk.inside.joined.items) c.clerk.inside.parts.items c.clerk.inside.owed.items c.clerk.inside.weight c.clerk.inside.closed c.clerk.inside.full c.units_lived-clerk-inside.result)
    (λ i. (sym now.4 i, sym told.0 i))
    (record {
      log_is = true_to.log_is;
      joined_are = true_to.joined_are;
      keeps = true_to.keeps;
      owed_are = true_to.owed_are;
      weight_is = true_to.weight_is;
      closed_is = true_to.closed_is;
      full_is = true_to.full_is;
      fewer = let few = lived_fewer c.args.step c.clerk.inside.units (units me.0) true_to.fewer in let is = c.units_lived-clerk-inside.ensures.fewer in let same = ap units now.4 in omega arith;
      exact = λ one. let same = true_to.exact one in
          let whole : units c.take_live-found.new.seat.me.0 ≡ count_lived c.args.step c.clerk.inside.units = after ∙ ap (count_lived c.args.step) (sym same) in
          let small = lived_small m c.args.step me.0 c.take_live-found.result c.take_live-found.new.seat.me.0 told.1 c.clerk.inside.units (omega arith) whole in
          c.units_lived-clerk-inside.ensures.exact small ∙ (sym whole ∙ ap units now.4);
      past_end = true_to.past_end;
      past_limit = true_to.past_limit;
      ranges = true_to.ranges;
      rests = true_to.rests;
      seat = true_to.seat;
    })
