use Rattle.std.proofs.Common.{sym, ap, subst, ◌∙◌, ◌≡◌, map, arith}
use Rattle.ocr_turns_rule.specs.Clerks.{IsTrueTo}
use Rattle.ocr_turns_rule.specs.Debts.{AreInRange}
use Rattle.ocr_turns_rule.specs.Steps.{limit_of}
use Rattle.ocr_turns_rule.specs.Words.{MayStep, count_after}
use Rattle.ocr_turns_rule.specs.declared.view.View.{View}
use Rattle.ocr_turns_rule.proofs.Ranges.{owed_of, step_number, step_owed, step_slots}
use Rattle.ocr_turns_rule.proofs.Steps.{count_fewer, count_small, stepped_units, stepped_view}
use Rattle.ocr_turns_rule.specs.Units.{units}
use Rattle.ocr_turns.proofs.turns.Turns.step_word.Goals as goal

pub take_step-found-requires-clause-edt : goal.take_step-found-requires-clause-edt
take_step-found-requires-clause-edt g c =
    let t = c.args.self.now.1 in let v = c.args.clerk.now.view in
    step_number g.M.Machine.meaning t v c.args.edt (owed_of t c.clerk.inside.seat.me.0 v (ap (λ x. x.view) c.clerk.view_is) c.requires.table.1 c.clerk.invariant.ranges) c.args.step c.requires.may

pub take_step-found-requires-clause-slot : goal.take_step-found-requires-clause-slot
take_step-found-requires-clause-slot g c =
    let t = c.args.self.now.1 in let v = c.args.clerk.now.view in
    step_slots g.M.Machine.meaning t v c.args.edt (owed_of t c.clerk.inside.seat.me.0 v (ap (λ x. x.view) c.clerk.view_is) c.requires.table.1 c.clerk.invariant.ranges) c.args.step c.requires.may

pub invariant_of-clerk : goal.invariant_of-clerk
invariant_of-clerk g c =
    let m = g.M.Machine.meaning in let me = c.clerk.inside.seat.me in let told = c.take_step-found.ensures.told in let true_to = c.clerk.invariant in
    let now = stepped_view m c.args.edt c.args.step me.0 c.take_step-found.result c.take_step-found.new.seat.me.0 told.1 in
    let t = c.args.self.now.1 in let view = ap (λ x. x.view) c.clerk.view_is in
    let limit : limit_of me.0.terms ≡ t.limit = ap limit_of (ap (λ v. v.terms) view ∙ c.requires.table.1) in
    let old = owed_of t me.0 me.0 (λ _. me.0) (ap (λ v. v.terms) view ∙ c.requires.table.1) true_to.ranges in
    let owed = step_owed m t me.0 c.args.edt old c.args.step c.take_step-found.result c.take_step-found.new.seat.me.0 (subst (λ v. MayStep m t v c.args.edt c.args.step) (sym view) c.requires.may) told.1 in
    let after = stepped_units m t c.args.edt c.args.step me.0 c.take_step-found.result c.take_step-found.new.seat.me.0 (subst (λ v. MayStep m t v c.args.edt c.args.step) (sym view) c.requires.may) told.1 in
    subst (λ z. IsTrueTo z c.clerk.inside.log.items (map (λ l. l.items) c.clerk.inside.joined.items) c.clerk.inside.parts.items c.clerk.inside.owed.items c.clerk.inside.weight c.clerk.inside.closed c.clerk.inside.full c.units_after-clerk-inside.result)
    (λ i. (sym now.4 i, sym told.0 i))
    (record {
      log_is = true_to.log_is;
      joined_are = true_to.joined_are;
      keeps = true_to.keeps;
      owed_are = true_to.owed_are;
      weight_is = true_to.weight_is;
      closed_is = true_to.closed_is;
      full_is = true_to.full_is;
      fewer = let few = count_fewer c.args.step c.take_step-found.result c.clerk.inside.units (units me.0) true_to.fewer in let is = c.units_after-clerk-inside.ensures.fewer in let same = ap units now.4 in omega arith;
      exact = λ one. let same = true_to.exact one in
          let whole : units c.take_step-found.new.seat.me.0 ≡ count_after c.args.step c.take_step-found.result c.clerk.inside.units = after ∙ ap (count_after c.args.step c.take_step-found.result) (sym same) in
          let small = count_small m c.args.edt c.args.step me.0 c.take_step-found.result c.take_step-found.new.seat.me.0 told.1 c.clerk.inside.units (omega arith) whole in
          c.units_after-clerk-inside.ensures.exact small ∙ (sym whole ∙ ap units now.4);
      past_end = true_to.past_end;
      past_limit = true_to.past_limit;
      ranges = subst (λ l. AreInRange l now.1 now.2) (sym limit) (subst (λ (z : View _ _ _ _ _). AreInRange t.limit z.debts z.claims) now.4 owed);
      rests = true_to.rests;
      seat = true_to.seat;
    })
