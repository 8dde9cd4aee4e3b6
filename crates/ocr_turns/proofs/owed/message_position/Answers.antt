use Rattle.std.proofs.Common.{sym, ap, arith, ◌∙◌, ℕ}
use mathlib.Core.Logic.{dite}
use mathlib.Core.Option.{some, some-injective}
use lib.ListN.{get_elem?}
use Rattle.ocr_base.specs.Mail.{same_name}
use native.Mathlib.Decide.{ℕ_discrete}
use Rattle.atomic_table.proofs.Lists.{at_index}
use Rattle.ocr_turns_rule.proofs.Numbered.{not_named_yet}
use Rattle.ocr_turns_rule.proofs.Totals.{at_less, named_same}
use Rattle.ocr_turns.proofs.owed.message_position.Goals as goal

pub loop-i-init : goal.loop-i-init
loop-i-init g c = let r = c.requires in record { index = r.0; item = r.1; there = r.2; within = at_less c.args.rest.now.items r.0 (c.args.number, c.args.index, r.1) r.2; before = omega arith; first = λ k x lt. absurd (omega arith) }

pub loop-i-preserved : goal.loop-i-preserved
loop-i-preserved g c =
    let old = c.loop-i.invariant in let xs = c.args.rest.now.items in let y = c.index.result.now in let nm : ℕ × ℕ = (c.args.number, c.args.index) in
    let w = old.within in let b = old.before in
    let here = at_index xs c.loop-i.i y (omega arith) c.index.ensures in
    let off = sym c.is_named.ensures ∙ c.loop-i-test.true in record {
      index = old.index;
      item = old.item;
      there = old.there;
      within = old.within;
      before = not_named_yet nm xs c.loop-i.i old.index old.item y b old.there here off;
      first = λ k x lt at. dite (ℕ_discrete k c.loop-i.i)
          (λ e. ap (same_name nm) (some-injective x y (sym at ∙ (ap (get_elem? xs) e ∙ here))) ∙ off)
          (λ ne. old.first k x (omega arith) at);
    }

pub returns : goal.returns
returns g c =
    let old = c.loop-i.invariant in let xs = c.args.rest.now.items in let y = c.index.result.now in let nm : ℕ × ℕ = (c.args.number, c.args.index) in
    let w = old.within in let b = old.before in
    let here = at_index xs c.loop-i.i y (omega arith) c.index.ensures in
    let is = sym c.is_named.ensures ∙ c.loop-i-test.false in
    record { item = y.2; here = here ∙ ap (λ (z : ℕ × ℕ). some (z.0, z.1, y.2)) (sym (named_same nm y is)); first = old.first }
