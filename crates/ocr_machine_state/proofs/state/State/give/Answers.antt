use Rattle.std.proofs.Common.{◌+◌, ◌<◌, ℕ, List, length, ap, sym, ◌∙◌, arith}
use Rattle.ocr_machine_parts.specs.declared.part.Part.{Part}
use Rattle.ocr_machine_state.proofs.Wholes.{given, give_one, all_front}
use Rattle.ocr_machine_state.proofs.state.State.give.Goals as goal

pub loop-number-preserved : goal.loop-number-preserved
loop-number-preserved c =
    let both = all_front (c.loop-number.self.limit + c.loop-number.self.limit) c.pop.new.self.items (c.in-Some.number, c.in-Some.part) (rw c.in-Some.ensures.items at c.loop-number.invariant.below) in
    record {
      limit = c.loop-number.invariant.limit;
      sets = c.loop-number.invariant.sets;
      len = c.set_at.ensures.len ∙ c.loop-number.invariant.len;
      below = both.0;
      same = λ whole n.
          let below : c.in-Some.number < length c.loop-number.self.parts.items = omega (arith, both.1, whole, c.loop-number.invariant.len, c.loop-number.invariant.limit) in
          rw c.set_at.ensures.parts
          (sym (give_one c.pop.new.self.items c.in-Some.number c.in-Some.part c.loop-number.self.parts.items n below)
          ∙ ap (λ (ps : List (ℕ × Part)). given ps c.loop-number.self.parts.items n) (sym c.in-Some.ensures.items) ∙ c.loop-number.invariant.same whole n);
    }
