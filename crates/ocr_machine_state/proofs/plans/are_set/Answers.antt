use Rattle.std.proofs.Common.{◌≡◌, ◌<◌, length, not, is_some, true, false, sym, ◌∙◌, ap, Option, ℕ, arith}
use Rattle.ocr_slots.specs.Slots.{payload_of}
use Rattle.ocr_machine_state.proofs.Tables.{set_more, set_not}
use Rattle.ocr_machine_state.proofs.plans.are_set.Goals as goal

pub returns-then-is_none : goal.returns-then-is_none
returns-then-is_none c =
    let below : c.loop-k.k < length c.args.slots.now = omega (arith, c.loop-k-test.true, c.depc-k-end.ensures.number) in
    let is : is_some (payload_of c.args.sets.now c.loop-k.k) ≡ false = ap (λ (o : Option ℕ). is_some o) (sym c.payload.ensures) ∙ c.is_none.ensures ∙ ap not c.if-is_none.true in
    sym (set_not c.args.slots.now c.args.sets.now c.loop-k.k below is) ∙ c.loop-k.invariant

pub loop-k-preserved : goal.loop-k-preserved
loop-k-preserved c =
    let below : c.loop-k.k < length c.args.slots.now = omega (arith, c.loop-k-test.true, c.depc-k-end.ensures.number) in
    let is : is_some (payload_of c.args.sets.now c.loop-k.k) ≡ true = ap (λ (o : Option ℕ). is_some o) (sym c.payload.ensures) ∙ c.is_none.ensures ∙ ap not c.if-is_none.false in
    sym (set_more c.args.slots.now c.args.sets.now c.loop-k.k below is) ∙ c.loop-k.invariant
