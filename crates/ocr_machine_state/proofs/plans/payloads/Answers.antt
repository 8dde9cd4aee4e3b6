use Rattle.std.proofs.Common.{◌<◌, length, ◌∙◌, arith}
use Rattle.ocr_machine_state.proofs.Tables.{payloads_more}
use Rattle.ocr_machine_state.proofs.plans.payloads.Goals as goal

pub loop-k-preserved : goal.loop-k-preserved
loop-k-preserved c =
    let below : c.loop-k.k < length c.args.slots.now = omega (arith, c.loop-k-test.true, c.depc-k-end.ensures.number) in
    rw (c.in_ok-push.ensures.items, c.unwrap_or.ensures, c.payload.ensures)
    (payloads_more c.loop-k.payloads.items c.args.slots.now c.args.sets.now c.loop-k.k below ∙ c.loop-k.invariant)
