use Rattle.std.proofs.Common.{◌∙◌, ◌<◌, length, arith}
use Rattle.ocr_worker_body.proofs.Values.{used_more}
use Rattle.ocr_worker_body.proofs.given.used_slots.Goals as goal

pub loop-k-preserved : goal.loop-k-preserved
loop-k-preserved c =
    let below : c.loop-k.k < length c.args.slots.now = omega (arith, c.loop-k-test.true, c.depc-k-end.ensures.number) in
    rw (c.in_ok-push.ensures.items, c.uses_slot.ensures) (used_more c.loop-k.used.items c.args.slots.now c.loop-k.k below ∙ c.loop-k.invariant)
