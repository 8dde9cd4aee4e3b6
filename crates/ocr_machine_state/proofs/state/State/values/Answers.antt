use Rattle.std.proofs.Common.{◌<◌, length, ◌∙◌, arith}
use Rattle.ocr_machine_state.specs.Sets.{stale_on}
use Rattle.ocr_machine_state.specs.State.{core_on}
use Rattle.ocr_machine_state.proofs.Tables.{values_more}
use Rattle.ocr_machine_state.proofs.state.State.values.Goals as goal

pub loop-k-preserved : goal.loop-k-preserved
loop-k-preserved c =
    let below : c.loop-k.k < length c.args.slots.now = omega (arith, c.loop-k-test.true, c.depc-k-end.ensures.number) in
    rw (c.in_ok-push.ensures.items, c.value.ensures)
    (values_more (stale_on (core_on c.args.self.now c.args.edt)) c.loop-k.values.items c.args.slots.now c.args.sets.now c.loop-k.k below ∙ c.loop-k.invariant)
