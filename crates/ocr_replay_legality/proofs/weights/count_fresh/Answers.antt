use Rattle.std.proofs.Common.{◌-◌, sym, subst}
use Rattle.ocr_machine_state.specs.State.{state_in}
use Rattle.ocr_replay_legality.proofs.Numbers.{IsCounted, counted_fresh, counted_past, counted_all}
use Rattle.ocr_replay_legality.proofs.weights.count_fresh.Goals as goal
use Rattle.ocr_replay_legality.proofs.weights.count_fresh.Goals.{then-is_fresh, else-is_fresh}

pub loop-n-preserved : goal.loop-n-preserved
loop-n-preserved c = elim c.if-is_fresh.branch [
  | then-is_fresh w ↦ subst (λ room. IsCounted c.args.table.now.limit (state_in c.args.table.now) (c.loop-n.n - 1) room) (sym w.room-is)
      (counted_fresh c.args.table.now.limit (state_in c.args.table.now) c.loop-n.n c.loop-n.room c.is_fresh.result c.loop-n-test.true c.is_fresh.ensures w.if-is_fresh.true c.loop-n.invariant)
  | else-is_fresh w ↦ subst (λ room. IsCounted c.args.table.now.limit (state_in c.args.table.now) (c.loop-n.n - 1) room) (sym w.room-is)
      (counted_past c.args.table.now.limit (state_in c.args.table.now) c.loop-n.n c.loop-n.room c.is_fresh.result c.loop-n-test.true c.is_fresh.ensures w.if-is_fresh.false c.loop-n.invariant)
]

pub returns : goal.returns
returns c = counted_all c.args.table.now.limit (state_in c.args.table.now) c.loop-n.n c.loop-n.room c.loop-n.invariant c.loop-n-test.false
