use Rattle.std.proofs.Common.{arith}
use Rattle.crossbeam_deque.specs.Handles.{worker_view}
use Rattle.ocr_steal.proofs.Steps.{takes_own}
use Rattle.ocr_steal.proofs.hand.Hand.take.Goals as goal

pub pop_as-requires-clause-fifo : goal.pop_as-requires-clause-fifo
pop_as-requires-clause-fifo c _ =
    let owner = c.args.self.now.owns.owner in
    takes_own _ (worker_view c.args.self.now.own) owner.port (omega (arith, owner.parts, owner.few))
