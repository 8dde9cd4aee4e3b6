use Rattle.std.proofs.Common.{[], ◌∷◌}
use Rattle.crossbeam_deque.specs.Handles.{worker_view}
use Rattle.ocr_steal.proofs.Steps.{pushes}
use Rattle.ocr_steal.proofs.hand.Hand.push.Goals as goal

pub push_as-requires-clause-pushes : goal.push_as-requires-clause-pushes
push_as-requires-clause-pushes c =
    pushes _ (worker_view c.args.self.now.own) (c.args.edt ∷ []) c.args.self.now.owns.owner.port
