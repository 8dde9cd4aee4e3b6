use Rattle.ocr_machine_state.specs.State.{state_in}
use Rattle.ocr_replay_legality.proofs.Numbers.{IsCounted}
use Rattle.ocr_replay_legality.proofs.weights.count_fresh.Given as goal

abbrev pub invariant-loop-n : goal.invariant-loop-n
invariant-loop-n l = IsCounted l.table.limit (state_in l.table) l.n l.room

abbrev pub decreases-loop-n : goal.decreases-loop-n
decreases-loop-n l = l.n
