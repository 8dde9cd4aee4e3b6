use Rattle.std.proofs.Common.{◌≡◌, ◌≤◌, ◌-◌, length}
use Rattle.ocr_machine_history.specs.History.{Setting, History}
use Rattle.ocr_memory_model.specs.Orders.{Orders}
use Rattle.ocr_memory_model.specs.Walk.{races_left, pairs_left}
use Rattle.ocr_memory_model.proofs.walk.Touches.next_race.Given as goal

abbrev pub invariant-loop-at : goal.invariant-loop-at
invariant-loop-at l = record {
  same : (s : Setting) (J : History) → Orders s J l.order
      → races_left s J l.self l.fn.from ≡ races_left s J l.self l.at;
  fewer : pairs_left l.self l.at ≤ pairs_left l.self l.fn.from;
}

abbrev pub decreases-loop-at : goal.decreases-loop-at
decreases-loop-at l = length l.touches - l.at.first
