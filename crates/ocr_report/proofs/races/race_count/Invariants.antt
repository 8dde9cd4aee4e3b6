use Rattle.std.proofs.Common.{◌≡◌, ◌≤◌, ◌+◌, length}
use Rattle.ocr_machine_history.specs.History.{Setting, History}
use Rattle.ocr_memory_model.specs.Orders.{Orders}
use Rattle.ocr_memory_model.specs.Walk.{all_races, first_pair, pairs_left, races_left}
use Rattle.ocr_report.proofs.races.race_count.Given as goal

abbrev pub invariant-loop-next : goal.invariant-loop-next
invariant-loop-next l = record {
  counted : (s : Setting) (J : History) → Orders s J l.order
      → l.count + length (races_left s J l.touches l.at) ≡ length (all_races s J l.touches);
  few : l.count + pairs_left l.touches l.at ≤ pairs_left l.touches first_pair;
}

abbrev pub decreases-loop-next : goal.decreases-loop-next
decreases-loop-next l = pairs_left l.touches l.at
