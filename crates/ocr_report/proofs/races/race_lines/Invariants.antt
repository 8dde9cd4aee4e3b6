use Rattle.std.proofs.Common.{◌≡◌, ◌++◌}
use Rattle.std.specs.List.{flat_map}
use Rattle.ocr_machine_history.specs.History.{Setting, History}
use Rattle.ocr_memory_model.specs.Orders.{Orders}
use Rattle.ocr_memory_model.specs.Walk.{all_races, pairs_left, races_left}
use Rattle.ocr_report.specs.Races.{race_line}
use Rattle.ocr_report.proofs.races.race_lines.Given as goal

abbrev pub invariant-loop-race : goal.invariant-loop-race
invariant-loop-race l =
    (s : Setting) (J : History) → Orders s J l.order
    → l.text.items ++ flat_map race_line (races_left s J l.touches l.at)
    ≡ l.initial.text.items ++ flat_map race_line (all_races s J l.touches)

abbrev pub decreases-loop-race : goal.decreases-loop-race
decreases-loop-race l = pairs_left l.touches l.at
