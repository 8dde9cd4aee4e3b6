use Rattle.std.proofs.Common.{◌≡◌, ◌++◌}
use Rattle.ocr_machine_history.specs.History.{Setting, history_of}
use Rattle.ocr_memory_model.specs.Orders.{Orders}
use Rattle.ocr_memory_model.specs.Walk.{all_races, races_left, pairs_left}
use Rattle.ocr_memory_model.proofs.race.races.Given as goal

abbrev pub invariant-loop-race : goal.invariant-loop-race
invariant-loop-race l =
    (s : Setting) → Orders s (history_of l.journal) l.order
    → all_races s (history_of l.journal) l.touches
    ≡ l.races.items ++ races_left s (history_of l.journal) l.touches l.at

abbrev pub decreases-loop-race : goal.decreases-loop-race
decreases-loop-race l = pairs_left l.touches l.at
