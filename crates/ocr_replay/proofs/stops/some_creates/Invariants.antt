use Rattle.std.proofs.Common.{◌<◌, ◌≤◌, ℕ, List, Option}
use Rattle.ocr_machine_history.specs.History.{History, Setting}
use Rattle.ocr_machine_history.specs.declared.entry.What.{What}
use Rattle.ocr_replay.specs.Stops.{IsFront, Creates}
use Rattle.ocr_replay.proofs.stops.some_creates.Given as goal

abbrev pub invariant-loop-n : goal.invariant-loop-n
invariant-loop-n l = (s : Setting) (past : History) (rows : List (List (Option What))) → IsFront s past l.table rows l.verdicts
    → (t : ℕ) → l.n < t → t ≤ l.table.limit → Creates s past t → ⊥

abbrev pub decreases-loop-n : goal.decreases-loop-n
decreases-loop-n l = l.n
