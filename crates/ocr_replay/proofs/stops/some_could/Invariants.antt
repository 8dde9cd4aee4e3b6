use Rattle.std.proofs.Common.{◌<◌, ◌≤◌, ℕ, List, Option}
use Rattle.ocr_machine_history.specs.History.{History, Setting}
use Rattle.ocr_machine_history.specs.declared.entry.What.{What}
use Rattle.ocr_machine_parts.specs.Parts.{parts_of}
use Rattle.ocr_replay_legality.specs.Asked.{IsRoom}
use Rattle.ocr_replay.specs.Stops.{IsFront, CouldWeigh}
use Rattle.ocr_replay.proofs.stops.some_could.Given as goal

abbrev pub invariant-loop-n : goal.invariant-loop-n
invariant-loop-n l = (s : Setting) (past : History) (rows : List (List (Option What))) → IsFront s past l.table rows l.verdicts
    → IsRoom s.limit (parts_of s past) l.room → (t : ℕ) → l.n < t → t ≤ l.table.limit → CouldWeigh s past t l.weight → ⊥

abbrev pub decreases-loop-n : goal.decreases-loop-n
decreases-loop-n l = l.n
