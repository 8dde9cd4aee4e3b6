-- What comes right before an entry that comes after a history, as far as the order needs it: of the
-- earlier entries of its EDT the last.
use Rattle.std.specs.Prelude.{◌≡◌, ◌<◌, ◌↔◌, ℕ, List, [], ◌∷◌, ◌++◌, Bool, true, false, ◌||◌, if◌then◌else◌, Option, Some, None, is_some}
use Rattle.ocr_acquire.specs.declared.Mode.{Mode}
use Rattle.ocr_acquire.specs.Mode.{is_isolated}
use Rattle.ocr_machine_history.specs.declared.entry.Entry.{Entry}
use Rattle.ocr_machine_history.specs.declared.entry.Entry.TheVariants.{Deliver, Acquire, Start}
use Rattle.ocr_machine_history.specs.History.{History, Setting}
use Rattle.ocr_machine_parts.specs.Legal.{IsRun}
use Rattle.ocr_machine_parts.specs.Progress.{edt_in}
use Rattle.ocr_memory_model_rows.specs.Places.{Graph, reaches}
use Rattle.ocr_memory_model_order.specs.Makers.{makers}
use Rattle.ocr_memory_model_order.specs.Pairs.{is_of, creates, sets, ended_mode, acquired_mode, HappensBefore}
use Rattle.ocr_memory_model_order.specs.Places.{places}

abbrev pub newest : List ℕ → List ℕ
newest [] = []
newest (n ∷ rest) = n ∷ []

-- the last entry of the EDT
abbrev pub last_of : History → ℕ → List ℕ
last_of past t = newest (places (is_of t) past)

-- the ends of holds, and of those in EW or CONST
abbrev pub is_isolated_in : Option Mode → Bool
is_isolated_in None = false
is_isolated_in (Some m) = is_isolated m

abbrev pub ends : Setting → ℕ → History → Entry → Bool
ends s d past e = is_some (ended_mode s d past e)

abbrev pub isolated_ends : Setting → ℕ → History → Entry → Bool
isolated_ends s d past e = is_isolated_in (ended_mode s d past e)

-- those that come before an acquire in this mode
abbrev pub ended_for : Setting → History → ℕ → Option Mode → List ℕ
ended_for s past d None = []
ended_for s past d (Some k) =
    if is_isolated k then places (ends s d) past else places (isolated_ends s d) past

-- the creation of an EDT, and what sets its slots
abbrev pub starting : ℕ → History → Entry → Bool
starting t past e = creates t past e || sets t past e

abbrev pub causes : Setting → History → Entry → List ℕ
causes s past (Deliver m c) = makers s past m
causes s past (Start t) =
    last_of past t ++ places (starting t) past
causes s past (Acquire t d) =
    last_of past t ++ ended_for s past d (acquired_mode s d past (Acquire t d))
causes s past e = last_of past (edt_in e)

-- of all places
abbrev pub graph_of : Setting → History → Graph
graph_of s [] = []
graph_of s (e ∷ past) = causes s past e ∷ graph_of s past

-- THE LAW: happens before is what this graph reaches
abbrev pub GraphLaw : Type 0
GraphLaw = (s : Setting) (J : History) (a b : ℕ) → IsRun s J
    → HappensBefore s J a b ↔ ((a < b) × (reaches (graph_of s J) a b ≡ true))
