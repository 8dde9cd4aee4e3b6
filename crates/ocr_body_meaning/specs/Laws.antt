-- What all bodies do, and how much a body can do.
use Rattle.std.specs.Prelude.{◌≡◌, ◌≤◌, ◌<◌, ℕ, List, [], ◌∷◌, length, true, false}
use Rattle.ocr_program_tree.specs.Rules.{are_functions_named, are_lists_short}
use Rattle.ocr_body_meaning.specs.Behaviour.{Behaviour, Ends, Stops, Asks, Asked, IsNext, IsTrace}
use Rattle.ocr_body_meaning.specs.Body.{Body, behaviour, says}
use Rattle.ocr_body_meaning.specs.Holds.{Holds, Entered, after_call, load_of, store_of}
use Rattle.ocr_body_meaning.specs.declared.call.Answer.{Answer}
use Rattle.ocr_body_meaning.specs.declared.call.BodyStop.{BodyStop}
use Rattle.ocr_body_meaning.specs.declared.call.BodyStop.TheVariants as stop
use Rattle.ocr_body_meaning.specs.declared.call.Call as body
use Rattle.ocr_body_meaning.specs.declared.call.Call.TheVariants as call

-- the stops that a body says itself
abbrev pub IsSaid : BodyStop → Type 0
IsSaid stop.Closed = ⊥
IsSaid stop.NoMemory = ⊥
IsSaid other = Unit {0}

-- a call that a body of so many functions can make: a function is one of these, and the lists of a
-- creation are short. A shutdown and an abort are no calls but stops
abbrev pub IsServed : ℕ → body.Call → Type 0
IsServed functions (call.TemplateCreate function paramc depc) =
    (0 < function) × (function ≤ functions)
IsServed functions (call.EdtCreate template paramc params depc deps flags output) =
    (length params ≤ 16) × (length deps ≤ 32)
IsServed functions call.Shutdown = ⊥
IsServed functions (call.Abort code) = ⊥
IsServed functions other = Unit {0}

-- the body makes such calls alone, and then ends, or stops for a cause of its own, whatever the
-- answers
abbrev pub MakesOnly : (body.Call → Type 0) → Behaviour → Type 0
MakesOnly IsSuch (Ends g holds) = Unit {0}
MakesOnly IsSuch (Stops s) = IsSaid s
MakesOnly IsSuch (Asks made writes next) =
    IsSuch made × ((a : Answer) → MakesOnly IsSuch (next a))

-- a body of a program whose calls name functions that are there and have short lists makes only
-- such calls
abbrev pub ServedLaw : Type 0
ServedLaw = (b : Body) (log : List Asked) → are_functions_named b.program ≡ true
    → are_lists_short b.program ≡ true
    → MakesOnly (IsServed (length b.program)) (says b log)

-- what a body holds after these calls, but for what it stored there itself
abbrev pub held_after : List Asked → Holds → Holds
held_after [] holds = holds
held_after (asked ∷ earlier) holds = after_call asked.call asked.answer (held_after earlier holds)

-- a call that is a load or a store is one that these holds make an entry
abbrev pub IsEnteredBy : Holds → body.Call → Type 0
IsEnteredBy holds (call.Load d w) = load_of (holds d) w ≡ Entered
IsEnteredBy holds (call.Store d w v) = store_of (holds d) w ≡ Entered
IsEnteredBy holds other = Unit {0}

-- a body loads and stores, as calls, only what its holds make an entry
abbrev pub AccessLaw : Type 0
AccessLaw = (b : Body) (log : List Asked) (made : body.Call) → IsTrace (behaviour b) log
    → IsNext made (says b log) → IsEnteredBy (held_after log b.holds) made

-- each call costs fuel: a body makes at most as many calls as it has units
abbrev pub FuelLaw : Type 0
FuelLaw = (b : Body) (log : List Asked) → IsTrace (behaviour b) log → length log ≤ b.fuel
