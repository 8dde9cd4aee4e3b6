-- The uses of destroyed objects: calls and satisfactions that were answered STALE, and acquires
-- that found a block gone.
use Rattle.std.specs.Prelude.{List, Bool, true, false, filter, if◌then◌else◌}
use Rattle.ocr_guid.specs.declared.Code.{Code}
use Rattle.ocr_guid.specs.declared.Code.TheVariants as code
use Rattle.ocr_machine_history.specs.declared.entry.Entry.{Entry}
use Rattle.ocr_machine_history.specs.declared.entry.Entry.TheVariants.{Call, Deliver, StaleAcquire}
use Rattle.ocr_machine_history.specs.declared.entry.What.{What}
use Rattle.ocr_machine_history.specs.declared.entry.What.TheVariants as what
use Rattle.ocr_machine_history.specs.History.{History}

abbrev pub is_stale : Code → Bool
is_stale code.Stale = true
is_stale other = false

abbrev pub is_satisfaction : What → Bool
is_satisfaction (what.Satisfy e slot g) = true
is_satisfaction other = false

-- an entry uses a destroyed object
abbrev pub is_stale_use : Entry → Bool
is_stale_use (Call t home c a w) = is_stale a.code
is_stale_use (Deliver message code) =
    if is_satisfaction message.what then is_stale code else false
is_stale_use (StaleAcquire t d) = true
is_stale_use other = false

-- these entries, the newest first
abbrev pub stale_uses : History → List Entry
stale_uses past = filter is_stale_use past
