-- The events that firing destroyed, by the satisfactions that they accepted.
use Rattle.std.specs.Prelude.{ℕ, List, [], ◌∷◌, Bool, ◌||◌, ◌&&◌, ◌==◌, if◌then◌else◌, Option, Some, None}
use Rattle.ocr_guid.specs.Target.{EventCall, Satisfaction}
use Rattle.ocr_event.specs.Event as event
use Rattle.ocr_latch.specs.Latch as latch
use Rattle.ocr_event_any.specs.declared.TheConstants.{ONCE, LATCH}
use Rattle.ocr_body_meaning.specs.Holds.{is_done}
use Rattle.ocr_body_meaning.specs.declared.call.Call as body
use Rattle.ocr_body_meaning.specs.declared.call.Call.TheVariants as call
use Rattle.ocr_body_meaning.specs.declared.call.Answer.{Answer}
use Rattle.ocr_machine_history.specs.declared.objects.TheConstants.{OUTPUT_KIND}
use Rattle.ocr_machine_history.specs.declared.entry.Entry.{Entry}
use Rattle.ocr_machine_history.specs.declared.entry.Entry.TheVariants as an
use Rattle.ocr_machine_history.specs.declared.entry.What.{What}
use Rattle.ocr_machine_history.specs.declared.entry.What.TheVariants as what
use Rattle.ocr_machine_history.specs.History.{History}

-- an entry makes an event, or an EDT with its output event: the event's number and its kind
abbrev pub output_kind : ℕ → Option (ℕ × ℕ)
output_kind e = if e == 0 then None else Some (e, OUTPUT_KIND)

abbrev pub kind_by : body.Call → Answer → Option (ℕ × ℕ)
kind_by (call.EventCreate k fl) a = Some (a.value, k)
kind_by (call.EdtCreate from pc ps dc ds fl o) a = output_kind a.output
kind_by other a = None

abbrev pub kind_in : Entry → Option (ℕ × ℕ)
kind_in (an.Call t home c a w) = if is_done a.code then kind_by c a else None
kind_in other = None

abbrev pub kind_after : Option (ℕ × ℕ) → ℕ → ℕ → ℕ
kind_after None g k = k
kind_after (Some (e, kind)) g k = if e == g then kind else k

-- the kind of an event; 0 for a channel, and for what is no event
abbrev pub kind_of : History → ℕ → ℕ
kind_of [] g = 0
kind_of (e ∷ past) g = kind_after (kind_in e) g (kind_of past g)

-- an accepted call or message satisfies an event: its number and the slot
abbrev pub satisfied_by : body.Call → Option (ℕ × ℕ)
satisfied_by (call.Satisfy e p slot) = Some (e, slot)
satisfied_by other = None

abbrev pub satisfied_with : What → Option (ℕ × ℕ)
satisfied_with (what.Satisfy e slot p) = Some (e, slot)
satisfied_with other = None

abbrev pub satisfied_in : Entry → Option (ℕ × ℕ)
satisfied_in (an.Call t home c a w) = if is_done a.code then satisfied_by c else None
satisfied_in (an.Deliver m code) = if is_done code then satisfied_with m.what else None
satisfied_in other = None

abbrev pub satisfied_after : Option (ℕ × ℕ) → ℕ → List EventCall → List EventCall
satisfied_after None g calls = calls
satisfied_after (Some (e, slot)) g calls = if e == g then Satisfaction slot 0 ∷ calls else calls

-- the satisfactions of an event, whatever their payload, the newest first
abbrev pub satisfactions_of : History → ℕ → List EventCall
satisfactions_of [] g = []
satisfactions_of (e ∷ past) g = satisfied_after (satisfied_in e) g (satisfactions_of past g)

-- a ONCE event or a latch is destroyed by firing
abbrev pub is_fired : ℕ → List EventCall → Bool
is_fired k calls = ((k == ONCE) && event.has_fired calls) || ((k == LATCH) && latch.has_fired calls)

abbrev pub was_fired : History → ℕ → Bool
was_fired past g = is_fired (kind_of past g) (satisfactions_of past g)
