-- What the slots of an EDT were set to, and what they are with it.
use Rattle.std.specs.Prelude.{ℕ, ◌+◌, List, [], ◌∷◌, Bool, true, false, ◌&&◌, if◌then◌else◌, is_some}
use Rattle.ocr_slots.specs.Slots.{SlotCall, Setting, payload_of}
use Rattle.ocr_slots.specs.declared.Slot.{Slot}
use Rattle.ocr_edt.specs.declared.Edt.{Edt}
use Rattle.ocr_edt.specs.declared.Edt.TheVariants as phase
use Rattle.ocr_machine_history.specs.declared.entry.Entry.{Entry}
use Rattle.ocr_machine_history.specs.declared.entry.Entry.TheVariants.{Call, Deliver}
use Rattle.ocr_machine_history.specs.Made.{is_new}
use Rattle.ocr_machine_parts.specs.declared.part.Part.{Part}
use Rattle.ocr_machine_parts.specs.declared.part.Part.TheVariants as part
use Rattle.ocr_machine_parts.specs.Calls.{set_step, payload_or_null}

-- payloads with their slots, as the calls that set them
abbrev pub settings : List (ℕ × ℕ) → List SlotCall
settings [] = []
settings (set ∷ rest) = Setting set.0 set.1 ∷ settings rest

-- slots with what they were set to
abbrev pub filled : ℕ → List Slot → List SlotCall → List Slot
filled k [] calls = []
filled k (one ∷ rest) calls =
    (record { mode = one.mode; payload = payload_of calls k }) ∷ filled (k + 1) rest calls

-- every slot is set
abbrev pub are_set : List Slot → Bool
are_set [] = true
are_set (one ∷ rest) = is_some one.payload && are_set rest

-- the payloads that a body gets
abbrev pub payloads_in : List Slot → List ℕ
payloads_in [] = []
payloads_in (one ∷ rest) = payload_or_null one.payload ∷ payloads_in rest

-- the blocks that a running EDT found gone
abbrev pub stale_in : Edt → List ℕ
stale_in (phase.Running s) = s.stale
stale_in other = []

abbrev pub stale_on : Part → List ℕ
stale_on (part.Core c) = stale_in c.edt
stale_on other = []

-- an EDT whose slots are being filled
abbrev pub is_filling : Edt → Bool
is_filling (phase.Filling i) = true
is_filling other = false

abbrev pub is_filling_on : Part → Bool
is_filling_on (part.Core c) = is_filling c.edt
is_filling_on other = false

-- the slots of an EDT, by its face
abbrev pub slots_in : Part → List Slot
slots_in (part.Edt slots) = slots
slots_in other = []

-- what an entry makes of what the slots of an EDT were set to
abbrev pub set_after : Entry → ℕ → List SlotCall → List SlotCall
set_after (Call by home c a w) t calls = if is_new c a t then [] else calls
set_after (Deliver m code) t calls = set_step m.what t calls
set_after other t calls = calls
