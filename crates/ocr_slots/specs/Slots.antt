-- The slots of an EDT: the calls that they accepted, what is told of these, and their state.
use Rattle.std.specs.Prelude.{ℕ, List, [], ◌∷◌, Bool, not, ◌==◌, if◌then◌else◌, Option, Some, None, is_some, map, slice_index_or, count_by}
use Rattle.std.specs.List.{filter, range_with_len}
use Rattle.ocr_acquire.specs.declared.Mode.{Mode}
use Rattle.ocr_slots.specs.declared.Slot.{Slot}

-- THE CALLS that were accepted. Lists of calls have the newest first.
pub data SlotCall : Type 0 where
  Linking : (slot : ℕ) → (mode : Mode) → SlotCall
  Setting : (slot payload : ℕ) → SlotCall

-- the mode of a slot: what the call gives that links it
abbrev pub mode_of : List SlotCall → (slot : ℕ) → Option Mode
mode_of [] slot = None
mode_of (Linking other mode ∷ past) slot = if other == slot then Some mode else mode_of past slot
mode_of (Setting other payload ∷ past) slot = mode_of past slot

-- the payload of a slot: what the call carries that sets it
abbrev pub payload_of : List SlotCall → (slot : ℕ) → Option ℕ
payload_of [] slot = None
payload_of (Linking other mode ∷ past) slot = payload_of past slot
payload_of (Setting other payload ∷ past) slot =
    if other == slot then Some payload else payload_of past slot

-- a slot is linked where a call links it, and set where a call sets it
abbrev pub is_linked : List SlotCall → (slot : ℕ) → Bool
is_linked calls slot = is_some (mode_of calls slot)

abbrev pub is_set : List SlotCall → (slot : ℕ) → Bool
is_set calls slot = is_some (payload_of calls slot)

-- the slots of an EDT with so many, rising, and those of them that no call has set
abbrev pub slots_of : (depc : ℕ) → List ℕ
slots_of depc = range_with_len 0 depc

abbrev pub open_slots : (depc : ℕ) → List SlotCall → List ℕ
open_slots depc calls = filter (λ slot. not (is_set calls slot)) (slots_of depc)

-- THE STATE: what is told of each slot, in their order.
abbrev pub slot_of : List SlotCall → (slot : ℕ) → Slot
slot_of calls slot = record { mode = mode_of calls slot; payload = payload_of calls slot }

abbrev pub state_of : (depc : ℕ) → List SlotCall → List Slot
state_of depc calls = map (λ slot. slot_of calls slot) (slots_of depc)

-- what a state tells; past the last slot nothing is linked or set
abbrev pub slot_at : List Slot → (slot : ℕ) → Slot
slot_at s slot = slice_index_or s slot (record { mode = None; payload = None })

abbrev pub linked_at : List Slot → (slot : ℕ) → Bool
linked_at s slot = is_some (slot_at s slot).mode

abbrev pub unset_in : List Slot → ℕ
unset_in s = count_by (λ slot. not (is_some slot.payload)) s
