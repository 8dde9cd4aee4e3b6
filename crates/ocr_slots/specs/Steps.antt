-- What each call of an EDT's slots answers and makes of their state, and the laws of the list of
-- the calls.
use Rattle.std.specs.Prelude.{◌≡◌, ◌<◌, ℕ, List, ◌∷◌, not, ◌||◌, nat_lt, if◌then◌else◌, Some, length, slice_set}
use Rattle.ocr_guid.specs.declared.Code.{Code}
use Rattle.ocr_guid.specs.declared.Code.TheVariants as code
use Rattle.ocr_acquire.specs.declared.Mode.{Mode}
use Rattle.ocr_slots.specs.declared.Slot.{Slot}
use Rattle.ocr_slots.specs.Slots.{SlotCall, Linking, Setting, is_linked, open_slots, slot_of, state_of, slot_at, linked_at, unset_in}

-- THE STEPS.
abbrev pub on_link : List Slot → (slot : ℕ) → Code
on_link s slot =
    if not (nat_lt slot (length s)) then code.Einval
    else if linked_at s slot then code.Eperm
    else code.Done

abbrev pub after_link : List Slot → (slot : ℕ) → Mode → List Slot
after_link s slot mode =
    if not (nat_lt slot (length s)) || linked_at s slot then s
    else slice_set s slot (record (slot_at s slot) { mode = Some mode })

abbrev pub after_set : List Slot → (slot payload : ℕ) → List Slot
after_set s slot payload = slice_set s slot (record (slot_at s slot) { payload = Some payload })

-- THE LAWS. The state after an accepted call is the step from the state before it.
abbrev pub LinkLaw : Type 0
LinkLaw = (depc : ℕ) (calls : List SlotCall) (slot : ℕ) (mode : Mode)
    → on_link (state_of depc calls) slot ≡ code.Done
    → state_of depc (Linking slot mode ∷ calls) ≡ after_link (state_of depc calls) slot mode

abbrev pub SetLaw : Type 0
SetLaw = (depc : ℕ) (calls : List SlotCall) (slot payload : ℕ) → slot < depc
    → state_of depc (Setting slot payload ∷ calls) ≡ after_set (state_of depc calls) slot payload

-- The answers, by the calls alone.
abbrev pub AnswerLaw : Type 0
AnswerLaw = (depc : ℕ) (calls : List SlotCall) (slot : ℕ)
    → on_link (state_of depc calls) slot
    ≡ (if not (nat_lt slot depc) then code.Einval else if is_linked calls slot then code.Eperm
    else code.Done)

abbrev pub ReadLaw : Type 0
ReadLaw = (depc : ℕ) (calls : List SlotCall) (slot : ℕ) → slot < depc
    → slot_at (state_of depc calls) slot ≡ slot_of calls slot

abbrev pub SizeLaw : Type 0
SizeLaw = (depc : ℕ) (calls : List SlotCall) → length (state_of depc calls) ≡ depc

abbrev pub OpenLaw : Type 0
OpenLaw = (depc : ℕ) (calls : List SlotCall)
    → unset_in (state_of depc calls) ≡ length (open_slots depc calls)
