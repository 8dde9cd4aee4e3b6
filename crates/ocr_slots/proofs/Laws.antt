-- The laws of the slots' steps, for the crates above.
use Rattle.std.proofs.Common.{◌≡◌, ◌<◌, ℕ, List, [], ◌∷◌, false, ◌==◌, not, Some, None, is_some, length, arith, refl, sym}
use Rattle.std.proofs.lemmas.Grind.{common_steps}
use Rattle.std.proofs.Math.ListN.{set, replicate}
use Rattle.ocr_base.proofs.Booleans.{same}
use Rattle.ocr_guid.specs.declared.Code.TheVariants as code
use Rattle.ocr_acquire.specs.declared.Mode.{Mode}
use Rattle.ocr_slots.specs.declared.Slot.{Slot}
use Rattle.ocr_slots.specs.Slots.{SlotCall, Linking, Setting, slot_of, state_of, slot_at, linked_at}
use Rattle.ocr_slots.proofs.Values.{length-values, get_or-values, values-same, values-set, count_by-values}
use Rattle.ocr_slots.specs.Steps.{on_link, LinkLaw, SetLaw, AnswerLaw, ReadLaw, SizeLaw, OpenLaw}

abbrev fresh : Slot
fresh = record { mode = None; payload = None }

pub fresh_slots : (depc : ℕ) → replicate depc fresh ≡ state_of depc []
fresh_slots depc = sym (values-same fresh depc)

pub size_law : SizeLaw
size_law depc calls = length-values (λ slot. slot_of calls slot) depc

pub read_law : ReadLaw
read_law depc calls slot below = get_or-values (λ slot. slot_of calls slot) depc slot fresh below

pub open_law : OpenLaw
open_law depc calls = count_by-values (λ slot. not (is_some slot.payload)) (λ slot. slot_of calls slot) depc

pub answer_law : AnswerLaw
answer_law depc calls slot =
    let size : length (state_of depc calls) ≡ depc = size_law depc calls in
    let read : slot < depc → slot_at (state_of depc calls) slot ≡ slot_of calls slot = read_law depc calls slot in
    grind (arith, common_steps, size, read)

-- what an accepted link rests on
exists : (s : List Slot) (slot : ℕ) → on_link s slot ≡ code.Done → slot < length s
exists s slot fits = grind (arith, common_steps)

unlinked : (s : List Slot) (slot : ℕ) → on_link s slot ≡ code.Done → linked_at s slot ≡ false
unlinked s slot fits = grind (arith, common_steps)

-- a call changes what is told of its slot, and of no other
linked_here : (depc : ℕ) (calls : List SlotCall) (slot : ℕ) (mode : Mode) → slot < depc
    → slot_of (Linking slot mode ∷ calls) slot ≡ record (slot_at (state_of depc calls) slot) { mode = Some mode }
linked_here depc calls slot mode below = rw (read_law depc calls slot below, same slot) refl

linked_apart : (calls : List SlotCall) (slot : ℕ) (mode : Mode) (k : ℕ) → (slot == k) ≡ false
    → slot_of (Linking slot mode ∷ calls) k ≡ slot_of calls k
linked_apart calls slot mode k apart = rw apart refl

set_here : (depc : ℕ) (calls : List SlotCall) (slot payload : ℕ) → slot < depc
    → slot_of (Setting slot payload ∷ calls) slot ≡ record (slot_at (state_of depc calls) slot) { payload = Some payload }
set_here depc calls slot payload below = rw (read_law depc calls slot below, same slot) refl

set_apart : (calls : List SlotCall) (slot payload k : ℕ) → (slot == k) ≡ false
    → slot_of (Setting slot payload ∷ calls) k ≡ slot_of calls k
set_apart calls slot payload k apart = rw apart refl

linked_one : (depc : ℕ) (calls : List SlotCall) (slot : ℕ) (mode : Mode) → slot < depc
    → state_of depc (Linking slot mode ∷ calls)
    ≡ set (state_of depc calls) slot (record (slot_at (state_of depc calls) slot) { mode = Some mode })
linked_one depc calls slot mode below =
    let after : ℕ → Slot = λ k. slot_of (Linking slot mode ∷ calls) k in
    let before : ℕ → Slot = λ k. slot_of calls k in
    values-set after before depc slot _ fresh below (linked_here depc calls slot mode below) (linked_apart calls slot mode)

pub link_law : LinkLaw
link_law depc calls slot mode fits =
    let s : List Slot = state_of depc calls in
    let below : slot < depc = omega (arith, exists s slot fits, size_law depc calls) in
    grind (arith, common_steps, linked_one depc calls slot mode below, unlinked s slot fits, exists s slot fits)

pub set_law : SetLaw
set_law depc calls slot payload below =
    let after : ℕ → Slot = λ k. slot_of (Setting slot payload ∷ calls) k in
    let before : ℕ → Slot = λ k. slot_of calls k in
    values-set after before depc slot _ fresh below (set_here depc calls slot payload below) (set_apart calls slot payload)
