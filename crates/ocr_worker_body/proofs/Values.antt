-- The values of an EDT's slots, slot by slot.
use Rattle.std.proofs.Common.{◌≡◌, ℕ, ◌+◌, ◌<◌, Bool, false, List, [], ◌∷◌, ◌++◌, length, drop, append_assoc, slice_index_or, refl, ap, sym, ◌∙◌, arith}
use Rattle.std.proofs.lemmas.Grind.{common_steps}
use Rattle.ocr_machine_parts.specs.Calls.{depv_in}
use Rattle.ocr_slots.specs.Slots.{slot_at}
use Rattle.ocr_slots.specs.declared.Slot.{Slot}
use Rattle.ocr_machine_parts.specs.Readiness.{filled}
use Rattle.ocr_worker_body.specs.Given.{are_used, is_used, value_by, values_by}

-- ONE MORE
pub used_more : (xs : List Bool) (slots : List Slot) (k : ℕ) → k < length slots → (xs ++ is_used (slot_at slots k) ∷ []) ++ are_used (drop (k + 1) slots) ≡ xs ++ are_used (drop k slots)
used_more xs slots k below =
    let next : drop k slots ≡ slot_at slots k ∷ drop (k + 1) slots = grind (arith, common_steps) in
    append_assoc xs (is_used (slot_at slots k) ∷ []) (are_used (drop (k + 1) slots)) ∙ sym (ap (λ (l : List Slot). xs ++ are_used l) next)

pub values_more : (stale xs : List ℕ) (used : List Bool) (payloads : List ℕ) (k : ℕ) → k < length used → k < length payloads
    → (xs ++ value_by stale (slice_index_or used k false) (slice_index_or payloads k 0) ∷ []) ++ values_by stale (drop (k + 1) used) (drop (k + 1) payloads) ≡ xs ++ values_by stale (drop k used) (drop k payloads)
values_more stale xs used payloads k first second =
    let us : drop k used ≡ slice_index_or used k false ∷ drop (k + 1) used = grind (arith, common_steps) in
    let ps : drop k payloads ≡ slice_index_or payloads k 0 ∷ drop (k + 1) payloads = grind (arith, common_steps) in
    append_assoc xs (value_by stale (slice_index_or used k false) (slice_index_or payloads k 0) ∷ []) (values_by stale (drop (k + 1) used) (drop (k + 1) payloads))
    ∙ sym (λ i. xs ++ values_by stale (us i) (ps i))

-- ALL
pub values_are : (stale : List ℕ) (slots : List Slot) (payloads : List ℕ) → values_by stale (are_used slots) payloads ≡ depv_in stale (filled slots payloads)
values_are stale [] payloads = refl
values_are stale (x ∷ rest) [] = refl
values_are stale (x ∷ rest) (p ∷ payloads) = ap (λ (l : List ℕ). value_by stale (is_used x) p ∷ l) (values_are stale rest payloads)

pub used_length : (slots : List Slot) → length (are_used slots) ≡ length slots
used_length [] = refl
used_length (x ∷ rest) = let r = used_length rest in omega (arith, r)
