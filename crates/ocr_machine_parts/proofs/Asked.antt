-- What slots ask for, one after another.
use Rattle.std.proofs.Common.{◌≡◌, ℕ, zero, suc, ◌+◌, ◌<◌, List, [], ◌∷◌, ◌++◌, length, drop, Some, refl, ap, sym, ◌∙◌, arith}
use Rattle.std.specs.Prelude.{slice_index}
use Rattle.std.proofs.lemmas.List.{append_assoc}
use Rattle.ocr_acquire.specs.declared.Mode.{Mode}
use Rattle.ocr_slots.specs.declared.Slot.{Slot}
use Rattle.ocr_slots.specs.Slots.{slot_at}
use Rattle.ocr_machine_parts.specs.Calls.{asks_in, asks_of}
use Rattle.ocr_machine_parts.specs.Readiness.{filled}

from_here : (slots : List Slot) (depv : List ℕ) (k : ℕ) → k < length slots → length depv ≡ length slots
    → asks_in (filled (drop k slots) (drop k depv)) ≡ asks_of (Some (slice_index depv k)) (slot_at slots k).mode ++ asks_in (filled (drop (suc k) slots) (drop (suc k) depv))
from_here [] depv k lt len = absurd (omega (arith, lt))
from_here (x ∷ xs) [] k lt len = absurd (omega (arith, len))
from_here (x ∷ xs) (v ∷ vs) zero lt len = refl
from_here (x ∷ xs) (v ∷ vs) (suc k) lt len = from_here xs vs k (omega arith) (omega (arith, len))

asks_from : (slots : List Slot) (depv : List ℕ) (k : ℕ) → k < length slots → length depv ≡ length slots
    → asks_in (filled (drop k slots) (drop k depv)) ≡ asks_of (Some (slice_index depv k)) (slot_at slots k).mode ++ asks_in (filled (drop (k + 1) slots) (drop (k + 1) depv))
asks_from slots depv k lt len =
    let e : suc k ≡ k + 1 = omega arith in
    from_here slots depv k lt len ∙ ap (λ (n : ℕ). asks_of (Some (slice_index depv k)) (slot_at slots k).mode ++ asks_in (filled (drop n slots) (drop n depv))) e

pub asks_step : (slots : List Slot) (depv : List ℕ) (k p : ℕ) (acc more all : List (ℕ × Mode)) → k < length slots → length depv ≡ length slots → p ≡ slice_index depv k → acc ++ asks_in (filled (drop k slots) (drop k depv)) ≡ all
    → more ≡ acc ++ asks_of (Some p) (slot_at slots k).mode → more ++ asks_in (filled (drop (k + 1) slots) (drop (k + 1) depv)) ≡ all
asks_step slots depv k p acc more all lt len is before now =
    ap (λ (l : List (ℕ × Mode)). l ++ asks_in (filled (drop (k + 1) slots) (drop (k + 1) depv))) (now ∙ ap (λ (q : ℕ). acc ++ asks_of (Some q) (slot_at slots k).mode) is)
    ∙ (append_assoc acc (asks_of (Some (slice_index depv k)) (slot_at slots k).mode) (asks_in (filled (drop (k + 1) slots) (drop (k + 1) depv)))
    ∙ (ap (λ (l : List (ℕ × Mode)). acc ++ l) (sym (asks_from slots depv k lt len)) ∙ before))
