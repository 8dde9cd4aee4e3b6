-- The entry at a place of a list of entries.
use Rattle.std.proofs.Common.{◌≡◌, ◌≤◌, ◌<◌, inl, inr, ℕ, zero, suc, ◌+◌, List, ◌∷◌, length, take, Some, sym, ap, ◌∙◌, subst, arith}
use Rattle.std.specs.Prelude.{slice_index_or}
use Rattle.std.proofs.lemmas.List.{get_or_default}
use Rattle.ocr_machine_history.specs.declared.entry.Entry.{Entry}
use Rattle.ocr_machine_history.specs.History.{history_of}
use Rattle.ocr_machine_history.proofs.Fronts.{history_next, past_len, all_of, item, item_is}
use Rattle.ocr_memory_model_order.specs.Places.{entry_at}
use Rattle.ocr_memory_model_order.proofs.Fronts.{new_entry, old_entry, newest_or}

plus_one : (n : ℕ) → n + 1 ≡ suc n
plus_one n = omega arith

-- it stands there in the history too
entry_there : (xs : List Entry) (n k : ℕ) (e : Entry) → n ≤ length xs → k < n → e ≡ slice_index_or xs k e → entry_at (history_of (take n xs)) k ≡ Some e
entry_there xs zero k e within low is = absurd (omega (arith, low))
entry_there xs (suc n) k e within low is =
    let below : n < length xs = omega (arith, within) in
    let x : Entry = item xs n below in
    let here : x ≡ slice_index_or xs n x = item_is xs n below in
    let next : history_of (take (n + 1) xs) ≡ x ∷ history_of (take n xs) = history_next xs n x below here in
    let len : length (history_of (take n xs)) ≡ n = past_len xs n (omega (arith, below)) in
    subst (λ m. entry_at (history_of (take m xs)) k ≡ Some e) (plus_one n)
    (subst (λ h. entry_at h k ≡ Some e) (sym next)
    (elim (newest_or k (history_of (take n xs)) (omega (arith, low, len))) [
      | inl new ↦
          let at : k ≡ n = new ∙ len in
          subst (λ m. entry_at (x ∷ history_of (take n xs)) m ≡ Some e) (sym new)
          (new_entry (history_of (take n xs)) x ∙ ap (λ (y : Entry). Some y)
          (here ∙ get_or_default xs n x e below ∙ ap (λ m. slice_index_or xs m e) (sym at) ∙ sym is))
      | inr old ↦ old_entry (history_of (take n xs)) x k old ∙ entry_there xs n k e (omega (arith, below)) (omega (arith, old, len)) is
    ]))

pub entry_in : (xs : List Entry) (k : ℕ) (e : Entry) → k < length xs → e ≡ slice_index_or xs k e → entry_at (history_of xs) k ≡ Some e
entry_in xs k e low is = subst (λ l. entry_at (history_of l) k ≡ Some e) (all_of xs) (entry_there xs (length xs) k e (omega arith) low is)

pub history_length : (xs : List Entry) → length (history_of xs) ≡ length xs
history_length xs = ap (λ l. length (history_of l)) (sym (all_of xs)) ∙ past_len xs (length xs) (omega arith)
