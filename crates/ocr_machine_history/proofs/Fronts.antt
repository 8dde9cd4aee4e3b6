-- The fronts of a list of entries: what stands at a place, and the history of one entry more.
use Rattle.std.proofs.Common.{◌≡◌, ◌<◌, ◌≤◌, ◌+◌, ◌∙◌, ℕ, zero, suc, List, [], ◌∷◌, ◌++◌, length, take, slice_index_or, refl, ap, arith}
use Rattle.std.proofs.lemmas.Grind.{common_steps}
use Rattle.std.proofs.lemmas.List.{reverse-append}
use Rattle.ocr_machine_history.specs.declared.entry.Entry.{Entry}
use Rattle.ocr_machine_history.specs.History.{history_of}

pub item : (xs : List Entry) (i : ℕ) → i < length xs → Entry
item [] i below = absurd (omega (arith, below))
item (x ∷ xs) zero below = x
item (x ∷ xs) (suc i) below = item xs i (omega (arith, below))

pub item_is : (xs : List Entry) (i : ℕ) (below : i < length xs) → item xs i below ≡ slice_index_or xs i (item xs i below)
unfolding item
item_is [] i below = absurd (omega (arith, below))
item_is (x ∷ xs) zero below = refl
item_is (x ∷ xs) (suc i) below = item_is xs i (omega (arith, below))

pub all_of : (xs : List Entry) → take (length xs) xs ≡ xs
all_of [] = refl
all_of (x ∷ xs) = ap (λ l. x ∷ l) (all_of xs)

pub past_len : (xs : List Entry) (n : ℕ) → n ≤ length xs → length (history_of (take n xs)) ≡ n
past_len xs n within = grind (arith, common_steps)

take_next : (xs : List Entry) (i : ℕ) (e : Entry) → i < length xs → e ≡ slice_index_or xs i e → take (i + 1) xs ≡ take i xs ++ e ∷ []
take_next xs i e below is = grind (arith, common_steps)

-- the history after one more entry
pub history_next : (xs : List Entry) (i : ℕ) (e : Entry) → i < length xs → e ≡ slice_index_or xs i e → history_of (take (i + 1) xs) ≡ e ∷ history_of (take i xs)
history_next xs i e below is = ap history_of (take_next xs i e below is) ∙ reverse-append (take i xs) (e ∷ [])
