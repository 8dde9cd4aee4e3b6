-- The messages of a journal's entries, by their places, and which were not delivered yet.
use Rattle.std.specs.Prelude.{ℕ, suc, List, [], ◌∷◌, ◌++◌, Option, Some, None, map, slice_index_or, slice_set}
use Rattle.ocr_machine_history.specs.declared.entry.What.{What}

-- what of an entry's messages was not delivered, from its index on; and of the entries from a place
-- on
abbrev pub left_of : ℕ → ℕ → List (Option What) → List (ℕ × ℕ × What)
left_of n i [] = []
left_of n i (None ∷ rest) = left_of n (suc i) rest
left_of n i (Some what ∷ rest) = (n, i, what) ∷ left_of n (suc i) rest

abbrev pub left_from : ℕ → List (List (Option What)) → List (ℕ × ℕ × What)
left_from n [] = []
left_from n (row ∷ rest) = left_of n 0 row ++ left_from (suc n) rest

-- the message of this name, where it was not delivered
abbrev pub message_at : List (List (Option What)) → ℕ → ℕ → Option What
message_at rows n i = slice_index_or (slice_index_or rows n []) i None

-- it is delivered
abbrev pub delivered_at : List (List (Option What)) → ℕ → ℕ → List (List (Option What))
delivered_at rows n i = slice_set rows n (slice_set (slice_index_or rows n []) i None)

abbrev pub sent_row : List What → List (Option What)
sent_row messages = map (λ what. Some what) messages
