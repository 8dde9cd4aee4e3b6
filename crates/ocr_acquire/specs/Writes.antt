-- Words that are written into: which words, each with its last value, and what they make of the
-- words before.
use Rattle.std.specs.Prelude.{◌≡◌, ◌<◌, ◌≤◌, ℕ, ◌+◌, List, [], ◌∷◌, ◌==◌, nat_lt, if◌then◌else◌, Option, Some, length, slice_index, slice_set, unwrap_or}
use Rattle.std.specs.Map.{lookup}

-- A write is the place of a word and its value.

-- each word is above those before it, the first at least at `low`
abbrev pub RisesFrom : ℕ → List (ℕ × ℕ) → Type 0
RisesFrom low [] = Unit {0}
RisesFrom low (write ∷ rest) = (low ≤ write.0) × RisesFrom (write.0 + 1) rest

abbrev pub IsRising : List (ℕ × ℕ) → Type 0
IsRising writes = RisesFrom 0 writes

-- rising writes, with a value put in a word: it takes its word's place, or the place that is its
-- own
abbrev pub put : ℕ → ℕ → List (ℕ × ℕ) → List (ℕ × ℕ)
put word value [] = (word, value) ∷ []
put word value (write ∷ rest) =
    if nat_lt word write.0 then (word, value) ∷ write ∷ rest
    else if word == write.0 then (write.0, value) ∷ rest
    else write ∷ put word value rest

-- the value that writes have for a word
abbrev pub value_at : ℕ → List (ℕ × ℕ) → Option ℕ
value_at k writes = lookup (λ word. word == k) writes

-- words, with writes made in them one after another
abbrev pub written : List (ℕ × ℕ) → List ℕ → List ℕ
written [] words = words
written (write ∷ rest) words = written rest (slice_set words write.0 write.1)

-- THE LAWS.
-- A value that is put in a word is the word's value; other words keep theirs, and what rose rises.
abbrev pub PutLaw : Type 0
PutLaw = (word value : ℕ) (writes : List (ℕ × ℕ))
    → (IsRising writes → IsRising (put word value writes))
    × ((k : ℕ) → value_at k (put word value writes)
    ≡ (if word == k then Some value else value_at k writes))

-- Rising writes leave in each word their value for it, or what it was, and no word is added.
abbrev pub WrittenLaw : Type 0
WrittenLaw = (writes : List (ℕ × ℕ)) (words : List ℕ)
    → (length (written writes words) ≡ length words)
    × ((k : ℕ) → IsRising writes → k < length words
    → slice_index (written writes words) k ≡ unwrap_or (value_at k writes) (slice_index words k))
