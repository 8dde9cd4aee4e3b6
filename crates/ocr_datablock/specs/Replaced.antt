-- The words of a loan as they are now, and what was replaced in them: what these tell of the loan's
-- writes. The words with which it began are the words as they are now, with what was replaced
-- written back.
use Rattle.std.specs.Prelude.{◌≡◌, ◌<◌, ◌≤◌, ℕ, ◌+◌, List, [], ◌∷◌, ◌==◌, if◌then◌else◌, length, slice_index}
use Rattle.std.specs.List.{All}
use Rattle.ocr_acquire.specs.Writes.{put}

-- how often writes name a word
abbrev pub times : ℕ → List (ℕ × ℕ) → ℕ
times k [] = 0
times k (write ∷ rest) = (if write.0 == k then 1 else 0) + times k rest

-- the words that were replaced, rising, each with its value as it is now
abbrev pub writes_in : List (ℕ × ℕ) → List ℕ → List (ℕ × ℕ)
writes_in [] words = []
writes_in (write ∷ rest) words = put write.0 (slice_index words write.0) (writes_in rest words)

-- a word that was replaced, with its value as it is now
abbrev pub write_of : List ℕ → ℕ × ℕ → ℕ × ℕ
write_of words write = (write.0, slice_index words write.0)

-- The marks count for each word how often it was replaced: once, or not at all. There is one for
-- each word, from the first that is replaced on.
pub record IsMarked (replaced : List (ℕ × ℕ)) (marks : List ℕ) (size : ℕ) : Type 0 where
  pub within : All (λ write. write.0 < size) replaced
  pub counted : (k : ℕ) → times k replaced ≡ slice_index marks k
  pub once : (k : ℕ) → slice_index marks k ≤ 1
  pub made : 0 < length replaced → length marks ≡ size

-- nothing is marked
abbrev pub AreClear : List ℕ → Type 0
AreClear marks = (k : ℕ) → slice_index marks k ≡ 0
