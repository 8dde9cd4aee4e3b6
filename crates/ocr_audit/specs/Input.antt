-- The input of an audit: a line that tells how many bytes the task text has, the task text, and
-- then at once the text of a journal.
use Rattle.std.specs.Prelude.{◌≡◌, ◌≤◌, ◌<◌, ◌+◌, ℕ, List, [], ◌∷◌, ◌++◌, length, slice_index, codes, decimal}
use Rattle.ocr_audit.specs.declared.input.TheConstants.{MOST_BYTES}

-- the line before a task text of so many bytes
abbrev pub header : ℕ → List ℕ
header count = codes "program " ++ (decimal count ++ 10 ∷ [])

-- these bytes are a task text behind its line, and a rest
pub record IsInput (bytes text rest : List ℕ) : Type 0 where
  pub laid : bytes ≡ codes "program " ++ (decimal (length text) ++ 10 ∷ (text ++ rest))
  pub few : length text ≤ MOST_BYTES

-- in these bytes the task text starts at a and ends before b
pub record IsSplit (bytes : List ℕ) (a b : ℕ) : Type 0 where
  pub text : List ℕ
  pub rest : List ℕ
  pub input : IsInput bytes text rest
  pub start : a ≡ length (header (length text))
  pub end : b ≡ a + length text

-- digits without leading zeros: some, and no zero before others
abbrev pub IsPlain : List ℕ → Type 0
IsPlain digits = (0 < length digits) × (slice_index digits 0 ≡ 48 → length digits ≡ 1)

-- bytes have one task text at most, and one rest
pub record InputLaw : Type 0 where
  pub one_text : (bytes text rest other others : List ℕ) → IsInput bytes text rest
      → IsInput bytes other others → text ≡ other
  pub one_rest : (bytes text rest other others : List ℕ) → IsInput bytes text rest
      → IsInput bytes other others → rest ≡ others
