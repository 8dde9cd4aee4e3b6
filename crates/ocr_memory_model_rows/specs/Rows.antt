-- Sets of places as words of 64 bits.
use Rattle.std.specs.Prelude.{ℕ, List, [], ◌/◌, ◌%◌, Bool, ◌==◌, slice_index, slice_index_or}
use Rattle.std.specs.Int.{bit_at}

abbrev pub has : List ℕ → ℕ → Bool
has words a = bit_at (slice_index words (a / 64)) (a % 64) == 1

-- the row of a place
abbrev pub row_at : List (List ℕ) → ℕ → List ℕ
row_at rows b = slice_index_or rows b []
