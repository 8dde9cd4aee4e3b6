-- How many of the holders of a block each mode does not go with.
use Rattle.std.specs.Prelude.{◌≡◌, ◌≤◌, ℕ, ◌+◌, List, [], ◌∷◌, if◌then◌else◌, length}
use Rattle.ocr_acquire.specs.declared.Mode.{Mode}
use Rattle.ocr_acquire.specs.declared.Mode.TheVariants as mode
use Rattle.ocr_acquire.specs.Mode.{together}
use Rattle.ocr_datablock.specs.declared.tally.Tally.{Tally}

-- whether a mode does not go with another, as a number
abbrev pub clash : Mode → Mode → ℕ
clash m other = if together m other then 0 else 1

-- how many of the holders a mode does not go with
abbrev pub clashes : Mode → List (ℕ × Mode) → ℕ
clashes m [] = 0
clashes m (one ∷ rest) = clash m one.1 + clashes m rest

pub record IsTally (tally : Tally) (holders : List (ℕ × Mode)) : Type 0 where
  pub ro : tally.ro ≡ clashes mode.Ro holders
  pub constant : tally.constant ≡ clashes mode.Const holders
  pub rw : tally.rw ≡ clashes mode.Rw holders
  pub all : tally.all ≡ length holders

-- no more are counted against a mode than are counted
abbrev pub IsBounded : Tally → Type 0
IsBounded tally = (tally.ro ≤ tally.all) × (tally.constant ≤ tally.all) × (tally.rw ≤ tally.all)

-- one who has this mode can be among those who are counted
abbrev pub CountsOne : Tally → Mode → Type 0
CountsOne tally m =
    (clash mode.Ro m ≤ tally.ro) × (clash mode.Const m ≤ tally.constant)
    × (clash mode.Rw m ≤ tally.rw) × (1 ≤ tally.all)
