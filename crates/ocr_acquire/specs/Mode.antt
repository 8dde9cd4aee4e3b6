-- The modes in which an EDT asks for a block: their numbers, their order, and which of them go
-- together.
use Rattle.std.specs.Prelude.{◌≡◌, ℕ, ◌+◌, List, [], ◌∷◌, Bool, true, false, ◌&&◌, ◌==◌, if◌then◌else◌, Option, Some, None}
use Rattle.ocr_acquire.specs.declared.Mode.{Mode}
use Rattle.ocr_acquire.specs.declared.Mode.TheVariants as mode

-- the place of a mode in NULL < RO < CONST < RW < EW, which is its number
abbrev pub rank_of : Mode → ℕ
rank_of mode.Null = 0
rank_of mode.Ro = 1
rank_of mode.Const = 2
rank_of mode.Rw = 3
rank_of mode.Ew = 4

-- the mode of a number
abbrev pub mode_of : ℕ → Option Mode
mode_of n =
    if n == 0 then Some mode.Null
    else if n == 1 then Some mode.Ro
    else if n == 2 then Some mode.Const
    else if n == 3 then Some mode.Rw
    else if n == 4 then Some mode.Ew
    else None

abbrev pub is_null : Mode → Bool
is_null mode.Null = true
is_null mode.Ro = false
is_null mode.Const = false
is_null mode.Rw = false
is_null mode.Ew = false

-- in these modes loads and stores are no entries
abbrev pub is_isolated : Mode → Bool
is_isolated mode.Ew = true
is_isolated mode.Const = true
is_isolated other = false

abbrev pub is_writable : Mode → Bool
is_writable mode.Rw = true
is_writable mode.Ew = true
is_writable other = false

-- only who holds a block in EW has it alone, and may write into a loan of its words
abbrev pub is_exclusive : Mode → Bool
is_exclusive mode.Ew = true
is_exclusive other = false

-- These may hold a block together: RW with RW and RO; RO with RW, RO and CONST; CONST with RO and
-- CONST; EW with nobody.
abbrev pub together : Mode → Mode → Bool
together mode.Rw mode.Rw = true
together mode.Rw mode.Ro = true
together mode.Ro mode.Rw = true
together mode.Ro mode.Ro = true
together mode.Ro mode.Const = true
together mode.Const mode.Ro = true
together mode.Const mode.Const = true
together one other = false

-- a mode goes with that of every holder
abbrev pub fits_all : Mode → List (ℕ × Mode) → Bool
fits_all m [] = true
fits_all m (holder ∷ rest) = together m holder.1 && fits_all m rest

-- the mode that goes with a number among holds: that of an EDT among those who hold a block, that
-- of a block among what an EDT holds
abbrev pub mode_in : ℕ → List (ℕ × Mode) → Option Mode
mode_in number [] = None
mode_in number (hold ∷ rest) = if hold.0 == number then Some hold.1 else mode_in number rest

-- THE LAWS.
-- each mode is the mode of its number, so that no two modes have one number
abbrev pub NumberLaw : Type 0
NumberLaw = (m : Mode) → mode_of (rank_of m) ≡ Some m

-- the modes stand in their order, one above the other
abbrev pub OrderLaw : Type 0
OrderLaw =
    (rank_of mode.Null + 1 ≡ rank_of mode.Ro) × (rank_of mode.Ro + 1 ≡ rank_of mode.Const)
    × (rank_of mode.Const + 1 ≡ rank_of mode.Rw) × (rank_of mode.Rw + 1 ≡ rank_of mode.Ew)

-- who may share a block with another, with him the other may share it
abbrev pub SharingLaw : Type 0
SharingLaw = (one other : Mode) → together one other ≡ together other one

-- a writer alone shares with nobody
abbrev pub AloneLaw : Type 0
AloneLaw = (m : Mode) → together mode.Ew m ≡ false
