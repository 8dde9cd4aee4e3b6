-- The holds of one EDT, as its judge keeps them.
use Rattle.std.specs.Prelude.{◌≡◌, ℕ, List, [], ◌∷◌, length, true, ◌==◌, if◌then◌else◌, Option, Some, None}
use Rattle.ocr_acquire.specs.Writes.{IsRising, put}
use Rattle.ocr_body_meaning.specs.Holds.{Hold, Holds, with_hold, Access, Refused, Silent, Entered}
use Rattle.ocr_acquire.specs.Mode.{is_isolated}
use Rattle.ocr_replay_body.specs.declared.holds.Found.{Found}
use Rattle.ocr_replay_body.specs.declared.holds.Found.TheVariants as found

-- the hold of a block among blocks with their holds
abbrev pub held_in : List (ℕ × Hold) → Holds
held_in [] d = None
held_in (one ∷ rest) d = if one.0 == d then Some one.1 else held_in rest d

-- the holds, with one that begins, where there is one
abbrev pub with_begun : ℕ → Option Hold → Holds → Holds
with_begun d None holds = holds
with_begun d (Some h) holds = with_hold d (Some h) holds

-- with a value in a word
abbrev pub hold_with : ℕ → ℕ → Hold → Hold
hold_with w v h =
    record { mode = h.mode; size = h.size; began = h.began; writes = put w v h.writes }

-- in EW and CONST all words are there
pub record IsWholeHold (h : Hold) : Type 0 where
  pub words : is_isolated h.mode ≡ true → length h.began ≡ h.size
  pub rising : IsRising h.writes

-- what a load or a store was found to come to
abbrev pub access_of : Found → Access
access_of (found.Refused s) = Refused s
access_of (found.Silent v) = Silent v
access_of found.Entered = Entered

-- how many private writes each hold has
abbrev pub counts_of : List (ℕ × Hold) → List (ℕ × ℕ)
counts_of [] = []
counts_of (one ∷ rest) = (one.0, length one.1.writes) ∷ counts_of rest

abbrev pub count_in : List (ℕ × ℕ) → ℕ → ℕ
count_in [] d = 0
count_in (one ∷ rest) d = if one.0 == d then one.1 else count_in rest d
