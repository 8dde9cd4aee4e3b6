-- What an EDT acquires before it starts: its plan, made of the blocks and modes of its slots.
use Rattle.std.specs.Prelude.{◌≡◌, ◌≢◌, ◌↔◌, ℕ, ◌<◌, ◌≤◌, List, [], ◌∷◌, Bool, false, ◌&&◌, not, ◌==◌, nat_lt, length, if◌then◌else◌}
use Rattle.std.specs.List.{All, Contains}
use Rattle.ocr_acquire.specs.declared.Mode.{Mode}
use Rattle.ocr_acquire.specs.Mode.{rank_of, is_null}

-- A slot is its payload and its mode. A member of a plan is a block and the mode in which it is
-- acquired.

-- the blocks rise, and the first of them is above `low`
abbrev pub RisesFrom : ℕ → List (ℕ × Mode) → Type 0
RisesFrom low [] = Unit {0}
RisesFrom low (member ∷ rest) = (low < member.0) × RisesFrom member.0 rest

-- what an EDT may be given as its plan: each block once, in rising order, none of them NULL_GUID,
-- none in mode NULL
pub record IsWellFormed (plan : List (ℕ × Mode)) : Type 0 where
  pub rising : RisesFrom 0 plan
  pub used : All (λ member. is_null member.1 ≡ false) plan

-- a block is wanted in a mode: it is no NULL_GUID, and the mode is the strongest of its slots and
-- not NULL
pub record IsWanted (slots : List (ℕ × Mode)) (block : ℕ) (mode : Mode) : Type 0 where
  pub named : block ≢ 0
  pub used : is_null mode ≡ false
  pub asked : Contains slots (block, mode)
  pub strongest : (other : Mode) → Contains slots (block, other) → rank_of other ≤ rank_of mode

-- a plan has what is wanted and nothing else, in rising order
pub record IsPlan (slots plan : List (ℕ × Mode)) : Type 0 where
  pub rising : RisesFrom 0 plan
  pub wanted : (block : ℕ) (mode : Mode) → Contains plan (block, mode) ↔ IsWanted slots block mode

-- THE PLAN AS A FUNCTION OF THE SLOTS.
abbrev pub stronger : Mode → Mode → Mode
stronger one other = if nat_lt (rank_of one) (rank_of other) then other else one

-- a block is put at its place, in the stronger of two modes
abbrev pub put : ℕ → Mode → List (ℕ × Mode) → List (ℕ × Mode)
put block mode [] = (block, mode) ∷ []
put block mode (member ∷ rest) =
    if nat_lt block member.0 then (block, mode) ∷ member ∷ rest
    else if block == member.0 then (block, stronger mode member.1) ∷ rest
    else member ∷ put block mode rest

abbrev pub asks : ℕ × Mode → Bool
asks slot = not (slot.0 == 0) && not (is_null slot.1)

abbrev pub plan_of : List (ℕ × Mode) → List (ℕ × Mode)
plan_of [] = []
plan_of (slot ∷ slots) = if asks slot then put slot.0 slot.1 (plan_of slots) else plan_of slots

abbrev pub begins_with : ℕ → List (ℕ × Mode) → Bool
begins_with block [] = false
begins_with block (member ∷ _) = block == member.0

-- of a sorted list the last entry of each block
abbrev pub last_of_each : List (ℕ × Mode) → List (ℕ × Mode)
last_of_each [] = []
last_of_each (entry ∷ rest) =
    if begins_with entry.0 rest then last_of_each rest else entry ∷ last_of_each rest

-- THE LAWS.
-- the slots have a plan, it is the only one, an EDT may be given it, and it is no longer than the
-- slots
abbrev pub PlanLaw : Type 0
PlanLaw = (slots : List (ℕ × Mode)) → IsPlan slots (plan_of slots)

abbrev pub OnlyPlanLaw : Type 0
OnlyPlanLaw = (slots plan : List (ℕ × Mode)) → IsPlan slots plan → plan ≡ plan_of slots

abbrev pub GivenLaw : Type 0
GivenLaw = (slots : List (ℕ × Mode)) → IsWellFormed (plan_of slots)

abbrev pub LengthLaw : Type 0
LengthLaw = (slots : List (ℕ × Mode)) → length (plan_of slots) ≤ length slots
