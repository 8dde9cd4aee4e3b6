-- The walk along the pairs of touches.
use Rattle.std.specs.Prelude.{◌≡◌, ℕ, zero, suc, ◌+◌, ◌-◌, List, [], ◌∷◌, ◌++◌, drop, length, Bool, ◌&&◌, nat_lt, slice_index_or, Option, Some, None}
use Rattle.ocr_machine_history.specs.History.{History, Setting}
use Rattle.ocr_memory_model_rows.specs.Places.{reaches}
use Rattle.ocr_memory_model_order.specs.Causes.{graph_of}
use Rattle.ocr_memory_model.specs.declared.walk.Pair.{Pair}
use Rattle.ocr_memory_model.specs.declared.race.Race.{Race}
use Rattle.ocr_memory_model.specs.declared.walk.Touches.{Touches}
use Rattle.ocr_memory_model.specs.declared.touch.Touch.{Touch}
use Rattle.ocr_memory_model.specs.Touches.{race_of, races_with, races_in}

-- happens before, as its graph tells it
abbrev pub is_before : Setting → History → ℕ → ℕ → Bool
is_before s J a b = nat_lt a b && reaches (graph_of s J) a b

-- the races of the first touch with these, and of the others
abbrev pub races_past : (ℕ → ℕ → Bool) → List Touch → List Touch → List Race
races_past is_before [] later = []
races_past is_before (x ∷ rest) later = races_with is_before x later ++ races_in is_before rest

-- those from a pair on
abbrev pub races_from : (ℕ → ℕ → Bool) → List Touch → Pair → List Race
races_from is_before touches at =
    races_past is_before (drop at.first touches) (drop at.second touches)

abbrev pub races_left : Setting → History → Touches → Pair → List Race
races_left s J touches at = races_from (is_before s J) touches.list.items at

-- and from the first on
abbrev pub first_pair : Pair
first_pair = record { first = 0; second = 1 }

abbrev pub all_races : Setting → History → Touches → List Race
all_races s J touches = races_left s J touches first_pair

-- how many pairs there are at most
abbrev pub triangle : ℕ → ℕ
triangle zero = 0
triangle (suc n) = suc n + triangle n

abbrev pub pairs_left : Touches → Pair → ℕ
pairs_left touches at =
    triangle (length touches.list.items - at.first) + (length touches.list.items - at.second)

-- what one step of the walk tells
abbrev pub IsNextRace : Setting → History → Touches → Pair → Option (Race × Pair) → Type 0
IsNextRace s J touches at None = races_left s J touches at ≡ []
IsNextRace s J touches at (Some found) =
    races_left s J touches at ≡ found.0 ∷ races_left s J touches found.1

-- and what one step along the partners of a touch tells
abbrev pub IsPartner : (ℕ → ℕ → Bool) → Touch → List Touch → ℕ → Option ℕ → Type 0
IsPartner is_before x touches from None = races_with is_before x (drop from touches) ≡ []
IsPartner is_before x touches from (Some second) =
    (y : Touch) → y ≡ slice_index_or touches second y
    → races_with is_before x (drop from touches)
    ≡ race_of x y ∷ races_with is_before x (drop (suc second) touches)
