-- The EDTs that have started, and those that have not.
use Rattle.std.specs.Prelude.{◌≡◌, ◌<◌, ℕ, List, [], ◌∷◌, Bool, true, false, filter, length, slice_index_or}
use Rattle.ocr_machine_history.specs.History.{History}
use Rattle.ocr_machine_history.specs.Made.{made_edts}
use Rattle.ocr_machine_history.specs.Edts.{is_started}

abbrev pub started_edts : History → List ℕ
started_edts past = filter (is_started past) (made_edts past)

-- a number alone, and nothing where it is out
abbrev pub kept_if : (is_out : Bool) → ℕ → List ℕ
kept_if true n = []
kept_if false n = n ∷ []

-- the marks say of the numbers that have one whether an EDT of this number has started
abbrev pub AreMarks : List Bool → History → Type 0
AreMarks marks past =
    (t : ℕ) → t < length marks → slice_index_or marks t false ≡ is_started past t
