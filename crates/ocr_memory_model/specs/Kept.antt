-- What the maps of places tell.
use Rattle.std.specs.Prelude.{◌≡◌, ℕ, List, reverse}
use Rattle.std.specs.BTreeMap.{BTreeMap}
use Rattle.ocr_machine_history.specs.History.{History}
use Rattle.ocr_memory_model_order.specs.Causes.{last_of, starting}
use Rattle.ocr_memory_model.specs.Keys.{last_in, list_at}
use Rattle.ocr_memory_model_order.specs.Makers.{satisfies}
use Rattle.ocr_memory_model_order.specs.Places.{places}

abbrev pub AreLast : History → BTreeMap ℕ ℕ → Type 0
AreLast past m = (t : ℕ) → last_in m t ≡ last_of past t

abbrev pub AreStarting : History → BTreeMap ℕ (List ℕ) → Type 0
AreStarting past m = (t : ℕ) → list_at m t ≡ reverse (places (starting t) past)

-- the satisfactions of each event
abbrev pub AreSatisfactions : History → BTreeMap ℕ (List ℕ) → Type 0
AreSatisfactions past m = (x : ℕ) → list_at m x ≡ reverse (places (satisfies x) past)
