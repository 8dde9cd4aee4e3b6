-- The links of events, by a map.
use Rattle.std.specs.Prelude.{◌≡◌, ℕ, List, [], Option, Some, None}
use Rattle.std.specs.Ordering.{nat_cmp}
use Rattle.std.specs.BTreeMap.{BTreeMap, get}
use Rattle.ocr_machine_history.specs.History.{History}
use Rattle.ocr_memory_model_order.specs.Makers.{links_at}

abbrev pub pairs_in : Option (List (ℕ × ℕ)) → List (ℕ × ℕ)
pairs_in None = []
pairs_in (Some ns) = ns

abbrev pub links_in : BTreeMap ℕ (List (ℕ × ℕ)) → ℕ → List (ℕ × ℕ)
links_in links x = pairs_in (get nat_cmp links x)

abbrev pub AreLinks : History → BTreeMap ℕ (List (ℕ × ℕ)) → Type 0
AreLinks past m = (x : ℕ) → links_in m x ≡ links_at past x
