-- Lists of numbers, each found by a number.
use Rattle.std.specs.Prelude.{ℕ, List, [], Option, Some, None}
use Rattle.std.specs.Ordering.{nat_cmp}
use Rattle.std.specs.BTreeMap.{BTreeMap, get}

abbrev pub items_in : Option (List ℕ) → List ℕ
items_in None = []
items_in (Some ns) = ns

abbrev pub list_at : BTreeMap ℕ (List ℕ) → ℕ → List ℕ
list_at lists n = items_in (get nat_cmp lists n)
