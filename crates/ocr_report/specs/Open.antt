-- The open slots of an EDT, as the tables of counts and of set slots tell them.
use Rattle.std.specs.Prelude.{ℕ, List, ◌==◌}
use Rattle.std.specs.List.{flat_map, list_any, range_with_len}
use Rattle.std.specs.Ordering.{nat_cmp}
use Rattle.std.specs.BTreeMap.{BTreeMap, get}
use Rattle.ocr_report.specs.declared.slots.Counted.{Counted}
use Rattle.ocr_report.specs.Edts.{kept_if}
use Rattle.ocr_report.specs.Lists.{list_at}
use Rattle.ocr_report.specs.Slots.{depc_in}

abbrev pub unset_below : List ℕ → ℕ → List ℕ
unset_below set n = flat_map (λ k. kept_if (list_any (λ m. m == k) set) k) (range_with_len 0 n)

abbrev pub open_in : BTreeMap ℕ Counted → BTreeMap ℕ (List ℕ) → ℕ → List ℕ
open_in counts sets t = unset_below (list_at sets t) (depc_in (get nat_cmp counts t))
