-- The index of the names of a function.
use Rattle.std.specs.Prelude.{◌≡◌, ℕ, List, true, false, bytes_eq, Option, None, Some}
use Rattle.std.specs.Borrow.{Bor}
use Rattle.std.specs.BTreeMap.{BTreeMap, get_by}
use Rattle.std.specs.Cmp.Lexicographic.{slice_cmp}
use Rattle.std.specs.List.{list_any}
use Rattle.std.specs.Ordering.{nat_cmp}
use Rattle.ocr_body_code.specs.Code.{are_distinct}
use Rattle.ocr_body_code.specs.Resolved.{IsPlace}

-- the place that an index has for a name
abbrev pub place_in : BTreeMap (Bor (List ℕ)) ℕ → List ℕ → Option ℕ
place_in index name = get_by (λ key. slice_cmp nat_cmp name key.now) index

-- an index has the place of each of these names, which are all different, and no other
pub record ArePlaces (names : List (List ℕ)) (index : BTreeMap (Bor (List ℕ)) ℕ) : Type 0 where
  pub distinct : are_distinct names ≡ true
  pub place : (name : List ℕ) (place : ℕ) → place_in index name ≡ Some place
      → IsPlace names place name
  pub none : (name : List ℕ) → place_in index name ≡ None → list_any (bytes_eq name) names ≡ false
