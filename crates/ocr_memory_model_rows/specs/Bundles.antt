-- Rows of numbers.
use Rattle.std.specs.Prelude.{◌≡◌, ℕ, List, [], ◌∷◌, ◌==◌, if◌then◌else◌, Option, Some, None}
use Rattle.std.specs.Ordering.{nat_cmp}
use Rattle.std.specs.BTreeMap.{BTreeMap, get}

abbrev pub row_or_none : Option (List ℕ) → List ℕ
row_or_none None = []
row_or_none (Some row) = row

abbrev pub row_in : BTreeMap ℕ (List ℕ) → ℕ → List ℕ
row_in rows n = row_or_none (get nat_cmp rows n)

-- the places of this number have one more, where there is such a number, and no others
abbrev pub noted : Option ℕ → ℕ → ℕ → List ℕ → List ℕ
noted None place n places = places
noted (Some number) place n places = if number == n then place ∷ places else places

abbrev pub IsNoted : Option ℕ → ℕ → (ℕ → List ℕ) → (ℕ → List ℕ) → Type 0
IsNoted number place f h = (n : ℕ) → h n ≡ noted number place n (f n)
