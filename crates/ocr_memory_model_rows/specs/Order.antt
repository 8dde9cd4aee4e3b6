-- The order of places.
use Rattle.std.specs.Prelude.{◌≡◌, ◌≤◌, ◌<◌, ◌+◌, ◌/◌, ◌==◌, ◌||◌, ℕ, List, length}
use Rattle.ocr_memory_model_rows.specs.Places.{Graph, reaches, reaches_any}
use Rattle.ocr_memory_model_rows.specs.Rows.{has, row_at}
use Rattle.std.specs.List.{AllByRecursion}
use Rattle.ocr_memory_model_rows.specs.Bundles.{row_in}
use Rattle.ocr_memory_model_rows.specs.declared.bundles.Bundles.{Bundles}
use Rattle.ocr_memory_model_rows.specs.declared.rows.Rows.{Rows}

-- the rows are those of the graph
pub record IsOrder (g : Graph) (rows : Rows) : Type 0 where
  pub count : length rows.rows.items ≡ length g
  pub room : (b : ℕ) → b < length g → length (row_at rows.rows.items b) ≡ b / 64 + 1
  pub is : (a b : ℕ) → b < length g → has (row_at rows.rows.items b) a ≡ reaches g a b

-- and this is the row of one place more
pub record IsNextRow (g : Graph) (causes : List ℕ) (row : List ℕ) : Type 0 where
  pub room : length row ≡ length g / 64 + 1
  pub is : (a : ℕ) → has row a ≡ ((a == length g) || reaches_any g a causes)

-- a set of the places of a list and of those before them
abbrev pub IsBundle : Graph → List ℕ → List ℕ → Type 0
IsBundle g places row = (a : ℕ) → has row a ≡ reaches_any g a places

-- for each number the set of these places
pub record AreBundles (g : Graph) (f : ℕ → List ℕ) (bundles : Bundles) : Type 0 where
  pub room : (n : ℕ) → length (row_in bundles.rows n) ≤ length g / 64 + 1
  pub below : (n : ℕ) → AllByRecursion (λ c. c < length g) (f n)
  pub is : (n : ℕ) → IsBundle g (f n) (row_in bundles.rows n)
