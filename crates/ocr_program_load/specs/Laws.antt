-- The text of `load` is a program.
use Rattle.std.specs.Prelude.{◌≤◌, ◌<◌, ◌^◌, ℕ, List, length}
use Rattle.ocr_program_tree.specs.Tree.{FunctionTree}
use Rattle.ocr_program_canonical.specs.RoundTrip.{IsTextOf}
use Rattle.ocr_program_check.specs.Check.{BreaksNoRule}
use Rattle.ocr_program_load.specs.LoadText.{load_text}

-- the text with this number of layers is a program that breaks no rule
pub record IsLoaded (n : ℕ) : Type 0 where
  pub program : List FunctionTree
  pub is_text : IsTextOf (load_text n) program
  pub sound : BreaksNoRule program
  pub short : length (load_text n) ≤ 2000

abbrev pub LoadLaw : Type 0
LoadLaw = (n : ℕ) → n < 2 ^ 64 → IsLoaded n
