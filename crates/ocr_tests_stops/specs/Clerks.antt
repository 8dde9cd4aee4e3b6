-- A gate's clerk, before it acts and after.
use Rattle.std.specs.Prelude.{◌≡◌, ◌≢◌, ◌≤◌, ℕ, Option, Some}
use Rattle.ocr_body_code.specs.declared.checked.Checked.{Checked}
use Rattle.ocr_body_code.specs.Checked.{checked_tree}
use Rattle.ocr_program_tree.specs.Runnable.{IsRunnable}
use Rattle.ocr_turns_rule.specs.Contract.{IsOfTable}
use Rattle.ocr_worker_clerk.specs.Entry.{OcrKnown}
use Rattle.ocr_worker_clerk.specs.Work.{OcrTable}

-- the program of a table
abbrev pub program_of : OcrTable → Checked
program_of table = table.1.setting.value.program

-- a clerk of the table that is not the root
abbrev pub IsOut : OcrTable → OcrKnown → Type 0
IsOut table c = IsOfTable table c × (c.view.root ≡ 0)

-- one that has a unit to spare and room for a Stop, and did not end the run, which may be run
pub record CanEnd (table : OcrTable) (c : OcrKnown) : Type 0 where
  pub out : IsOut table c
  pub unit : 1 ≤ c.view.spares
  pub room : 1 ≤ c.room
  pub goes : c.view.ended ≡ 0
  pub runnable : IsRunnable (checked_tree (program_of table))

-- the clerk is of the table, if this is one, and where it is still to act it can do so
abbrev pub IsHeld : Option OcrTable → ℕ → OcrKnown → Type 0
IsHeld known left c = (table : OcrTable) → known ≡ Some table
    → IsOut table c × (left ≢ 0 → CanEnd table c)
