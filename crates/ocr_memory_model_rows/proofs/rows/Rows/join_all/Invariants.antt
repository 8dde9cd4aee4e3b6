use Rattle.std.proofs.Common.{ℕ, List, ◌++◌, take}
use Rattle.ocr_memory_model_rows.specs.Places.{Graph}
use Rattle.ocr_memory_model_rows.specs.Order.{IsOrder, IsNextRow}
use Rattle.ocr_memory_model_rows.proofs.rows.Rows.join_all.Given as goal

abbrev pub invariant-loop-place : goal.invariant-loop-place
invariant-loop-place l = (g : Graph) (causes : List ℕ) → IsOrder g l.self
    → IsNextRow g causes l.initial.row → IsNextRow g (take l.place-index l.places ++ causes) l.row
