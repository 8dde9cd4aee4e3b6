-- The journal of a run, told of the table that was finished.
use Rattle.std.specs.Prelude.{◌≡◌, ℕ, List, length}
use Rattle.ocr_worker_clerk.specs.Work.{OcrTerms, OcrView, meaning}
use Rattle.ocr_machine_history.specs.declared.entry.Entry.{Entry}
use Rattle.ocr_turns_rule.specs.Contract.{Finished}

-- a table of these terms, whose root came to this view, was finished with these logs and so many
-- entries, and this is its history
pub record IsHistoryOf (closing : List (List (ℕ × Entry)) × ℕ) (history : List Entry) : Type 0 where
  pub terms : OcrTerms
  pub root : OcrView
  pub finished : Finished meaning terms root closing.0
  pub whole : finished.history ≡ history
  pub count : closing.1 ≡ length history
