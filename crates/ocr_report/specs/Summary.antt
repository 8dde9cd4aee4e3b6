-- How many EDTs were made, have started and have not, and how many uses of destroyed objects there
-- are.
use Rattle.std.specs.Prelude.{ℕ, [], ◌∷◌, ◌++◌, length, codes}
use Rattle.ocr_machine_history.specs.History.{History}
use Rattle.ocr_machine_history.specs.Made.{made_edts}
use Rattle.ocr_machine_history.specs.Output.{left_edts}
use Rattle.ocr_machine_history.specs.Stale.{stale_uses}
use Rattle.ocr_journal.specs.Phrase.{Text, phrase}
use Rattle.ocr_report.specs.Edts.{started_edts}

abbrev pub summary_line : (made started left stale : ℕ) → Text
summary_line made started left stale =
    phrase (codes "edts") (made ∷ []) ++ (phrase (codes " started") (started ∷ [])
    ++ (phrase (codes " left") (left ∷ []) ++ (phrase (codes " stale") (stale ∷ []) ++ 10 ∷ [])))

abbrev pub summary_text : History → Text
summary_text past =
    summary_line (length (made_edts past)) (length (started_edts past)) (length (left_edts past))
    (length (stale_uses past))
