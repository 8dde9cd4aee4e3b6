-- The EDTs that have not started, rising, each with those of its slots that are not set.
use Rattle.std.specs.Prelude.{ℕ, List, [], ◌∷◌, ◌++◌, codes, length}
use Rattle.std.specs.List.{flat_map}
use Rattle.ocr_machine_history.specs.History.{Setting, History}
use Rattle.ocr_machine_history.specs.Output.{left_edts}
use Rattle.ocr_machine_parts.specs.Calls.{open_slots}
use Rattle.ocr_journal.specs.Phrase.{Text, phrase}
use Rattle.ocr_report.specs.Headed.{headed}

abbrev pub left_line : ℕ → List ℕ → Text
left_line t slots = phrase (codes "edt") (t ∷ []) ++ (phrase (codes " open") slots ++ 10 ∷ [])

abbrev pub left_lines : (ℕ → List ℕ) → List ℕ → Text
left_lines slots edts = flat_map (λ t. left_line t (slots t)) edts

abbrev pub left_text : Setting → History → Text
left_text s past =
    headed (codes "left") (length (left_edts past))
    (left_lines (open_slots s past) (left_edts past))
