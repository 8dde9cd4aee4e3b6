-- A report is a line with a number and lines below it.
use Rattle.std.specs.Prelude.{ℕ, [], ◌∷◌, ◌++◌}
use Rattle.ocr_journal.specs.Phrase.{Text, phrase}

abbrev pub headed : Text → ℕ → Text → Text
headed words count lines = phrase words (count ∷ []) ++ 10 ∷ lines
