-- The objects that are destroyed, by a call or by firing, as the entries of any journal tell them,
-- and the text on their uses.
use Rattle.std.specs.Prelude.{ℕ, [], ◌∷◌, ◌++◌, Bool, false, ◌||◌, ◌==◌, Option, Some, None, length, codes}
use Rattle.ocr_machine_history.specs.History.{History}
use Rattle.ocr_machine_history.specs.Stale.{stale_uses}
use Rattle.ocr_machine_rules.specs.Blocks.{was_destroyed}
use Rattle.ocr_journal.specs.Phrase.{Text}
use Rattle.ocr_report.specs.Fired.{was_fired}
use Rattle.ocr_report.specs.Headed.{headed}
use Rattle.ocr_report.specs.Stale.{stale_line}

-- an object, if any, is this one
abbrev pub is_victim : Option ℕ → ℕ → Bool
is_victim None g = false
is_victim (Some n) g = n == g

abbrev pub is_destroyed : History → ℕ → Bool
is_destroyed past g = was_destroyed past g || was_fired past g

-- the report by these, whether the history is a run or not
abbrev pub told_lines : History → Text
told_lines [] = []
told_lines (e ∷ past) = told_lines past ++ stale_line (is_destroyed past) e

abbrev pub told_text : History → Text
told_text past = headed (codes "stale") (length (stale_uses past)) (told_lines past)
