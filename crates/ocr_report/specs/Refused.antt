-- The satisfactions by messages that were refused, but for those on destroyed events.
use Rattle.std.specs.Prelude.{ℕ, ◌+◌, [], ◌∷◌, ◌++◌, ◌||◌, ◌==◌, if◌then◌else◌, codes, Option, Some, None}
use Rattle.ocr_guid.specs.Code.{number_of}
use Rattle.ocr_machine_history.specs.declared.entry.Entry.{Entry}
use Rattle.ocr_machine_history.specs.declared.entry.Entry.TheVariants as an
use Rattle.ocr_machine_history.specs.declared.entry.What.{What}
use Rattle.ocr_machine_history.specs.declared.entry.What.TheVariants as what
use Rattle.ocr_machine_history.specs.History.{History}
use Rattle.ocr_journal.specs.Phrase.{Text, phrase}
use Rattle.ocr_report.specs.Headed.{headed}

-- the event and the code
abbrev pub refusal : What → ℕ → Option (ℕ × ℕ)
refusal (what.Satisfy e slot g) code = if code == 0 || code == 200 then None else Some (e, code)
refusal other code = None

abbrev pub refusal_in : Entry → Option (ℕ × ℕ)
refusal_in (an.Deliver message code) = refusal message.what (number_of code)
refusal_in other = None

abbrev pub refused_line : Option (ℕ × ℕ) → Text
refused_line None = []
refused_line (Some p) = phrase (codes "delivery") (p.0 ∷ p.1 ∷ []) ++ 10 ∷ []

abbrev pub one_if : Option (ℕ × ℕ) → ℕ
one_if None = 0
one_if (Some p) = 1

-- their lines, the oldest first, and how many there are
abbrev pub refused_lines : History → Text
refused_lines [] = []
refused_lines (e ∷ past) = refused_lines past ++ refused_line (refusal_in e)

abbrev pub refused_count : History → ℕ
refused_count [] = 0
refused_count (e ∷ past) = refused_count past + one_if (refusal_in e)

abbrev pub refused_text : History → Text
refused_text past = headed (codes "refused") (refused_count past) (refused_lines past)
