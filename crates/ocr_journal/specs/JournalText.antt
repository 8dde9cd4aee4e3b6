-- The text of a journal, told of its history, the newest entry first.
use Rattle.std.specs.Prelude.{List, [], ◌∷◌, ◌++◌, codes, length}
use Rattle.std.specs.Fmt.{decimal}
use Rattle.ocr_program_tree.specs.Tree.{FunctionTree}
use Rattle.ocr_machine_history.specs.History.{History}
use Rattle.ocr_journal.specs.Phrase.{Text, phrase}
use Rattle.ocr_journal.specs.EntryText.{entry_text}

-- a line for each entry: its number, which is how many came before it, and its text
abbrev pub lines : List FunctionTree → History → Text
lines program [] = []
lines program (e ∷ past) =
    lines program past ++ (decimal (length past) ++ (32 ∷ entry_text program e ++ 10 ∷ []))

-- a line with how many entries there are, and their lines
abbrev pub journal_text : List FunctionTree → History → Text
journal_text program past =
    phrase (codes "journal") (length past ∷ []) ++ (10 ∷ lines program past)
