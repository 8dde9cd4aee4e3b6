use Rattle.std.proofs.Common.{◌≡◌, ◌++◌, [], ◌∷◌, codes, length, take}
use Rattle.ocr_program_tree.specs.View.{tree_of}
use Rattle.ocr_machine_history.specs.History.{history_of}
use Rattle.ocr_journal.specs.Phrase.{phrase}
use Rattle.ocr_journal.specs.JournalText.{lines}
use Rattle.ocr_journal.proofs.text.journal_text.Given as goal

abbrev pub invariant-loop-place : goal.invariant-loop-place
invariant-loop-place l =
    l.text.items ≡ phrase (codes "journal") (length l.entries ∷ [])
    ++ (10 ∷ lines (tree_of l.program) (history_of (take l.place l.entries)))
