-- The blocks that were made, rising, each with its number of words, and whether it is destroyed and
-- held.
use Rattle.std.specs.Prelude.{ℕ, List, [], ◌∷◌, ◌++◌, Bool, true, false, filter, codes, length}
use Rattle.std.specs.List.{flat_map, range_with_len}
use Rattle.ocr_machine_history.specs.History.{History, Setting}
use Rattle.ocr_machine_history.specs.Made.{made, size_in}
use Rattle.ocr_machine_rules.specs.Blocks.{is_gone}
use Rattle.ocr_machine_rules.specs.Codes.{is_block}
use Rattle.ocr_machine_rules.specs.Events.{is_destroyed}
use Rattle.ocr_journal.specs.Phrase.{Text, phrase}
use Rattle.ocr_report.specs.Headed.{headed}

-- a block that is destroyed is gone where nobody holds it
abbrev pub state_words : (destroyed gone : Bool) → Text
state_words false gone = codes " live"
state_words true false = codes " destroyed"
state_words true true = codes " gone"

-- the line of a block with so many words
abbrev pub block_line : (number words : ℕ) → (destroyed gone : Bool) → Text
block_line d n destroyed gone =
    phrase (codes "block") (d ∷ [])
    ++ (phrase (codes " words") (n ∷ []) ++ (state_words destroyed gone ++ 10 ∷ []))

-- the blocks after the run
abbrev pub line_of : Setting → History → ℕ → Text
line_of s past d =
    block_line d (size_in (made s past d)) (is_destroyed s past d) (is_gone s past d)

abbrev pub blocks_of : Setting → History → List ℕ
blocks_of s past = filter (λ d. is_block (made s past d)) (range_with_len 1 s.limit)

abbrev pub blocks_text : Setting → History → Text
blocks_text s past =
    headed (codes "blocks") (length (blocks_of s past))
    (flat_map (λ d. line_of s past d) (blocks_of s past))
