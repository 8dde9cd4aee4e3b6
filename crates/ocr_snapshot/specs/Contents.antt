-- The words of a block after a history, and what an entry makes of them.
use Rattle.std.specs.Prelude.{ℕ, ◌/◌, ◌==◌, List, [], if◌then◌else◌, Option, Some, None, option_map, replicate}
use Rattle.ocr_acquire.specs.Writes.{written}
use Rattle.ocr_body_meaning.specs.Holds.{is_done}
use Rattle.ocr_body_meaning.specs.declared.call.Call as body
use Rattle.ocr_body_meaning.specs.declared.call.Call.TheVariants as call
use Rattle.ocr_machine_history.specs.declared.entry.Entry.{Entry}
use Rattle.ocr_machine_history.specs.declared.entry.Entry.TheVariants.{Call, Free}
use Rattle.ocr_machine_history.specs.History.{History, Setting}
use Rattle.ocr_machine_history.specs.Made.{made, is_new}
use Rattle.ocr_machine_rules.specs.Blocks.{contents_of, writes_by}
use Rattle.ocr_machine_rules.specs.Codes.{is_block}

-- THE WORDS of a block: its contents, where a block of this number is made
abbrev pub words_in : Setting → History → ℕ → Option (List ℕ)
words_in s past d = if is_block (made s past d) then Some (contents_of s past d) else None

-- the words with which an object begins that a call makes
abbrev pub made_words : body.Call → Option (List ℕ)
made_words (call.DbCreate n fl) = Some (replicate (n / 8) 0)
made_words other = None

-- what an entry makes of the words of the block with this number
abbrev pub words_after : Entry → ℕ → Option (List ℕ) → Option (List ℕ)
words_after (Call t home c a w) d before =
    if is_new c a d then made_words c
    else option_map (written (if is_done a.code then writes_by c w d else [])) before
words_after (Free t b w) d before = option_map (written (if b == d then w else [])) before
words_after other d before = before
