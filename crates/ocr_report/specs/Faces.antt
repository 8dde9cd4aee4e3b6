-- The report on blocks by the faces of a table.
use Rattle.std.specs.Prelude.{ℕ, List, [], filter, codes, length}
use Rattle.std.specs.List.{flat_map, range_with_len}
use Rattle.ocr_datablock.specs.Block as block
use Rattle.ocr_journal.specs.Phrase.{Text}
use Rattle.ocr_machine_parts.specs.declared.part.Part.{Part}
use Rattle.ocr_machine_parts.specs.declared.part.Part.TheVariants as part
use Rattle.ocr_machine_parts.specs.Kinds.{is_block}
use Rattle.ocr_report.specs.Blocks.{block_line}
use Rattle.ocr_report.specs.Headed.{headed}

-- the line of an object, where it is a block
abbrev pub line_on : ℕ → Part → Text
line_on d (part.Block st) = block_line d st.size st.destroyed (block.is_gone st)
line_on d other = []

-- the blocks among the objects up to a number, rising
abbrev pub blocks_to : (ℕ → Part) → ℕ → List ℕ
blocks_to face n = filter (λ d. is_block (face d)) (range_with_len 1 n)

abbrev pub blocks_in : (ℕ → Part) → ℕ → Text
blocks_in face limit =
    headed (codes "blocks") (length (blocks_to face limit))
    (flat_map (λ d. line_on d (face d)) (blocks_to face limit))
