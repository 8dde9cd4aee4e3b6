-- The report on blocks by the faces of a run is that by the rules.
use Rattle.std.proofs.Common.{◌≡◌, ℕ, ◌&&◌, List, [], ◌∷◌, ◌++◌, Bool, true, false, Option, Some, ◌⊎◌, inl, inr, codes, filter, length, if◌then◌else◌, refl, sym, ap, ◌∙◌}
use Rattle.std.specs.List.{flat_map, range_with_len}
use Rattle.ocr_datablock.specs.Block as block
use Rattle.ocr_machine_history.specs.History.{History, Setting}
use Rattle.ocr_machine_history.specs.Made.{Made, MadeBlock, made, size_in}
use Rattle.ocr_journal.specs.Phrase.{Text}
use Rattle.ocr_machine_parts.specs.Calls.{link_calls, block_calls, event_calls, scope_calls}
use Rattle.ocr_machine_parts.specs.Parts.{face, parts_of}
use Rattle.ocr_machine_parts.specs.Kinds as kinds
use Rattle.ocr_machine_parts.specs.Legal.{IsRun}
use Rattle.ocr_machine_rules.specs.Blocks as rules
use Rattle.ocr_machine_rules.specs.Blocks.{was_destroyed}
use Rattle.ocr_machine_rules.specs.Codes.{is_block}
use Rattle.ocr_machine_rules.specs.Events.{is_destroyed_as}
use Rattle.ocr_machine_rules.proofs.Blocks.{line_is}
use Rattle.ocr_machine_rules.proofs.Codes.{block_is}
use Rattle.ocr_machine_rules.proofs.Events.{destroyed_is}
use Rattle.ocr_report.specs.Blocks.{block_line, line_of, blocks_of, blocks_text}
use Rattle.ocr_report.specs.Faces.{line_on, blocks_in}
use Rattle.ocr_report.specs.Headed.{headed}

-- the line of a block
line_as : (s : Setting) (past : History) (d : ℕ) (m : Option Made) → is_block m ≡ true
    → is_destroyed_as m (event_calls s past d) (was_destroyed past d) ≡ kinds.is_destroyed (face m (link_calls past d) (block_calls s past d) (event_calls s past d) (scope_calls past d))
    → kinds.IsBlock (face m (link_calls past d) (block_calls s past d) (event_calls s past d) (scope_calls past d)) (λ st. block.line st ≡ rules.line_of s past d) ⊎ (is_block m ≡ false)
    → line_on d (face m (link_calls past d) (block_calls s past d) (event_calls s past d) (scope_calls past d))
    ≡ block_line d (size_in m) (is_destroyed_as m (event_calls s past d) (was_destroyed past d)) (was_destroyed past d && block.is_empty (rules.line_of s past d).holders)
line_as s past d (Some (MadeBlock n c)) is dead (inl line) = λ i. block_line d n (sym dead i) (sym dead i && block.is_empty (line i).holders)
line_as s past d (Some (MadeBlock n c)) is dead (inr off) = cc off
line_as s past d other is dead line = cc is

line_told : (s : Setting) (past : History) (d : ℕ) → IsRun s past → is_block (made s past d) ≡ true → line_on d ((parts_of s past).face d) ≡ line_of s past d
line_told s past d run is = line_as s past d (made s past d) is (destroyed_is s past d run) (line_is s past d run)

-- the lines of what a list is cut down to
lines_same : (p : ℕ → Bool) (f g : ℕ → Text) → ((d : ℕ) → p d ≡ true → f d ≡ g d) → (xs : List ℕ) → flat_map f (filter p xs) ≡ flat_map g (filter p xs)
lines_same p f g same [] = refl
lines_same p f g same (x ∷ xs) = elim (p x) as (λ b. p x ≡ b → flat_map f (if b then x ∷ filter p xs else filter p xs) ≡ flat_map g (if b then x ∷ filter p xs else filter p xs)) [
  | true ↦ λ is. λ i. same x is i ++ lines_same p f g same xs i
  | false ↦ λ _. lines_same p f g same xs
] refl

pub blocks_told : (s : Setting) (past : History) → IsRun s past → blocks_in (parts_of s past).face s.limit ≡ blocks_text s past
blocks_told s past run =
    (λ i. let found : List ℕ = filter (λ d. sym (block_is (made s past d) (link_calls past d) (block_calls s past d) (event_calls s past d) (scope_calls past d)) i) (range_with_len 1 s.limit) in
    headed (codes "blocks") (length found) (flat_map (λ d. line_on d ((parts_of s past).face d)) found))
    ∙ ap (headed (codes "blocks") (length (blocks_of s past)))
    (lines_same (λ d. is_block (made s past d)) (λ d. line_on d ((parts_of s past).face d)) (λ d. line_of s past d) (λ d is. line_told s past d run is) (range_with_len 1 s.limit))
