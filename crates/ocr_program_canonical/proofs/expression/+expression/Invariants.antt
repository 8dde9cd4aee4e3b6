use Rattle.std.proofs.Common.{◌≡◌, ◌++◌, drop}
use Rattle.ocr_program_tree.specs.Argument.{plain_of}
use Rattle.ocr_program_tree.specs.View.{members_of}
use Rattle.ocr_program_canonical.specs.Canonical.{arguments_text}
use Rattle.ocr_program_canonical.specs.Written.{from_place}
use Rattle.ocr_program_canonical.proofs.expression.+expression.Given as goal

-- what was written and what is left are the whole
abbrev pub invariant-arguments-loop-place : goal.invariant-arguments-loop-place
invariant-arguments-loop-place l =
    l.text.items ++ from_place l.place (plain_of (drop l.place l.list.items)) ≡ l.initial.text.items ++ arguments_text (plain_of l.list.items)

abbrev pub invariant-members-loop-place : goal.invariant-members-loop-place
invariant-members-loop-place l =
    l.text.items ++ from_place l.place (members_of (drop l.place l.values)) ≡ l.initial.text.items ++ arguments_text (members_of l.values)
