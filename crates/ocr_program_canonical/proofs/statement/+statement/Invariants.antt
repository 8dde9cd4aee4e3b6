use Rattle.std.proofs.Common.{◌≡◌, ◌++◌, drop}
use Rattle.ocr_program_tree.specs.View.{statements_of}
use Rattle.ocr_program_canonical.specs.Canonical.{statements_text}
use Rattle.ocr_program_canonical.proofs.statement.+statement.Given as goal

abbrev pub invariant-block-loop-stmt : goal.invariant-block-loop-stmt
invariant-block-loop-stmt l =
    l.text.items ++ statements_text l.inner.items (statements_of (drop l.stmt-index l.stmts)) ≡ l.initial.text.items ++ statements_text l.inner.items (statements_of l.stmts)
