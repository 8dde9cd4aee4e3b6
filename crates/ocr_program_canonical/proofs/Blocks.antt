-- The text of a choice with a second block and without one.
use Rattle.std.proofs.Common.{◌≡◌, ◌<◌, ◌++◌, refl, List, [], ◌∷◌, ℕ, length, arith, codes}
use Rattle.ocr_program_tree.specs.Tree as tree
use Rattle.ocr_program_tree.specs.View.{statements_of}
use Rattle.ocr_program_tree.specs.declared.tree.Stmt.{Stmt}
use Rattle.ocr_program_canonical.specs.Canonical.{expression_text, statement_text, statements_text, line}
use Rattle.ocr_program_canonical.specs.Written.{deeper}

pub without_else : (margin : List ℕ) (e : tree.Expression) (first : tree.Statements) (rs : List Stmt) → length rs ≡ 0
    → statement_text margin (tree.If e first (statements_of rs))
    ≡ line margin (codes "if " ++ expression_text e ++ codes " {") ++ statements_text (deeper margin) first ++ line margin (codes "}")
without_else margin e first [] h = refl
without_else margin e first (r ∷ rs) h = absurd (omega (arith, h))

pub with_else : (margin : List ℕ) (e : tree.Expression) (first : tree.Statements) (rs : List Stmt) → 0 < length rs
    → statement_text margin (tree.If e first (statements_of rs))
    ≡ line margin (codes "if " ++ expression_text e ++ codes " {") ++ statements_text (deeper margin) first
    ++ line margin (codes "} else {") ++ statements_text (deeper margin) (statements_of rs) ++ line margin (codes "}")
with_else margin e first [] h = absurd (omega (arith, h))
with_else margin e first (r ∷ rs) h = refl
