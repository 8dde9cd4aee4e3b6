-- How large a tree is: a measure for the walker.
use Rattle.std.proofs.Common.{◌≤◌, ◌<◌, ℕ, zero, suc, ◌+◌, List, [], ◌∷◌, length, get_or, arith}
use Rattle.ocr_program_tree.specs.Tree as tree
use Rattle.ocr_body_code.specs.Code.{statement_at, statements_in}
use Rattle.ocr_body_code.specs.declared.code.StmtCode.{StmtCode}

abbrev mutual
  pub weight : tree.Statement → ℕ
  weight (tree.Let x e) = 1
  weight (tree.Assign x e) = 1
  weight (tree.If e a b) = weights a + weights b + 1
  weight (tree.While e a) = weights a + 2
  weight (tree.Print e) = 1
  weight (tree.Return e) = 1
  weight (tree.Do made xs) = 1

  pub weights : tree.Statements → ℕ
  weights tree.nothing = 0
  weights (tree.statement s rest) = weight s + weights rest

pub weight_at : (names : List (List ℕ)) (ss : List StmtCode) (i : ℕ) (d : StmtCode) → i < length ss → weight (statement_at names (get_or ss i d)) ≤ weights (statements_in names ss)
weight_at names [] i d h = absurd (omega (arith, h))
weight_at names (s ∷ ss) zero d h = omega arith
weight_at names (s ∷ ss) (suc i) d h = omega (arith, weight_at names ss i d (omega (arith, h)))
