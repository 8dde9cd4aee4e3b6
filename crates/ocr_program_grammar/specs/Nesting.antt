-- How deep blocks nest: in a tree, and along tokens.
use Rattle.std.specs.Prelude.{ℕ, ◌+◌, max, List, [], ◌∷◌, None}
use Rattle.ocr_program_tree.specs.Tree as tree
use Rattle.ocr_program_tree.specs.Tree.{Statement, Statements}
use Rattle.ocr_program_grammar.specs.declared.lexeme.Lexeme.{Lexeme}
use Rattle.ocr_program_grammar.specs.Limits.{Tally, tally_after}

abbrev mutual
  -- how many blocks of a statement stand in one another
  pub nesting_of : Statement → ℕ
  nesting_of (tree.If e first second) = max (nesting first) (nesting second) + 1
  nesting_of (tree.While e body) = nesting body + 1
  nesting_of other = 0

  pub nesting : Statements → ℕ
  nesting tree.nothing = 0
  nesting (tree.statement s rest) = max (nesting_of s) (nesting rest)

-- no expression is being read, and so many blocks are open
abbrev pub resting : ℕ → Tally
resting d = record { tokens = None; depth = d }

-- the most blocks that are open before these tokens or after one of them
abbrev pub deepest : Tally → List Lexeme → ℕ
deepest y [] = y.depth
deepest y (t ∷ ts) = max y.depth (deepest (tally_after y t) ts)
