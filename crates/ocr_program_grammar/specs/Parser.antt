-- The tree of a list of tokens, and the first of them that is a fault.
use Rattle.std.specs.Prelude.{◌≡◌, ◌+◌, ◌≤◌, ◌<◌, ℕ, List, length, take}
use Rattle.ocr_program_tree.specs.Tree.{FunctionTree}
use Rattle.ocr_program_grammar.specs.declared.lexeme.Lexeme.{Lexeme}
use Rattle.ocr_program_grammar.specs.Grammar.{IsProgram, GoesOn}
use Rattle.ocr_program_grammar.specs.Limits.{IsOver}

-- none of the first n tokens is one too many
abbrev pub Fits : List Lexeme → ℕ → Type 0
Fits ts n = (k : ℕ) → k ≤ n → IsOver (take k ts) → ⊥

-- the tree of the tokens
pub record IsTree (ts : List Lexeme) (program : List FunctionTree) : Type 0 where
  pub whole : IsProgram ts program
  pub fits : Fits ts (length ts)

-- A program goes on after the first n tokens, and they fit the limits. After one more none goes on,
-- or that one is one too many; or there is no more, and these are no program.
pub record IsFault (ts : List Lexeme) (n : ℕ) : Type 0 where
  pub inside : n ≤ length ts
  pub goes_on : GoesOn (take n ts)
  pub fits : Fits ts n
  pub stops : n < length ts → GoesOn (take (n + 1) ts) → IsOver (take (n + 1) ts)
  pub ends : n ≡ length ts → (program : List FunctionTree) → IsProgram ts program → ⊥
