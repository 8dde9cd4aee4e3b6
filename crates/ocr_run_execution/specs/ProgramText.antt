-- Which bytes are a program, and why others are none.
use Rattle.std.specs.Prelude.{◌≡◌, ◌≤◌, ℕ, List, length}
use Rattle.ocr_text.specs.Tokens.{AreTokens, IsFault}
use Rattle.ocr_text.specs.declared.token.Token.{Token}
use Rattle.ocr_program_tree.specs.Tree.{FunctionTree}
use Rattle.ocr_program_grammar.specs.Lexemes.{IsTreeOf, IsSyntaxFault}
use Rattle.ocr_program_canonical.specs.Canonical.{program_text}
use Rattle.ocr_program_check.specs.Check.{IsBreach, BreaksNoRule}
use Rattle.ocr_program_check.specs.declared.rules.CheckFault.{CheckFault}
use Rattle.ocr_run_execution.specs.declared.text.TextFault.{TextFault}
use Rattle.ocr_run_execution.specs.declared.text.TextFault.TheVariants as fault
use Rattle.ocr_run_execution.specs.declared.text.TextStop.{TextStop}
use Rattle.ocr_run_execution.specs.declared.text.TextStop.TheVariants as stop

-- the most bytes that a program has
abbrev pub most_bytes : ℕ
most_bytes = 1048576

-- these bytes are this program: they have tokens, the tokens have this tree, and the tree breaks no
-- rule
pub record IsProgramText (bytes : List ℕ) (program : List FunctionTree) : Type 0 where
  pub size : length bytes ≤ most_bytes
  pub tokens : List Token
  pub are_tokens : AreTokens bytes tokens
  pub tree : IsTreeOf bytes tokens program
  pub sound : BreaksNoRule program

-- these bytes are a program, and this is its canonical text
pub record IsCanonicalOf (bytes text : List ℕ) : Type 0 where
  pub program : List FunctionTree
  pub is_program : IsProgramText bytes program
  pub canonical : text ≡ program_text program

-- these bytes are no program, and this is the first thing that is wrong with them
pub data IsNoProgram (bytes : List ℕ) : TextFault → Type 0 where
  no_tokens : (place : ℕ) → IsFault bytes place → IsNoProgram bytes (fault.Lexical place)
  no_tree : (tokens : List Token) (place : ℕ) → AreTokens bytes tokens
      → IsSyntaxFault bytes tokens place → IsNoProgram bytes (fault.Syntax place)
  breaks_rule : (tokens : List Token) (program : List FunctionTree) (breach : CheckFault)
      → AreTokens bytes tokens → IsTreeOf bytes tokens program
      → IsBreach program breach.rule breach.function
      → IsNoProgram bytes (fault.Breach breach)

-- why bytes gave no program: they are none, or memory was refused
abbrev pub IsTextStop : List ℕ → TextStop → Type 0
IsTextStop bytes (stop.Fault found) = IsNoProgram bytes found
IsTextStop bytes stop.NoMemory = Unit {0}

-- bytes are at most one program, have at most one fault, and never both
pub record TextLaw : Type 0 where
  pub one_program : (bytes : List ℕ) (program other : List FunctionTree)
      → IsProgramText bytes program → IsProgramText bytes other → program ≡ other
  pub one_fault : (bytes : List ℕ) (found other : TextFault) → IsNoProgram bytes found
      → IsNoProgram bytes other → found ≡ other
  pub apart : (bytes : List ℕ) (program : List FunctionTree) (found : TextFault)
      → IsProgramText bytes program → IsNoProgram bytes found → ⊥
