-- What reading a text gives back.
use Rattle.std.specs.Prelude.{ℕ, List}
use Rattle.ocr_text.specs.declared.token.Token.{Token}
use Rattle.ocr_text.specs.Tokens.{AreTokens}
use Rattle.ocr_program_tree.specs.Tree.{FunctionTree}
use Rattle.ocr_program_grammar.specs.Lexemes.{IsTreeOf}

-- These bytes have tokens, and the tokens are a program within the limits, with this tree.
pub record IsTextOf (bytes : List ℕ) (program : List FunctionTree) : Type 0 where
  pub tokens : List Token
  pub are : AreTokens bytes tokens
  pub tree : IsTreeOf bytes tokens program
