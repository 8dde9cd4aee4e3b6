-- Laws of the tokens of a text.
use Rattle.std.specs.Prelude.{◌≡◌, ℕ, List}
use Rattle.ocr_text.specs.Tokens.{AreTokens, IsFault}
use Rattle.ocr_text.specs.Texts.{AreTexts, texts_of, Placed}
use Rattle.ocr_text.specs.declared.token.TokenKind.{TokenKind}
use Rattle.ocr_text.specs.declared.token.Token.{Token}

-- a text has its tokens or a fault, never both, and only one of either
pub record TokensLaw : Type 0 where
  pub one : (bytes : List ℕ) (tokens others : List Token) → AreTokens bytes tokens
      → AreTokens bytes others → tokens ≡ others
  pub one_fault : (bytes : List ℕ) (place other : ℕ) → IsFault bytes place → IsFault bytes other
      → place ≡ other
  pub apart : (bytes : List ℕ) (tokens : List Token) (place : ℕ) → AreTokens bytes tokens
      → IsFault bytes place → ⊥

-- the kinds and texts of a text's tokens are those that its bytes tell from the front, one after
-- another
pub record TextsLaw : Type 0 where
  pub told : (bytes : List ℕ) (tokens : List Token) → AreTokens bytes tokens
      → AreTexts bytes (texts_of bytes tokens)
  pub placed : (bytes : List ℕ) (pieces : List (TokenKind × List ℕ)) → AreTexts bytes pieces
      → Placed bytes 0 pieces
