-- The kinds and texts of tokens, without their places.
use Rattle.std.specs.Prelude.{◌≡◌, ◌<◌, ◌^◌, ℕ, List, [], ◌∷◌, Some, length, take, drop, map}
use Rattle.ocr_text.specs.Forms.{value_of}
use Rattle.ocr_text.specs.Tokens.{text_of, Tile}
use Rattle.ocr_text.specs.Scan.{found}
use Rattle.ocr_text.specs.declared.token.TokenKind.{TokenKind}
use Rattle.ocr_text.specs.declared.token.TokenKind.TheVariants as kind
use Rattle.ocr_text.specs.declared.token.Token.{Token}

-- a number is below 2 ^ 64
abbrev pub IsInRange : TokenKind → List ℕ → Type 0
IsInRange k piece = k ≡ kind.Number → value_of piece < 2 ^ 64

-- these bytes begin with a token of this kind and text
pub record BeginWith (bytes : List ℕ) (k : TokenKind) (piece : List ℕ) : Type 0 where
  pub front : found bytes ≡ Some (k, length piece)
  pub same : take (length piece) bytes ≡ piece
  pub in_range : IsInRange k piece

-- these are the kinds and texts of the tokens of these bytes
abbrev pub AreTexts : List ℕ → List (TokenKind × List ℕ) → Type 0
AreTexts bytes [] = bytes ≡ []
AreTexts bytes (piece ∷ rest) =
    BeginWith bytes piece.0 piece.1 × AreTexts (drop (length piece.1) bytes) rest

abbrev pub texts_of : List ℕ → List Token → List (TokenKind × List ℕ)
texts_of bytes tokens = map (λ t. (t.kind, text_of bytes t)) tokens

-- tokens of these kinds and texts, from this place on
pub record Placed (bytes : List ℕ) (place : ℕ) (pieces : List (TokenKind × List ℕ)) : Type 0 where
  pub tokens : List Token
  pub tiled : Tile bytes place tokens (length bytes)
  pub texts : texts_of bytes tokens ≡ pieces
