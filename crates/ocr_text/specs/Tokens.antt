-- The tokens of a text: each is the longest match at its place.
use Rattle.std.specs.Prelude.{◌≡◌, ◌<◌, ◌≤◌, ◌^◌, ◌⊎◌, ℕ, List, [], ◌∷◌, IsTrue, length, slice_range}
use Rattle.ocr_text.specs.Forms.{is_form, value_of}
use Rattle.ocr_text.specs.declared.token.TokenKind.{TokenKind}
use Rattle.ocr_text.specs.declared.token.TokenKind.TheVariants as kind
use Rattle.ocr_text.specs.declared.token.Token.{Token}

-- from this place to that end stands a match of this kind, and no longer one of any kind
pub record IsLongest (bytes : List ℕ) (place : ℕ) (k : TokenKind) (end : ℕ) : Type 0 where
  pub some : place < end
  pub within : end ≤ length bytes
  pub form : IsTrue (is_form k (slice_range bytes place end))
  pub longest : (other : TokenKind) (later : ℕ) → later ≤ length bytes
      → IsTrue (is_form other (slice_range bytes place later)) → later ≤ end

-- no kind has a match at this place
abbrev pub IsNoToken : List ℕ → ℕ → Type 0
IsNoToken bytes place =
    (k : TokenKind) (end : ℕ) → IsTrue (is_form k (slice_range bytes place end)) → ⊥

abbrev pub text_of : List ℕ → Token → List ℕ
text_of bytes token = slice_range bytes token.start token.end

-- the longest match at its place, and a number below 2 ^ 64
pub record IsToken (bytes : List ℕ) (token : Token) : Type 0 where
  pub longest : IsLongest bytes token.start token.kind token.end
  pub in_range : token.kind ≡ kind.Number → value_of (text_of bytes token) < 2 ^ 64

-- these tokens adjoin, from the first place to the last one
abbrev pub Tile : List ℕ → ℕ → List Token → ℕ → Type 0
Tile bytes first [] last = first ≡ last
Tile bytes first (token ∷ rest) last =
    (token.start ≡ first) × IsToken bytes token × Tile bytes token.end rest last

-- the tokens of a text tile it
abbrev pub AreTokens : List ℕ → List Token → Type 0
AreTokens bytes tokens = Tile bytes 0 tokens (length bytes)

-- digits of a value that is no u64
pub record IsTooLarge (bytes : List ℕ) (place : ℕ) : Type 0 where
  pub end : ℕ
  pub digits : IsLongest bytes place kind.Number end
  pub large : 2 ^ 64 ≤ value_of (slice_range bytes place end)

-- tokens lead up to this place, which is the first where none stands
pub record IsFault (bytes : List ℕ) (place : ℕ) : Type 0 where
  pub before : List Token
  pub reached : Tile bytes 0 before place
  pub inside : place < length bytes
  pub stuck : IsNoToken bytes place ⊎ IsTooLarge bytes place
