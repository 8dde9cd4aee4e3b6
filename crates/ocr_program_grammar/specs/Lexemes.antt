-- The tokens of a text as the grammar sees them.
use Rattle.std.specs.Prelude.{◌≡◌, ◌⊎◌, ℕ, List, [], ◌∷◌, Some, length, slice_index_or}
use Rattle.ocr_text.specs.declared.token.TokenKind.{TokenKind}
use Rattle.ocr_text.specs.declared.token.TokenKind.TheVariants as kind
use Rattle.ocr_text.specs.declared.token.Token.{Token}
use Rattle.ocr_text.specs.Forms.{value_of}
use Rattle.ocr_text.specs.Tokens.{text_of}
use Rattle.ocr_program_tree.specs.Tree.{FunctionTree}
use Rattle.ocr_program_grammar.specs.declared.lexeme.Lexeme.{Lexeme}
use Rattle.ocr_program_grammar.specs.declared.lexeme.Lexeme.TheVariants as lexeme
use Rattle.ocr_program_grammar.specs.Texts.{spelling}
use Rattle.ocr_program_grammar.specs.Parser.{IsTree, IsFault}

-- a token of this kind and text is this to the grammar
pub data IsLexeme : TokenKind → List ℕ → Lexeme → Type 0 where
  number : (digits : List ℕ) → IsLexeme kind.Number digits (lexeme.Number (value_of digits))
  fixed : (k : TokenKind) (text : List ℕ) (l : Lexeme) → spelling l ≡ Some (k, text)
      → IsLexeme k text l
  name : (x : List ℕ) → ((l : Lexeme) → spelling l ≡ Some (kind.Name, x) → ⊥)
      → IsLexeme kind.Name x (lexeme.Name x)

-- the tokens without blanks and comments begin at these places and are these lexemes
pub data AreLexemes (bytes : List ℕ) : List Token → List ℕ → List Lexeme → Type 0 where
  none : AreLexemes bytes [] [] []
  passed : (t : Token) (ts : List Token) (ps : List ℕ) (ls : List Lexeme)
      → (t.kind ≡ kind.Blank) ⊎ (t.kind ≡ kind.Comment) → AreLexemes bytes ts ps ls
      → AreLexemes bytes (t ∷ ts) ps ls
  seen : (t : Token) (ts : List Token) (ps : List ℕ) (l : Lexeme) (ls : List Lexeme)
      → IsLexeme t.kind (text_of bytes t) l → AreLexemes bytes ts ps ls
      → AreLexemes bytes (t ∷ ts) (t.start ∷ ps) (l ∷ ls)

-- the tree of a text with these tokens
pub record IsTreeOf (bytes : List ℕ) (tokens : List Token) (program : List FunctionTree)
    : Type 0 where
  pub places : List ℕ
  pub lexemes : List Lexeme
  pub seen : AreLexemes bytes tokens places lexemes
  pub tree : IsTree lexemes program

-- The first fault of a text with these tokens is here: at the first byte of the token at fault, or
-- at the text's length where the text ends too early.
pub record IsSyntaxFault (bytes : List ℕ) (tokens : List Token) (place : ℕ) : Type 0 where
  pub places : List ℕ
  pub lexemes : List Lexeme
  pub seen : AreLexemes bytes tokens places lexemes
  pub before : ℕ
  pub fault : IsFault lexemes before
  pub here : place ≡ slice_index_or places before (length bytes)
