-- How a token is looked up: first among the words, then among the calls, then among the constants,
-- and a symbol among all symbols.
use Rattle.std.specs.Prelude.{ℕ, List, [], ◌∷◌, Bool, Option, Some, None, ◌++◌, if◌then◌else◌, codes, find, map, nat_eq}
use Rattle.std.specs.Cmp.Lexicographic.{pointwise}
use Rattle.ocr_text.specs.declared.token.TokenKind.{TokenKind}
use Rattle.ocr_text.specs.declared.token.TokenKind.TheVariants as kind
use Rattle.ocr_text.specs.declared.token.Token.{Token}
use Rattle.ocr_text.specs.Forms.{value_of}
use Rattle.ocr_text.specs.Tokens.{text_of}
use Rattle.ocr_program_tree.specs.declared.tree.BinaryOp.{BinaryOp}
use Rattle.ocr_program_tree.specs.declared.tree.BinaryOp.TheVariants as binary
use Rattle.ocr_program_tree.specs.declared.tree.CallName.{CallName}
use Rattle.ocr_program_tree.specs.declared.tree.CallName.TheVariants as name
use Rattle.ocr_program_tree.specs.declared.tree.Constant as of_constant
use Rattle.ocr_program_tree.specs.declared.tree.Constant.TheVariants as constant
use Rattle.ocr_program_grammar.specs.declared.lexeme.Lexeme.{Lexeme}
use Rattle.ocr_program_grammar.specs.declared.lexeme.Lexeme.TheVariants as lexeme
use Rattle.ocr_program_grammar.specs.declared.lexeme.Word.{Word}
use Rattle.ocr_program_grammar.specs.declared.lexeme.Word.TheVariants as word
use Rattle.ocr_program_grammar.specs.Texts.{word_text, call_text, constant_text, operator_text}

abbrev pub operators : List BinaryOp
operators =
    binary.Or ∷ binary.Xor ∷ binary.And ∷ binary.Eq ∷ binary.Ne ∷ binary.Lt ∷ binary.Le
    ∷ binary.Gt ∷ binary.Ge
    ∷ binary.Shl ∷ binary.Shr ∷ binary.Add ∷ binary.Sub ∷ binary.Mul ∷ binary.Div ∷ binary.Rem ∷ []

abbrev pub words : List Word
words =
    word.Fn ∷ word.Let ∷ word.If ∷ word.Else ∷ word.While ∷ word.Print ∷ word.Return
    ∷ word.Paramc ∷ word.Paramv
    ∷ word.Depc ∷ word.Depv ∷ word.Code ∷ []

abbrev pub calls : List CallName
calls =
    name.DbCreate ∷ name.DbRelease ∷ name.DbDestroy ∷ name.EventCreate ∷ name.EventCreateParams
    ∷ name.EventDestroy
    ∷ name.Satisfy ∷ name.SatisfySlot ∷ name.AddDependence ∷ name.TemplateCreate
    ∷ name.TemplateDestroy
    ∷ name.EdtCreate ∷ name.Shutdown ∷ name.Abort ∷ name.Load ∷ name.Store ∷ []

abbrev pub constants : List of_constant.Constant
constants =
    constant.NullGuid ∷ constant.UninitializedGuid ∷ constant.EdtParamUnk ∷ constant.EdtParamDef
    ∷ constant.EdtPropNone ∷ constant.EdtPropFinish ∷ constant.DbPropNone ∷ constant.DbPropNoAcquire
    ∷ constant.EvtPropNone ∷ constant.EvtPropTakesArg ∷ constant.EventLatchDecrSlot
    ∷ constant.EventLatchIncrSlot
    ∷ constant.DbModeNull ∷ constant.DbModeRo ∷ constant.DbModeConst ∷ constant.DbModeRw
    ∷ constant.DbModeEw
    ∷ constant.EventOnce ∷ constant.EventIdem ∷ constant.EventSticky ∷ constant.EventLatch
    ∷ constant.EventChannel ∷ []

abbrev pub same : List ℕ → List ℕ → Bool
same a b = pointwise nat_eq a b

abbrev pub word_of : List ℕ → Option Word
word_of text = find (λ w. same (word_text w) text) words

abbrev pub call_of : List ℕ → Option CallName
call_of text = find (λ c. same (call_text c) text) calls

abbrev pub constant_of : List ℕ → Option of_constant.Constant
constant_of text = find (λ c. same (constant_text c) text) constants

abbrev pub found_name : Option Word → Option CallName → Option of_constant.Constant → List ℕ
    → Lexeme
found_name (Some w) c k text = lexeme.Word w
found_name None (Some c) k text = lexeme.Call c
found_name None None (Some k) text = lexeme.Constant k
found_name None None None text = lexeme.Name text

-- what these letters are: a reserved name, or one that the program chose
abbrev pub lexeme_of_name : List ℕ → Lexeme
lexeme_of_name text = found_name (word_of text) (call_of text) (constant_of text) text

-- the symbols that are no operators
abbrev pub marks : List (List ℕ × Lexeme)
marks =
    (codes "!", lexeme.Not) ∷ (codes "~", lexeme.Invert) ∷ (codes "=", lexeme.Equals)
    ∷ (codes ",", lexeme.Comma)
    ∷ (codes ";", lexeme.Semicolon) ∷ (codes "(", lexeme.OpenRound) ∷ (codes ")", lexeme.CloseRound)
    ∷ (codes "[", lexeme.OpenSquare) ∷ (codes "]", lexeme.CloseSquare)
    ∷ (codes "{", lexeme.OpenBrace)
    ∷ (codes "}", lexeme.CloseBrace) ∷ []

-- the symbols, each with what it is
abbrev pub symbols : List (List ℕ × Lexeme)
symbols = marks ++ map (λ op. (operator_text op, lexeme.Operator op)) operators

abbrev pub found_in : List (List ℕ × Lexeme) → List ℕ → Option Lexeme
found_in [] text = None
found_in (entry ∷ rest) text = if same text entry.0 then Some entry.1 else found_in rest text

-- the symbol of these bytes, where they are one
abbrev pub symbol : List ℕ → Option Lexeme
symbol text = found_in symbols text

-- what a token of this kind and text is to the grammar, none for a blank and a comment
abbrev pub lexeme_as : TokenKind → List ℕ → Option Lexeme
lexeme_as kind.Blank piece = None
lexeme_as kind.Comment piece = None
lexeme_as kind.Number piece = Some (lexeme.Number (value_of piece))
lexeme_as kind.Name piece = Some (lexeme_of_name piece)
lexeme_as kind.Symbol piece = symbol piece

abbrev pub lexeme_of : List ℕ → Token → Option Lexeme
lexeme_of bytes token = lexeme_as token.kind (text_of bytes token)

abbrev pub lexeme_onto : Option Lexeme → List Lexeme → List Lexeme
lexeme_onto None rest = rest
lexeme_onto (Some l) rest = l ∷ rest

abbrev pub lexemes_of : List ℕ → List Token → List Lexeme
lexemes_of bytes [] = []
lexemes_of bytes (token ∷ rest) = lexeme_onto (lexeme_of bytes token) (lexemes_of bytes rest)

abbrev pub place_onto : Option Lexeme → ℕ → List ℕ → List ℕ
place_onto None place rest = rest
place_onto (Some l) place rest = place ∷ rest

-- the first byte of each of these tokens
abbrev pub places_of : List ℕ → List Token → List ℕ
places_of bytes [] = []
places_of bytes (token ∷ rest) =
    place_onto (lexeme_of bytes token) token.start (places_of bytes rest)
