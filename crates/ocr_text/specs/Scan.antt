-- The token at the front of some bytes, by its first byte.
use Rattle.std.specs.Prelude.{◌+◌, ◌-◌, ◌*◌, ℕ, List, [], ◌∷◌, Bool, false, ◌||◌, ◌==◌, not, if◌then◌else◌, Option, Some, None, fold}
use Rattle.ocr_text.specs.declared.token.TokenKind.{TokenKind}
use Rattle.ocr_text.specs.declared.token.TokenKind.TheVariants as kind
use Rattle.ocr_text.specs.Forms.{is_blank, is_digit, is_letter, is_single, is_double}

-- the kind of the tokens that begin with this byte
abbrev pub kind_at : ℕ → Option TokenKind
kind_at b =
    if is_blank b then Some kind.Blank
    else if b == 35 then Some kind.Comment
    else if is_digit b then Some kind.Number
    else if is_letter b then Some kind.Name
    else if is_single b then Some kind.Symbol
    else None

-- whether a token of this kind goes on with this byte
abbrev pub goes_on : TokenKind → ℕ → Bool
goes_on kind.Blank b = is_blank b
goes_on kind.Comment b = not (b == 10)
goes_on kind.Number b = is_digit b
goes_on kind.Name b = is_letter b || is_digit b
goes_on kind.Symbol b = false

-- how many bytes pass the test before the first that does not
abbrev pub run_of : (ℕ → Bool) → List ℕ → ℕ
run_of test [] = 0
run_of test (b ∷ bs) = if test b then run_of test bs + 1 else 0

-- how many bytes of a symbol follow its first
abbrev pub second_of : ℕ → List ℕ → ℕ
second_of a [] = 0
second_of a (b ∷ bs) = if is_double a b then 1 else 0

-- how many bytes of a token follow its first
abbrev pub rest_of : TokenKind → ℕ → List ℕ → ℕ
rest_of kind.Blank b bs = run_of (goes_on kind.Blank) bs
rest_of kind.Comment b bs = run_of (goes_on kind.Comment) bs
rest_of kind.Number b bs = run_of (goes_on kind.Number) bs
rest_of kind.Name b bs = run_of (goes_on kind.Name) bs
rest_of kind.Symbol b bs = second_of b bs

abbrev pub found_as : Option TokenKind → ℕ → List ℕ → Option (TokenKind × ℕ)
found_as None b bs = None
found_as (Some k) b bs = Some (k, rest_of k b bs + 1)

-- the kind and the length of the token at the front
abbrev pub found : List ℕ → Option (TokenKind × ℕ)
found [] = None
found (b ∷ bs) = found_as (kind_at b) b bs

-- the value of digits that stand behind a number of this value
abbrev pub value_on : ℕ → List ℕ → ℕ
value_on v digits = fold (λ v b. 10 * v + (b - 48)) v digits
