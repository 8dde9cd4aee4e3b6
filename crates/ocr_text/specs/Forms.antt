-- The forms of the five kinds of tokens.
use Rattle.std.specs.Prelude.{◌+◌, ◌-◌, ◌*◌, ℕ, List, [], ◌∷◌, Bool, false, ◌||◌, ◌&&◌, ◌==◌, codes, fold, nat_le, not}
use Rattle.std.specs.List.{list_any, list_all}
use Rattle.ocr_text.specs.declared.token.TokenKind.{TokenKind}
use Rattle.ocr_text.specs.declared.token.TokenKind.TheVariants as kind

-- a space, a tab, a carriage return or a line feed
abbrev pub is_blank : ℕ → Bool
is_blank b = list_any (λ c. c == b) (codes " \t\r\n")

-- 0 to 9
abbrev pub is_digit : ℕ → Bool
is_digit b = nat_le 48 b && nat_le b 57

-- A to Z, a to z or _
abbrev pub is_letter : ℕ → Bool
is_letter b = (nat_le 65 b && nat_le b 90) || ((nat_le 97 b && nat_le b 122) || (b == 95))

-- the symbols of one byte
abbrev pub is_single : ℕ → Bool
is_single b = list_any (λ c. c == b) (codes "!%&()*+,-/;<=>[]^{|}~")

-- one of != <= == >= or one of << >>
abbrev pub is_double : ℕ → ℕ → Bool
is_double a b = (list_any (λ c. c == a) (codes "!<=>") && (b == 61))
    || (list_any (λ c. c == a) (codes "<>") && (a == b))

abbrev pub is_symbol : List ℕ → Bool
is_symbol (a ∷ []) = is_single a
is_symbol (a ∷ b ∷ []) = is_double a b
is_symbol other = false

-- one byte of the first test, and then any number of the second
abbrev pub is_run : (ℕ → Bool) → (ℕ → Bool) → List ℕ → Bool
is_run first more [] = false
is_run first more (b ∷ bs) = first b && list_all more bs

-- whether these bytes, all of them, have the form of this kind; 35 is #, and 10 the line feed
abbrev pub is_form : TokenKind → List ℕ → Bool
is_form kind.Blank piece = is_run is_blank is_blank piece
is_form kind.Comment piece = is_run (λ b. b == 35) (λ b. not (b == 10)) piece
is_form kind.Number piece = is_run is_digit is_digit piece
is_form kind.Name piece = is_run is_letter (λ b. is_letter b || is_digit b) piece
is_form kind.Symbol piece = is_symbol piece

-- the value of digits in base ten
abbrev pub value_of : List ℕ → ℕ
value_of digits = fold (λ v b. 10 * v + (b - 48)) 0 digits
