-- Bytes that are read as lexemes, blanks dropped; and what may be written before such bytes.
use Rattle.std.proofs.Common.{◌≡◌, ◌+◌, ◌<◌, ◌^◌, ℕ, suc, List, [], ◌∷◌, ◌++◌, Bool, true, false, ◌||◌, cond, Option, Some, None, refl, sym, ap, subst, ◌∙◌, length, take, drop, arith, rules}
use Rattle.std.proofs.lemmas.Fmt.{digits_decimal, digits_value-decimal, decimal_is_IsNumeral}
use Rattle.std.proofs.lemmas.Str.Parse.{IsNumeralModel, IsDigitsTest, FoldsDigits, numerals_by_fold}
use Rattle.std.specs.Prelude.{decimal}
use Rattle.std.specs.List.{list_all}
use Rattle.std.proofs.lemmas.Bool.{and_parts, or_parts}
use Rattle.ocr_text.specs.declared.token.TokenKind.{TokenKind}
use Rattle.ocr_text.specs.declared.token.TokenKind.TheVariants as kind
use Rattle.ocr_text.specs.Forms.{is_blank, is_digit, is_letter, is_form, is_double, value_of}
use Rattle.ocr_text.specs.Scan.{kind_at, goes_on, run_of, second_of, rest_of, found, found_as, value_on}
use Rattle.ocr_text.proofs.Bytes.{first_byte, kind_blank}
use Rattle.ocr_program_grammar.specs.declared.lexeme.Lexeme.{Lexeme}
use Rattle.ocr_program_grammar.specs.declared.lexeme.Lexeme.TheVariants as lexeme
use Rattle.ocr_program_grammar.specs.Lexing as lexing
use Rattle.ocr_text.proofs.Laws.{pair_is, none_some}

-- what a token of this kind and these bytes is to the grammar
pub data Gives : TokenKind → List ℕ → Lexeme → Type 0 where
  number : (piece : List ℕ) → value_of piece < 2 ^ 64 → Gives kind.Number piece (lexeme.Number (value_of piece))
  name : (piece : List ℕ) → Gives kind.Name piece (lexing.lexeme_of_name piece)
  symbol : (piece : List ℕ) (l : Lexeme) → lexing.symbol piece ≡ Some l → Gives kind.Symbol piece l

pub data IsLexed : List ℕ → List Lexeme → Type 0 where
  over : IsLexed [] []
  blank : (bytes : List ℕ) (n : ℕ) (ls : List Lexeme) → found bytes ≡ Some (kind.Blank, n) → IsLexed (drop n bytes) ls
      → IsLexed bytes ls
  token : (bytes : List ℕ) (k : TokenKind) (n : ℕ) (l : Lexeme) (ls : List Lexeme) → found bytes ≡ Some (k, n)
      → Gives k (take n bytes) l → IsLexed (drop n bytes) ls → IsLexed bytes (l ∷ ls)

-- ---- blanks

abbrev chain : Bool → Bool → Bool → Bool → Bool → Option TokenKind
chain x1 x2 x3 x4 x5 =
    cond x1 (Some kind.Blank) (cond x2 (Some kind.Comment) (cond x3 (Some kind.Number) (cond x4 (Some kind.Name) (cond x5 (Some kind.Symbol) None))))

blank_first : (x1 x2 x3 x4 x5 : Bool) → chain x1 x2 x3 x4 x5 ≡ Some kind.Blank → x1 ≡ true
blank_first true x2 x3 x4 x5 is = refl
blank_first false true x3 x4 x5 is = cc
blank_first false false true x4 x5 is = cc
blank_first false false false true x5 is = cc
blank_first false false false false true is = cc
blank_first false false false false false is = cc

found_kind : (o : Option TokenKind) (b : ℕ) (bs : List ℕ) (k : TokenKind) (n : ℕ) → found_as o b bs ≡ Some (k, n) → o ≡ Some k
found_kind None b bs k n is = absurd (none_some is)
found_kind (Some t) b bs k n is = ap (λ (x : TokenKind × ℕ). Some x.0) (pair_is (t, rest_of t b bs + 1) (k, n) is)

-- what is read at the front of these bytes, and how many of them are blank
blank_run : (bytes : List ℕ) (n : ℕ) → found bytes ≡ Some (kind.Blank, n) → run_of (goes_on kind.Blank) bytes ≡ n
blank_run [] n is = absurd (none_some is)
blank_run (b ∷ bs) n is =
    let first : kind_at b ≡ Some kind.Blank = found_kind (kind_at b) b bs kind.Blank n is in
    let test : is_blank b ≡ true = blank_first _ _ _ _ _ first in
    let size : run_of (goes_on kind.Blank) bs + 1 ≡ n = ap (λ (x : TokenKind × ℕ). x.1) (pair_is (kind.Blank, run_of (goes_on kind.Blank) bs + 1) (kind.Blank, n) (sym (ap (λ (o : Option TokenKind). found_as o b bs) first) ∙ is)) in
    ap (λ (x : Bool). cond x (run_of (goes_on kind.Blank) bs + 1) 0) test ∙ size

no_run : (b : ℕ) (bs : List ℕ) (x : Bool) → is_blank b ≡ x → (k : TokenKind) (n : ℕ) → (k ≡ kind.Blank → ⊥) → found (b ∷ bs) ≡ Some (k, n) → cond x (run_of (goes_on kind.Blank) bs + 1) 0 ≡ 0
no_run b bs false test k n other is = refl
no_run b bs true test k n other is =
    let first : kind_at b ≡ Some k = found_kind (kind_at b) b bs k n is in
    let same : Some kind.Blank ≡ Some k = sym (kind_blank b test) ∙ first in
    let equal : k ≡ kind.Blank = cc in
    absurd (other equal)

no_blank_run : (bytes : List ℕ) (k : TokenKind) (n : ℕ) → (k ≡ kind.Blank → ⊥) → found bytes ≡ Some (k, n) → run_of (goes_on kind.Blank) bytes ≡ 0
no_blank_run [] k n other is = absurd (none_some is)
no_blank_run (b ∷ bs) k n other is = no_run b bs (is_blank b) refl k n other is

gives_no_blank : (k : TokenKind) (piece : List ℕ) (l : Lexeme) → Gives k piece l → k ≡ kind.Blank → ⊥
gives_no_blank _ _ _ (number piece low) is = cc
gives_no_blank _ _ _ (name piece) is = cc
gives_no_blank _ _ _ (symbol piece l s) is = cc

blank_found : (b : ℕ) (rest : List ℕ) (n : ℕ) → is_blank b ≡ true → run_of (goes_on kind.Blank) rest ≡ n → found (b ∷ rest) ≡ Some (kind.Blank, n + 1)
blank_found b rest n is run =
    ap (λ (o : Option TokenKind). found_as o b rest) (kind_blank b is) ∙ ap (λ (m : ℕ). Some (kind.Blank, m + 1)) run

-- a blank more
pub blank_before : (b : ℕ) (rest : List ℕ) (ls : List Lexeme) → is_blank b ≡ true → IsLexed rest ls → IsLexed (b ∷ rest) ls
blank_before b _ _ is over = blank (b ∷ []) 1 [] (blank_found b [] 0 is refl) over
blank_before b _ _ is (blank rest n ls f d) =
    let more : suc n ≡ n + 1 = omega arith in
    blank (b ∷ rest) (n + 1) ls (blank_found b rest n is (blank_run rest n f)) (subst (λ (m : ℕ). IsLexed (drop m (b ∷ rest)) ls) more d)
blank_before b _ _ is (token rest k n l ls f g d) =
    blank (b ∷ rest) 1 (l ∷ ls) (blank_found b rest 0 is (no_blank_run rest k n (gives_no_blank k _ l g) f)) (token rest k n l ls f g d)

pub space : (rest : List ℕ) (ls : List Lexeme) → IsLexed rest ls → IsLexed (32 ∷ rest) ls
space rest ls d = blank_before 32 rest ls refl d

pub line_feed : (rest : List ℕ) (ls : List Lexeme) → IsLexed rest ls → IsLexed (10 ∷ rest) ls
line_feed rest ls d = blank_before 10 rest ls refl d

pub blanks : (margin rest : List ℕ) (ls : List Lexeme) → list_all is_blank margin ≡ true → IsLexed rest ls → IsLexed (margin ++ rest) ls
blanks [] rest ls is d = d
blanks (b ∷ margin) rest ls is d = blank_before b _ ls (and_parts _ _ is).0 (blanks margin rest ls (and_parts (is_blank b) _ is).1 d)

-- ---- words and numbers

-- neither a letter nor a digit stands at the front
abbrev pub Stops : List ℕ → Type 0
Stops [] = Unit {0}
Stops (b ∷ bs) = (is_letter b || is_digit b) ≡ false

run_stopped : (test : ℕ → Bool) (piece rest : List ℕ) → list_all test piece ≡ true → run_of test rest ≡ 0 → run_of test (piece ++ rest) ≡ length piece
run_stopped test [] rest all is = is
run_stopped test (b ∷ bs) rest all is =
    let more : run_of test (bs ++ rest) + 1 ≡ suc (length bs) = omega (arith, run_stopped test bs rest (and_parts (test b) _ all).1 is) in
    ap (λ (x : Bool). cond x (run_of test (bs ++ rest) + 1) 0) (and_parts _ _ all).0 ∙ more

stops_name : (rest : List ℕ) → Stops rest → run_of (goes_on kind.Name) rest ≡ 0
stops_name [] is = refl
stops_name (b ∷ bs) is = ap (λ (x : Bool). cond x (run_of (goes_on kind.Name) bs + 1) 0) is

stops_number : (rest : List ℕ) → Stops rest → run_of (goes_on kind.Number) rest ≡ 0
stops_number [] is = refl
stops_number (b ∷ bs) is = ap (λ (x : Bool). cond x (run_of (goes_on kind.Number) bs + 1) 0) (or_parts (is_letter b) _ is).1

take_front : (piece rest : List ℕ) → take (length piece) (piece ++ rest) ≡ piece
take_front [] rest = search rules
take_front (b ∷ bs) rest = ap (λ (l : List ℕ). b ∷ l) (take_front bs rest)

drop_front : (piece rest : List ℕ) → drop (length piece) (piece ++ rest) ≡ rest
drop_front [] rest = refl
drop_front (b ∷ bs) rest = drop_front bs rest

-- a token that is read whole
pub whole : (k : TokenKind) (piece rest : List ℕ) (l : Lexeme) (ls : List Lexeme) → found (piece ++ rest) ≡ Some (k, length piece) → Gives k piece l → IsLexed rest ls → IsLexed (piece ++ rest) (l ∷ ls)
whole k piece rest l ls f g d =
    token (piece ++ rest) k (length piece) l ls f
    (subst (λ (p : List ℕ). Gives k p l) (sym (take_front piece rest)) g)
    (subst (λ (r : List ℕ). IsLexed r ls) (sym (drop_front piece rest)) d)

found_name : (x rest : List ℕ) → is_form kind.Name x ≡ true → Stops rest → found (x ++ rest) ≡ Some (kind.Name, length x)
found_name [] rest form stops = cc
found_name (b ∷ bs) rest form stops =
    let more : run_of (goes_on kind.Name) (bs ++ rest) + 1 ≡ suc (length bs) = omega (arith, run_stopped (goes_on kind.Name) bs rest (and_parts (is_letter b) _ form).1 (stops_name rest stops)) in
    ap (λ (o : Option TokenKind). found_as o b (bs ++ rest)) (first_byte kind.Name b bs form) ∙ ap (λ (n : ℕ). Some (kind.Name, n)) more

pub word : (x rest : List ℕ) (l : Lexeme) (ls : List Lexeme) → is_form kind.Name x ≡ true → lexing.lexeme_of_name x ≡ l → Stops rest → IsLexed rest ls → IsLexed (x ++ rest) (l ∷ ls)
word x rest l ls form is stops d = whole kind.Name x rest l ls (found_name x rest form stops) (subst (λ (t : Lexeme). Gives kind.Name x t) is (name x)) d

found_number : (x rest : List ℕ) → is_form kind.Number x ≡ true → Stops rest → found (x ++ rest) ≡ Some (kind.Number, length x)
found_number [] rest form stops = cc
found_number (b ∷ bs) rest form stops =
    let more : run_of (goes_on kind.Number) (bs ++ rest) + 1 ≡ suc (length bs) = omega (arith, run_stopped (goes_on kind.Number) bs rest (and_parts (is_digit b) _ form).1 (stops_number rest stops)) in
    ap (λ (o : Option TokenKind). found_as o b (bs ++ rest)) (first_byte kind.Number b bs form) ∙ ap (λ (n : ℕ). Some (kind.Number, n)) more

tells : IsDigitsTest (λ ds. list_all is_digit ds ≡ true)
tells = search rules

folds : FoldsDigits value_on
folds = record { empty = λ n. refl; more = λ n c cs is. ap (λ (m : ℕ). value_on m cs) (omega arith) }

own : IsNumeralModel (λ ds. list_all is_digit ds ≡ true) value_of
own = numerals_by_fold _ tells value_on folds

digits_form : (ds : List ℕ) → 0 < length ds → list_all is_digit ds ≡ true → is_form kind.Number ds ≡ true
digits_form [] some all = absurd (omega (arith, some))
digits_form (d ∷ ds) some all = all

pub decimal_form : (n : ℕ) → n < 2 ^ 64 → is_form kind.Number (decimal n) ≡ true
decimal_form n low = digits_form (decimal n) (decimal_is_IsNumeral n low).0.0 (digits_decimal own n low)

pub number_before : (n : ℕ) (rest : List ℕ) (ls : List Lexeme) → n < 2 ^ 64 → Stops rest → IsLexed rest ls → IsLexed (decimal n ++ rest) (lexeme.Number n ∷ ls)
number_before n rest ls low stops d =
    let same : value_of (decimal n) ≡ n = digits_value-decimal own n low in
    let fits : value_of (decimal n) < 2 ^ 64 = subst (λ (m : ℕ). m < 2 ^ 64) (sym same) low in
    whole kind.Number (decimal n) rest (lexeme.Number n) ls (found_number (decimal n) rest (decimal_form n low) stops)
    (subst (λ (m : ℕ). Gives kind.Number (decimal n) (lexeme.Number m)) same (number (decimal n) fits)) d

-- ---- symbols

second_none : (a : ℕ) (rest : List ℕ) → ((b : ℕ) → is_double a b ≡ false) → second_of a rest ≡ 0
second_none a [] apart = refl
second_none a (b ∷ bs) apart = ap (λ (x : Bool). cond x 1 0) (apart b)

-- a symbol of one byte
pub single : (a : ℕ) (rest : List ℕ) (l : Lexeme) (ls : List Lexeme) → kind_at a ≡ Some kind.Symbol → second_of a rest ≡ 0 → lexing.symbol (a ∷ []) ≡ Some l → IsLexed rest ls → IsLexed (a ∷ rest) (l ∷ ls)
single a rest l ls is alone gives d =
    whole kind.Symbol (a ∷ []) rest l ls
    (ap (λ (o : Option TokenKind). found_as o a rest) is ∙ ap (λ (n : ℕ). Some (kind.Symbol, n + 1)) alone)
    (symbol (a ∷ []) l gives) d

-- one that begins no symbol of two
pub plain : (a : ℕ) (rest : List ℕ) (l : Lexeme) (ls : List Lexeme) → kind_at a ≡ Some kind.Symbol → ((b : ℕ) → is_double a b ≡ false) → lexing.symbol (a ∷ []) ≡ Some l → IsLexed rest ls → IsLexed (a ∷ rest) (l ∷ ls)
plain a rest l ls is apart gives d = single a rest l ls is (second_none a rest apart) gives d

pub open_round : (rest : List ℕ) (ls : List Lexeme) → IsLexed rest ls → IsLexed (40 ∷ rest) (lexeme.OpenRound ∷ ls)
open_round rest ls d = plain 40 rest _ ls refl (λ b. refl) refl d

pub close_round : (rest : List ℕ) (ls : List Lexeme) → IsLexed rest ls → IsLexed (41 ∷ rest) (lexeme.CloseRound ∷ ls)
close_round rest ls d = plain 41 rest _ ls refl (λ b. refl) refl d

pub comma : (rest : List ℕ) (ls : List Lexeme) → IsLexed rest ls → IsLexed (44 ∷ rest) (lexeme.Comma ∷ ls)
comma rest ls d = plain 44 rest _ ls refl (λ b. refl) refl d

pub semicolon : (rest : List ℕ) (ls : List Lexeme) → IsLexed rest ls → IsLexed (59 ∷ rest) (lexeme.Semicolon ∷ ls)
semicolon rest ls d = plain 59 rest _ ls refl (λ b. refl) refl d

pub open_square : (rest : List ℕ) (ls : List Lexeme) → IsLexed rest ls → IsLexed (91 ∷ rest) (lexeme.OpenSquare ∷ ls)
open_square rest ls d = plain 91 rest _ ls refl (λ b. refl) refl d

pub close_square : (rest : List ℕ) (ls : List Lexeme) → IsLexed rest ls → IsLexed (93 ∷ rest) (lexeme.CloseSquare ∷ ls)
close_square rest ls d = plain 93 rest _ ls refl (λ b. refl) refl d

pub open_brace : (rest : List ℕ) (ls : List Lexeme) → IsLexed rest ls → IsLexed (123 ∷ rest) (lexeme.OpenBrace ∷ ls)
open_brace rest ls d = plain 123 rest _ ls refl (λ b. refl) refl d

pub close_brace : (rest : List ℕ) (ls : List Lexeme) → IsLexed rest ls → IsLexed (125 ∷ rest) (lexeme.CloseBrace ∷ ls)
close_brace rest ls d = plain 125 rest _ ls refl (λ b. refl) refl d
