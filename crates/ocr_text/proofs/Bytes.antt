-- Which kind a first byte tells.
use Rattle.std.proofs.Common.{◌≡◌, ◌≤◌, ℕ, List, [], ◌∷◌, Bool, true, false, ◌||◌, ◌&&◌, ◌==◌, nat_le, nat_lt, codes, cond, refl, sym, ap, subst, ◌∙◌, Option, Some, None, arith, inl, inr}
use Rattle.std.proofs.lemmas.Grind.{common_steps}
use Rattle.std.specs.List.{list_any, list_all}
use Rattle.std.proofs.lemmas.Bool.{and_parts, or_cases}
use Rattle.ocr_text.specs.declared.token.TokenKind.{TokenKind}
use Rattle.ocr_text.specs.declared.token.TokenKind.TheVariants as kind
use Rattle.ocr_text.specs.Forms.{is_blank, is_digit, is_letter, is_single, is_double, is_symbol, is_form}
use Rattle.ocr_text.specs.Scan.{kind_at}

pub equal_from : (a b : ℕ) → (a == b) ≡ true → a ≡ b
equal_from a b is = grind (arith, common_steps)

apart : (a b : ℕ) → (a ≡ b → ⊥) → (a == b) ≡ false
apart a b is = grind (arith, common_steps)

pub le_from : (a b : ℕ) → nat_le a b ≡ true → a ≤ b
le_from a b is = grind (arith, common_steps)

-- what holds of each byte of a list holds of a byte that is listed
pub each_listed : (test : ℕ → Bool) (bytes : List ℕ) (b : ℕ) → list_all test bytes ≡ true → list_any (λ c. c == b) bytes ≡ true → test b ≡ true
each_listed test [] b all any = cc
each_listed test (c ∷ cs) b all any =
    elim (or_cases (c == b) _ any) [
      | inl here ↦ subst (λ (x : ℕ). test x ≡ true) (equal_from c b here) (and_parts _ _ all).0
      | inr there ↦ each_listed test cs b (and_parts (test c) _ all).1 there
    ]

outside : (c low high b : ℕ) → low ≤ b → b ≤ high → (nat_lt c low || nat_lt high c) ≡ true → (c == b) ≡ false
outside c low high b from to is = grind (arith, common_steps)

-- a byte of a range is not listed where each listed byte is outside
not_listed : (low high b : ℕ) (bytes : List ℕ) → low ≤ b → b ≤ high → list_all (λ c. nat_lt c low || nat_lt high c) bytes ≡ true → list_any (λ c. c == b) bytes ≡ false
not_listed low high b [] from to all = refl
not_listed low high b (c ∷ cs) from to all =
    let other : (c == b) ≡ false = outside c low high b from to (and_parts _ _ all).0 in
    ap (λ (x : Bool). x || list_any (λ d. d == b) cs) other ∙ not_listed low high b cs from to (and_parts (nat_lt c low || nat_lt high c) _ all).1

abbrev blanks : List ℕ
blanks = codes " \t\r\n"

abbrev pub singles : List ℕ
singles = codes "!%&()*+,-/;<=>[]^{|}~"

digit_range : (b : ℕ) → is_digit b ≡ true → (48 ≤ b) × (b ≤ 57)
digit_range b is = (le_from 48 b (and_parts _ _ is).0, le_from b 57 (and_parts (nat_le 48 b) _ is).1)

abbrev chain : Bool → Bool → Bool → Bool → Bool → Option TokenKind
chain x1 x2 x3 x4 x5 = cond x1 (Some kind.Blank) (cond x2 (Some kind.Comment) (cond x3 (Some kind.Number) (cond x4 (Some kind.Name) (cond x5 (Some kind.Symbol) None))))

-- the first byte of a form
abbrev pub begins : TokenKind → ℕ → Bool
begins kind.Blank b = is_blank b
begins kind.Comment b = b == 35
begins kind.Number b = is_digit b
begins kind.Name b = is_letter b
begins kind.Symbol b = is_single b

-- the kind of a form is told by its first byte
pub kind_blank : (b : ℕ) → is_blank b ≡ true → kind_at b ≡ Some kind.Blank
kind_blank b is = ap (λ (x : Bool). chain x (b == 35) (is_digit b) (is_letter b) (is_single b)) is

kind_comment : (b : ℕ) → (b == 35) ≡ true → kind_at b ≡ Some kind.Comment
kind_comment b is = subst (λ (c : ℕ). kind_at c ≡ Some kind.Comment) (sym (equal_from b 35 is)) refl

kind_number : (b : ℕ) → is_digit b ≡ true → kind_at b ≡ Some kind.Number
kind_number b is =
    let range = digit_range b is in
    let blank : is_blank b ≡ false = not_listed 48 57 b blanks range.0 range.1 refl in
    let hash : (b == 35) ≡ false = apart b 35 (λ same. omega arith) in
    ap (λ (x : Bool). chain x (b == 35) (is_digit b) (is_letter b) (is_single b)) blank
    ∙ ap (λ (x : Bool). chain false x (is_digit b) (is_letter b) (is_single b)) hash
    ∙ ap (λ (x : Bool). chain false false x (is_letter b) (is_single b)) is

letter_range : (b : ℕ) → is_letter b ≡ true → (65 ≤ b) × (b ≤ 122)
letter_range b is = grind (arith, common_steps)

kind_name : (b : ℕ) → is_letter b ≡ true → kind_at b ≡ Some kind.Name
kind_name b is =
    let range = letter_range b is in
    let blank : is_blank b ≡ false = not_listed 65 122 b blanks range.0 range.1 refl in
    let hash : (b == 35) ≡ false = apart b 35 (λ same. omega arith) in
    let digit : is_digit b ≡ false = grind (arith, common_steps) in
    ap (λ (x : Bool). chain x (b == 35) (is_digit b) (is_letter b) (is_single b)) blank
    ∙ ap (λ (x : Bool). chain false x (is_digit b) (is_letter b) (is_single b)) hash
    ∙ ap (λ (x : Bool). chain false false x (is_letter b) (is_single b)) digit
    ∙ ap (λ (x : Bool). chain false false false x (is_single b)) is

abbrev is_symbol_kind : Option TokenKind → Bool
is_symbol_kind None = false
is_symbol_kind (Some kind.Blank) = false
is_symbol_kind (Some kind.Comment) = false
is_symbol_kind (Some kind.Number) = false
is_symbol_kind (Some kind.Name) = false
is_symbol_kind (Some kind.Symbol) = true

symbol_kind : (o : Option TokenKind) → is_symbol_kind o ≡ true → o ≡ Some kind.Symbol
symbol_kind None is = cc
symbol_kind (Some kind.Blank) is = cc
symbol_kind (Some kind.Comment) is = cc
symbol_kind (Some kind.Number) is = cc
symbol_kind (Some kind.Name) is = cc
symbol_kind (Some kind.Symbol) is = refl

kind_single : (b : ℕ) → is_single b ≡ true → kind_at b ≡ Some kind.Symbol
kind_single b is = symbol_kind (kind_at b) (each_listed (λ c. is_symbol_kind (kind_at c)) singles b refl is)

single_first : (a b : ℕ) → is_double a b ≡ true → is_single a ≡ true
single_first a b is =
    elim (or_cases (list_any (λ c. c == a) (33 ∷ 60 ∷ 61 ∷ 62 ∷ []) && (b == 61)) _ is) [
      | inl equals ↦ each_listed is_single (33 ∷ 60 ∷ 61 ∷ 62 ∷ []) a refl (and_parts _ _ equals).0
      | inr shift ↦ each_listed is_single (60 ∷ 62 ∷ []) a refl (and_parts _ _ shift).0
    ]

symbol_first : (b : ℕ) (bs : List ℕ) → is_symbol (b ∷ bs) ≡ true → is_single b ≡ true
symbol_first b [] is = is
symbol_first b (c ∷ []) is = single_first b c is
symbol_first b (c ∷ d ∷ rest) is = cc

pub first_byte : (k : TokenKind) (b : ℕ) (bs : List ℕ) → is_form k (b ∷ bs) ≡ true → kind_at b ≡ Some k
first_byte kind.Blank b bs is = kind_blank b (and_parts _ _ is).0
first_byte kind.Comment b bs is = kind_comment b (and_parts _ _ is).0
first_byte kind.Number b bs is = kind_number b (and_parts _ _ is).0
first_byte kind.Name b bs is = kind_name b (and_parts _ _ is).0
first_byte kind.Symbol b bs is = kind_single b (symbol_first b bs is)

abbrev test_of : TokenKind → Bool → Bool → Bool → Bool → Bool → Bool
test_of kind.Blank x1 x2 x3 x4 x5 = x1
test_of kind.Comment x1 x2 x3 x4 x5 = x2
test_of kind.Number x1 x2 x3 x4 x5 = x3
test_of kind.Name x1 x2 x3 x4 x5 = x4
test_of kind.Symbol x1 x2 x3 x4 x5 = x5

pub some_is : (a b : TokenKind) → Some a ≡ Some b → a ≡ b
some_is a b is = cc

chain_test : (x1 x2 x3 x4 x5 : Bool) (k : TokenKind) → chain x1 x2 x3 x4 x5 ≡ Some k → test_of k x1 x2 x3 x4 x5 ≡ true
chain_test true x2 x3 x4 x5 k is = subst (λ (t : TokenKind). test_of t true x2 x3 x4 x5 ≡ true) (some_is _ _ is) refl
chain_test false true x3 x4 x5 k is = subst (λ (t : TokenKind). test_of t false true x3 x4 x5 ≡ true) (some_is _ _ is) refl
chain_test false false true x4 x5 k is = subst (λ (t : TokenKind). test_of t false false true x4 x5 ≡ true) (some_is _ _ is) refl
chain_test false false false true x5 k is = subst (λ (t : TokenKind). test_of t false false false true x5 ≡ true) (some_is _ _ is) refl
chain_test false false false false true k is = subst (λ (t : TokenKind). test_of t false false false false true ≡ true) (some_is _ _ is) refl
chain_test false false false false false k is = cc

-- a byte passes the test of the kind that it tells
pub begins_is : (b : ℕ) (k : TokenKind) → kind_at b ≡ Some k → begins k b ≡ true
begins_is b kind.Blank is = chain_test (is_blank b) (b == 35) (is_digit b) (is_letter b) (is_single b) kind.Blank is
begins_is b kind.Comment is = chain_test (is_blank b) (b == 35) (is_digit b) (is_letter b) (is_single b) kind.Comment is
begins_is b kind.Number is = chain_test (is_blank b) (b == 35) (is_digit b) (is_letter b) (is_single b) kind.Number is
begins_is b kind.Name is = chain_test (is_blank b) (b == 35) (is_digit b) (is_letter b) (is_single b) kind.Name is
begins_is b kind.Symbol is = chain_test (is_blank b) (b == 35) (is_digit b) (is_letter b) (is_single b) kind.Symbol is
