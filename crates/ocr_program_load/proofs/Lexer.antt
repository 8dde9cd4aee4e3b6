-- Reads the lexemes of bytes by computing.
use Rattle.std.proofs.Common.{◌≡◌, ◌∙◌, ◌+◌, ◌<◌, ◌≤◌, ◌^◌, ℕ, zero, suc, List, [], ◌∷◌, ◌++◌, Bool, true, false, cond, Option, Some, None, refl, sym, ap, subst, length, take, drop, append-nil, arith, nat_lt}
use Rattle.std.proofs.lemmas.Grind.{common_steps}
use Rattle.std.proofs.lemmas.List.{take-append-le, drop-append-le}
use Rattle.ocr_text.specs.declared.token.TokenKind.{TokenKind}
use Rattle.ocr_text.specs.declared.token.TokenKind.TheVariants as kind
use Rattle.ocr_text.specs.Forms.{is_blank, is_double, value_of}
use Rattle.ocr_text.specs.Scan.{kind_at, goes_on, run_of, second_of, rest_of, found, found_as}
use Rattle.ocr_program_grammar.specs.declared.lexeme.Lexeme.{Lexeme}
use Rattle.ocr_program_grammar.specs.declared.lexeme.Lexeme.TheVariants as lexeme
use Rattle.ocr_program_grammar.specs.Lexing as lexing
use Rattle.ocr_program_canonical.proofs.Lexed.{Gives, number, name, symbol, IsLexed, over, token, blank_before}

-- what a token is to the grammar; blanks and comments are none, and a number is short
abbrev pub given_by : TokenKind → List ℕ → Option Lexeme
given_by kind.Blank piece = None
given_by kind.Comment piece = None
given_by kind.Number piece = cond (nat_lt (value_of piece) 1000) (Some (lexeme.Number (value_of piece))) None
given_by kind.Name piece = Some (lexing.lexeme_of_name piece)
given_by kind.Symbol piece = lexing.symbol piece

abbrev pub onto : Option Lexeme → Option (List Lexeme) → Option (List Lexeme)
onto None ls = None
onto (Some l) None = None
onto (Some l) (Some ls) = Some (l ∷ ls)

-- the lexemes of these bytes, where each token is over before the last byte, so that no byte that
-- follows changes it; in so many steps
abbrev lexed_as : (List ℕ → Option (List Lexeme)) → Option (TokenKind × ℕ) → List ℕ → Option (List Lexeme)
lexed_as rest None bytes = None
lexed_as rest (Some t) bytes =
    elim (nat_lt t.1 (length bytes)) as (λ _. Option (List Lexeme)) [ true ↦ onto (given_by t.0 (take t.1 bytes)) (rest (drop t.1 bytes)) | false ↦ None ]

abbrev pub lexed : ℕ → List ℕ → Option (List Lexeme)
lexed n [] = Some []
lexed zero (b ∷ bs) = None
lexed (suc n) (b ∷ bs) =
    elim (is_blank b) as (λ _. Option (List Lexeme)) [ true ↦ lexed n bs | false ↦ lexed_as (lexed n) (found (b ∷ bs)) (b ∷ bs) ]

-- ---- bytes that follow

run_more : (test : ℕ → Bool) (bytes more : List ℕ) → run_of test bytes < length bytes → run_of test (bytes ++ more) ≡ run_of test bytes
run_more test [] more low = absurd (omega (arith, low))
run_more test (b ∷ bs) more low = go (run_more test bs more) (test b) refl
  where
    go : (run_of test bs < length bs → run_of test (bs ++ more) ≡ run_of test bs) → (x : Bool) → test b ≡ x
        → cond (test b) (run_of test (bs ++ more) + 1) 0 ≡ cond (test b) (run_of test bs + 1) 0
    go later true is =
        let here : run_of test bs + 1 < suc (length bs) = subst (λ x. cond x (run_of test bs + 1) 0 < suc (length bs)) is low in
        ap (λ m. cond (test b) (m + 1) 0) (later (omega (arith, here)))
    go later false is = ap (λ x. cond x (run_of test (bs ++ more) + 1) 0) is ∙ sym (ap (λ x. cond x (run_of test bs + 1) 0) is)

rest_more : (k : TokenKind) (b : ℕ) (bs more : List ℕ) → rest_of k b bs < length bs → rest_of k b (bs ++ more) ≡ rest_of k b bs
rest_more kind.Blank b bs more low = run_more (goes_on kind.Blank) bs more low
rest_more kind.Comment b bs more low = run_more (goes_on kind.Comment) bs more low
rest_more kind.Number b bs more low = run_more (goes_on kind.Number) bs more low
rest_more kind.Name b bs more low = run_more (goes_on kind.Name) bs more low
rest_more kind.Symbol b [] more low = absurd (omega (arith, low))
rest_more kind.Symbol b (c ∷ cs) more low = refl

found_more : (bytes more : List ℕ) (k : TokenKind) (n : ℕ) → found bytes ≡ Some (k, n) → n < length bytes → found (bytes ++ more) ≡ Some (k, n)
found_more [] more k n is low = cc is
found_more (b ∷ bs) more k n is low = go (kind_at b) is
  where
    go : (o : Option TokenKind) → found_as o b bs ≡ Some (k, n) → found_as o b (bs ++ more) ≡ Some (k, n)
    go None is = cc is
    go (Some t) is =
        let size : rest_of t b bs + 1 ≡ n = ap (λ (o : Option (TokenKind × ℕ)). elim o as (λ _. ℕ) [ Some p ↦ p.1 | None ↦ 0 ]) is in
        ap (λ m. Some (t, m + 1)) (rest_more t b bs more (omega (arith, size, low))) ∙ is

-- ---- what is computed is what is read

some_same : (a b : Lexeme) → Some a ≡ Some b → a ≡ b
some_same a b e = ap (λ (o : Option Lexeme). elim o as (λ _. Lexeme) [ Some x ↦ x | None ↦ a ]) e

gives : (k : TokenKind) (piece : List ℕ) (l : Lexeme) → given_by k piece ≡ Some l → Gives k piece l
gives kind.Blank piece l is = cc is
gives kind.Comment piece l is = cc is
gives kind.Number piece l is = go (nat_lt (value_of piece) 1000) refl is
  where
    go : (x : Bool) → nat_lt (value_of piece) 1000 ≡ x → cond x (Some (lexeme.Number (value_of piece))) None ≡ Some l → Gives kind.Number piece l
    go false t is = cc is
    go true t is =
        let low : value_of piece < 1000 = grind (arith, common_steps) in
        subst (λ (x : Lexeme). Gives kind.Number piece x) (some_same _ _ is) (number piece (omega (arith, low)))
gives kind.Name piece l is = subst (λ (x : Lexeme). Gives kind.Name piece x) (some_same _ _ is) (name piece)
gives kind.Symbol piece l is = symbol piece l is

-- the lexemes of these bytes are read, whatever is read behind them
abbrev pub Reads : List ℕ → List Lexeme → Type 0
Reads bytes ls = (more : List ℕ) (others : List Lexeme) → IsLexed more others → IsLexed (bytes ++ more) (ls ++ others)

list_same : (a b : List Lexeme) → Some a ≡ Some b → a ≡ b
list_same a b e = ap (λ (o : Option (List Lexeme)). elim o as (λ _. List Lexeme) [ Some x ↦ x | None ↦ a ]) e

onto_read : (o : Option Lexeme) (p : Option (List Lexeme)) (ls : List Lexeme) → onto o p ≡ Some ls
    → (l : Lexeme) × (rest : List Lexeme) × (o ≡ Some l) × (p ≡ Some rest) × (l ∷ rest ≡ ls)
onto_read None p ls is = cc is
onto_read (Some l) None ls is = cc is
onto_read (Some l) (Some rest) ls is = (l, rest, refl, refl, list_same (l ∷ rest) ls is)

token_read : (n : ℕ) (o : Option (TokenKind × ℕ)) (bytes : List ℕ) (ls : List Lexeme) → found bytes ≡ o → lexed_as (lexed n) o bytes ≡ Some ls
    → ((rest : List ℕ) (ls : List Lexeme) → lexed n rest ≡ Some ls → Reads rest ls) → Reads bytes ls
token_read n None bytes ls front is later = cc is
token_read n (Some t) bytes ls front is later = go (nat_lt t.1 (length bytes)) refl is
  where
    go : (x : Bool) → nat_lt t.1 (length bytes) ≡ x
        → elim x as (λ _. Option (List Lexeme)) [ true ↦ onto (given_by t.0 (take t.1 bytes)) (lexed n (drop t.1 bytes)) | false ↦ None ] ≡ Some ls → Reads bytes ls
    go false low is = cc is
    go true low is = λ more others read.
        let short : t.1 < length bytes = grind (arith, common_steps) in
        let least : t.1 ≤ length bytes = omega (arith, short) in
        let parts = onto_read (given_by t.0 (take t.1 bytes)) (lexed n (drop t.1 bytes)) ls is in
        let front_more : found (bytes ++ more) ≡ Some (t.0, t.1) = found_more bytes more t.0 t.1 front short in
        let given : Gives t.0 (take t.1 (bytes ++ more)) parts.0 = subst (λ (p : List ℕ). Gives t.0 p parts.0) (sym (take-append-le t.1 bytes more least)) (gives t.0 (take t.1 bytes) parts.0 parts.2) in
        let rest : IsLexed (drop t.1 (bytes ++ more)) (parts.1 ++ others) = subst (λ (p : List ℕ). IsLexed p (parts.1 ++ others)) (sym (drop-append-le t.1 bytes more least)) (later (drop t.1 bytes) parts.1 parts.3 more others read) in
        subst (λ (xs : List Lexeme). IsLexed (bytes ++ more) (xs ++ others)) parts.4 (token (bytes ++ more) t.0 t.1 parts.0 (parts.1 ++ others) front_more given rest)

pub reads : (n : ℕ) (bytes : List ℕ) (ls : List Lexeme) → lexed n bytes ≡ Some ls → Reads bytes ls
reads n [] ls is = λ more others read. subst (λ (xs : List Lexeme). IsLexed more (xs ++ others)) (list_same [] ls is) read
reads zero (b ∷ bs) ls is = cc is
reads (suc n) (b ∷ bs) ls is = go (reads n) (is_blank b) refl is
  where
    go : ((rest : List ℕ) (ls : List Lexeme) → lexed n rest ≡ Some ls → Reads rest ls) → (x : Bool) → is_blank b ≡ x
        → elim x as (λ _. Option (List Lexeme)) [ true ↦ lexed n bs | false ↦ lexed_as (lexed n) (found (b ∷ bs)) (b ∷ bs) ] ≡ Some ls → Reads (b ∷ bs) ls
    go later true blank is = λ more others read. blank_before b (bs ++ more) (ls ++ others) blank (later bs ls is more others read)
    go later false blank is = token_read n (found (b ∷ bs)) (b ∷ bs) ls refl is later

-- with nothing behind
pub reads_all : (n : ℕ) (bytes : List ℕ) (ls : List Lexeme) → lexed n bytes ≡ Some ls → IsLexed bytes ls
reads_all n bytes ls is =
    subst (λ (xs : List ℕ). IsLexed xs ls) (append-nil bytes)
    (subst (λ (xs : List Lexeme). IsLexed (bytes ++ []) xs) (append-nil ls) (reads n bytes ls is [] [] over))
