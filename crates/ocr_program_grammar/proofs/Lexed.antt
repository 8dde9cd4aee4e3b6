-- What is found in the tables is what a token is to the grammar.
use Rattle.std.proofs.Common.{◌≡◌, ◌⊎◌, inl, inr, ℕ, List, [], ◌∷◌, Bool, true, false, ◌||◌, ◌&&◌, ◌==◌, cond, Option, Some, None, codes, find, is_some, length, refl, sym, ap, subst, ◌∙◌}
use Rattle.std.specs.Cmp.Lexicographic.{bytes_decides}
use Rattle.std.specs.List.{list_any}
use Rattle.std.proofs.lemmas.Bool.{and_parts, or_cases}
use Rattle.ocr_text.specs.declared.token.TokenKind.{TokenKind}
use Rattle.ocr_text.specs.declared.token.TokenKind.TheVariants as kind
use Rattle.ocr_text.specs.declared.token.Token.{Token}
use Rattle.ocr_text.specs.Forms.{value_of, is_form, is_symbol, is_double}
use Rattle.ocr_text.specs.Tokens.{Tile, text_of}
use Rattle.ocr_text.proofs.Bytes.{each_listed, equal_from, singles}
use Rattle.ocr_program_tree.specs.declared.tree.CallName.{CallName}
use Rattle.ocr_program_tree.specs.declared.tree.Constant as of_constant
use Rattle.ocr_program_tree.specs.Tree.{FunctionTree}
use Rattle.ocr_program_grammar.specs.declared.lexeme.Lexeme.{Lexeme}
use Rattle.ocr_program_grammar.specs.declared.lexeme.Lexeme.TheVariants as lexeme
use Rattle.ocr_program_grammar.specs.declared.lexeme.Word.{Word}
use Rattle.ocr_program_grammar.specs.Texts.{word_text, call_text, constant_text, spelling}
use Rattle.ocr_program_grammar.specs.Parser.{IsTree}
use Rattle.ocr_program_grammar.specs.Laws.{LexemesLaw}
use Rattle.ocr_program_grammar.specs.Lexemes as grammar
use Rattle.ocr_program_grammar.specs.Lexemes.{IsLexeme, AreLexemes, IsTreeOf}
use Rattle.ocr_program_grammar.specs.Lexing.{same, words, calls, constants, symbols, found_in, word_of, call_of, constant_of, found_name, lexeme_of_name, symbol, lexeme_as, lexeme_of, lexeme_onto, lexemes_of, place_onto, places_of}
use Rattle.ocr_program_grammar.proofs.Spelling as spelled

-- ---- what a table finds is written so

none_some : {X : Type 0} {x : X} → None ≡ Some x → ⊥
none_some is = cc

some_is : {X : Type 0} {x y : X} → Some x ≡ Some y → x ≡ y
some_is is = cc

same_is : (a b : List ℕ) → same a b ≡ true → a ≡ b
same_is a b is = (bytes_decides a b).0 is

module _ {X : Type 0} (text : X → List ℕ) (x : List ℕ) where
  pick : (v w : X) (rest : Option X) (b : Bool) → same (text v) x ≡ b → cond b (Some v) rest ≡ Some w → (rest ≡ Some w → text w ≡ x) → text w ≡ x
  pick v w rest true is found later = subst (λ (y : X). text y ≡ x) (some_is found) (same_is (text v) x is)
  pick v w rest false is found later = later found

  found_is : (vs : List X) (w : X) → find (λ v. same (text v) x) vs ≡ Some w → text w ≡ x
  found_is [] w found = absurd (none_some found)
  found_is (v ∷ vs) w found = pick v w (find (λ u. same (text u) x) vs) (same (text v) x) refl found (found_is vs w)

abbrev AreSpelled : List (List ℕ × Lexeme) → Type 0
AreSpelled [] = Unit {0}
AreSpelled (entry ∷ rest) = (spelling entry.1 ≡ Some (kind.Symbol, entry.0)) × AreSpelled rest

pick_symbol : (text : List ℕ) (entry : List ℕ × Lexeme) (rest : Option Lexeme) (l : Lexeme) (b : Bool) → same text entry.0 ≡ b
    → spelling entry.1 ≡ Some (kind.Symbol, entry.0) → cond b (Some entry.1) rest ≡ Some l
    → (rest ≡ Some l → spelling l ≡ Some (kind.Symbol, text)) → spelling l ≡ Some (kind.Symbol, text)
pick_symbol text entry rest l true is own found later =
    subst (λ (m : Lexeme). spelling m ≡ Some (kind.Symbol, text)) (some_is found)
    (own ∙ ap (λ (t : List ℕ). Some (kind.Symbol, t)) (sym (same_is text entry.0 is)))
pick_symbol text entry rest l false is own found later = later found

found_symbol : (entries : List (List ℕ × Lexeme)) (text : List ℕ) (l : Lexeme) → AreSpelled entries → found_in entries text ≡ Some l
    → spelling l ≡ Some (kind.Symbol, text)
found_symbol [] text l all found = absurd (none_some found)
found_symbol (entry ∷ rest) text l all found =
    pick_symbol text entry (found_in rest text) l (same text entry.0) refl all.0 found (found_symbol rest text l all.1)

symbols_spelled : AreSpelled symbols
symbols_spelled =
    (refl, (refl, (refl, (refl, (refl, (refl, (refl, (refl, (refl, (refl, (refl, (refl, (refl, (refl, (refl, (refl, (refl, (refl, (refl, (refl, (refl, (refl, (refl, (refl, (refl, (refl, (refl, tt)))))))))))))))))))))))))))

-- ---- what is written so is found

at : (l : Lexeme) (a b : TokenKind × List ℕ) → Some a ≡ Some b → lexeme_as a.0 a.1 ≡ Some l → lexeme_as b.0 b.1 ≡ Some l
at l a b is found = subst (λ (p : TokenKind × List ℕ). lexeme_as p.0 p.1 ≡ Some l) (some_is is) found

fixed_found : (l : Lexeme) (k : TokenKind) (t : List ℕ) → spelling l ≡ Some (k, t) → lexeme_as k t ≡ Some l
fixed_found (lexeme.Number n) k t is = absurd (none_some is)
fixed_found (lexeme.Name x) k t is = absurd (none_some is)
fixed_found (lexeme.Word w) k t is = at _ (kind.Name, _) (k, t) is (ap Some (spelled.words w))
fixed_found (lexeme.Call c) k t is = at _ (kind.Name, _) (k, t) is (ap Some (spelled.calls c))
fixed_found (lexeme.Constant c) k t is = at _ (kind.Name, _) (k, t) is (ap Some (spelled.constants c))
fixed_found (lexeme.Operator op) k t is = at _ (kind.Symbol, _) (k, t) is (spelled.operators op)
fixed_found lexeme.Not k t is = at _ (kind.Symbol, _) (k, t) is refl
fixed_found lexeme.Invert k t is = at _ (kind.Symbol, _) (k, t) is refl
fixed_found lexeme.OpenBrace k t is = at _ (kind.Symbol, _) (k, t) is refl
fixed_found lexeme.CloseBrace k t is = at _ (kind.Symbol, _) (k, t) is refl
fixed_found lexeme.OpenRound k t is = at _ (kind.Symbol, _) (k, t) is refl
fixed_found lexeme.CloseRound k t is = at _ (kind.Symbol, _) (k, t) is refl
fixed_found lexeme.OpenSquare k t is = at _ (kind.Symbol, _) (k, t) is refl
fixed_found lexeme.CloseSquare k t is = at _ (kind.Symbol, _) (k, t) is refl
fixed_found lexeme.Comma k t is = at _ (kind.Symbol, _) (k, t) is refl
fixed_found lexeme.Semicolon k t is = at _ (kind.Symbol, _) (k, t) is refl
fixed_found lexeme.Equals k t is = at _ (kind.Symbol, _) (k, t) is refl

abbrev IsFree : List ℕ → Type 0
IsFree x = (l : Lexeme) → spelling l ≡ Some (kind.Name, x) → ⊥

no_word : (x : List ℕ) → IsFree x → (w : Option Word) → word_of x ≡ w → w ≡ None
no_word x free None is = refl
no_word x free (Some w) is = absurd (free (lexeme.Word w) (ap (λ (t : List ℕ). Some (kind.Name, t)) (found_is word_text x words w is)))

no_call : (x : List ℕ) → IsFree x → (c : Option CallName) → call_of x ≡ c → c ≡ None
no_call x free None is = refl
no_call x free (Some c) is = absurd (free (lexeme.Call c) (ap (λ (t : List ℕ). Some (kind.Name, t)) (found_is call_text x calls c is)))

no_constant : (x : List ℕ) → IsFree x → (c : Option of_constant.Constant) → constant_of x ≡ c → c ≡ None
no_constant x free None is = refl
no_constant x free (Some c) is =
    absurd (free (lexeme.Constant c) (ap (λ (t : List ℕ). Some (kind.Name, t)) (found_is constant_text x constants c is)))

free_found : (x : List ℕ) → IsFree x → lexeme_of_name x ≡ lexeme.Name x
free_found x free =
    let w = no_word x free (word_of x) refl in
    let c = no_call x free (call_of x) refl in
    let k = no_constant x free (constant_of x) refl in
    λ i. found_name (w i) (c i) (k i) x

pub lexeme_found : (k : TokenKind) (t : List ℕ) (l : Lexeme) → IsLexeme k t l → lexeme_as k t ≡ Some l
lexeme_found _ _ _ (grammar.number digits) = refl
lexeme_found _ _ _ (grammar.fixed k t l is) = fixed_found l k t is
lexeme_found _ _ _ (grammar.name x free) = ap Some (free_found x free)

-- ---- what is found is what the token is

named : (x : List ℕ) (w : Option Word) (c : Option CallName) (k : Option of_constant.Constant) → word_of x ≡ w → call_of x ≡ c
    → constant_of x ≡ k → IsLexeme kind.Name x (found_name w c k x)
named x (Some w) c k e1 e2 e3 = grammar.fixed kind.Name x (lexeme.Word w) (ap (λ (t : List ℕ). Some (kind.Name, t)) (found_is word_text x words w e1))
named x None (Some c) k e1 e2 e3 = grammar.fixed kind.Name x (lexeme.Call c) (ap (λ (t : List ℕ). Some (kind.Name, t)) (found_is call_text x calls c e2))
named x None None (Some k) e1 e2 e3 =
    grammar.fixed kind.Name x (lexeme.Constant k) (ap (λ (t : List ℕ). Some (kind.Name, t)) (found_is constant_text x constants k e3))
named x None None None e1 e2 e3 = grammar.name x (λ l is.
    let own : lexeme_of_name x ≡ lexeme.Name x = λ i. found_name (e1 i) (e2 i) (e3 i) x in
    let other : lexeme.Name x ≡ l = some_is (sym (ap Some own) ∙ fixed_found l kind.Name x is) in
    none_some (ap spelling other ∙ is))

lexeme_is : (k : TokenKind) (t : List ℕ) (l : Lexeme) → lexeme_as k t ≡ Some l → IsLexeme k t l
lexeme_is kind.Blank t l found = absurd (none_some found)
lexeme_is kind.Comment t l found = absurd (none_some found)
lexeme_is kind.Number t l found = subst (λ (m : Lexeme). IsLexeme kind.Number t m) (some_is found) (grammar.number t)
lexeme_is kind.Name t l found =
    subst (λ (m : Lexeme). IsLexeme kind.Name t m) (some_is found) (named t (word_of t) (call_of t) (constant_of t) refl refl refl)
lexeme_is kind.Symbol t l found = grammar.fixed kind.Symbol t l (found_symbol symbols t l symbols_spelled found)

-- each symbol is in the table
two_known : (a b : ℕ) → is_double a b ≡ true → is_some (symbol (a ∷ b ∷ [])) ≡ true
two_known a b is = elim (or_cases (list_any (λ c. c == a) (codes "!<=>") && (b == 61)) _ is) [
  | inl equals ↦
      let parts = and_parts (list_any (λ c. c == a) (codes "!<=>")) _ equals in
      subst (λ (d : ℕ). is_some (symbol (a ∷ d ∷ [])) ≡ true) (sym (equal_from b 61 parts.1)) (each_listed (λ c. is_some (symbol (c ∷ 61 ∷ []))) (codes "!<=>") a refl parts.0)
  | inr shift ↦
      let parts = and_parts (list_any (λ c. c == a) (codes "<>")) _ shift in
      subst (λ (d : ℕ). is_some (symbol (a ∷ d ∷ [])) ≡ true) (equal_from a b parts.1) (each_listed (λ c. is_some (symbol (c ∷ c ∷ []))) (codes "<>") a refl parts.0)
]

symbol_known : (t : List ℕ) → is_symbol t ≡ true → is_some (symbol t) ≡ true
symbol_known [] is = cc
symbol_known (a ∷ []) is = each_listed (λ c. is_some (symbol (c ∷ []))) singles a refl is
symbol_known (a ∷ b ∷ []) is = two_known a b is
symbol_known (a ∷ b ∷ c ∷ rest) is = cc

none_passed : (k : TokenKind) (t : List ℕ) → is_form k t ≡ true → lexeme_as k t ≡ None → (k ≡ kind.Blank) ⊎ (k ≡ kind.Comment)
none_passed kind.Blank t form none = inl refl
none_passed kind.Comment t form none = inr refl
none_passed kind.Number t form none = absurd (none_some (sym none))
none_passed kind.Name t form none = absurd (none_some (sym none))
none_passed kind.Symbol t form none =
    let known : is_some (symbol t) ≡ true = symbol_known t form in
    let unknown : is_some (symbol t) ≡ false = ap is_some none in
    cc

-- ---- the tokens of a text

passes : (k : TokenKind) (t : List ℕ) → (k ≡ kind.Blank) ⊎ (k ≡ kind.Comment) → lexeme_as k t ≡ None
passes k t is = elim is as (λ _. lexeme_as k t ≡ None) [
  | inl blank ↦ subst (λ (j : TokenKind). lexeme_as j t ≡ None) (sym blank) refl
  | inr comment ↦ subst (λ (j : TokenKind). lexeme_as j t ≡ None) (sym comment) refl
]

pub told : (bytes : List ℕ) (tokens : List Token) (ps : List ℕ) (ls : List Lexeme) → AreLexemes bytes tokens ps ls
    → (places_of bytes tokens ≡ ps) × (lexemes_of bytes tokens ≡ ls)
told bytes _ _ _ grammar.none = (refl, refl)
told bytes _ _ _ (grammar.passed t ts ps ls is rest) =
    let none : lexeme_of bytes t ≡ None = passes t.kind (text_of bytes t) is in
    let more = told bytes ts ps ls rest in
    (ap (λ (o : Option Lexeme). place_onto o t.start (places_of bytes ts)) none ∙ more.0, ap (λ (o : Option Lexeme). lexeme_onto o (lexemes_of bytes ts)) none ∙ more.1)
told bytes _ _ _ (grammar.seen t ts ps l ls is rest) =
    let some : lexeme_of bytes t ≡ Some l = lexeme_found t.kind (text_of bytes t) l is in
    let more = told bytes ts ps ls rest in
    (ap (λ (o : Option Lexeme). place_onto o t.start (places_of bytes ts)) some ∙ ap (λ (qs : List ℕ). t.start ∷ qs) more.0, ap (λ (o : Option Lexeme). lexeme_onto o (lexemes_of bytes ts)) some ∙ ap (λ (ms : List Lexeme). l ∷ ms) more.1)

one_seen : (bytes : List ℕ) (t : Token) (ts : List Token) (ps : List ℕ) (ls : List Lexeme) (o : Option Lexeme) → lexeme_of bytes t ≡ o
    → is_form t.kind (text_of bytes t) ≡ true → AreLexemes bytes ts ps ls
    → AreLexemes bytes (t ∷ ts) (place_onto o t.start ps) (lexeme_onto o ls)
one_seen bytes t ts ps ls None is form rest = grammar.passed t ts ps ls (none_passed t.kind (text_of bytes t) form is) rest
one_seen bytes t ts ps ls (Some l) is form rest = grammar.seen t ts ps l ls (lexeme_is t.kind (text_of bytes t) l is) rest

pub seen : (bytes : List ℕ) (first last : ℕ) (tokens : List Token) → Tile bytes first tokens last
    → AreLexemes bytes tokens (places_of bytes tokens) (lexemes_of bytes tokens)
seen bytes first last [] tile = grammar.none
seen bytes first last (t ∷ ts) tile =
    one_seen bytes t ts _ _ (lexeme_of bytes t) refl tile.1.longest.form (seen bytes t.end last ts tile.2)

pub lexemes_law : LexemesLaw
lexemes_law = record {
  some = λ bytes tokens are. (places_of bytes tokens, (lexemes_of bytes tokens, seen bytes 0 (length bytes) tokens are));
  one = λ bytes tokens ps qs ls ms a b.
      let first = told bytes tokens ps ls a in
      let second = told bytes tokens qs ms b in
      (sym first.0 ∙ second.0, sym first.1 ∙ second.1);
}

pub tree_told : (bytes : List ℕ) (tokens : List Token) (program : List FunctionTree) → IsTreeOf bytes tokens program
    → IsTree (lexemes_of bytes tokens) program
tree_told bytes tokens program is =
    subst (λ (ls : List Lexeme). IsTree ls program) (sym (told bytes tokens is.places is.lexemes is.seen).1) is.tree
