-- From lexemes to tokens, and from tokens to lexemes.
use Rattle.std.proofs.Common.{◌≡◌, ◌+◌, ◌-◌, ◌≤◌, ℕ, List, [], ◌∷◌, Bool, true, false, cond, Option, Some, None, length, take, drop, refl, sym, ap, subst, ◌∙◌, arith, length-drop}
use Rattle.std.proofs.lemmas.List.{drop-drop}
use Rattle.ocr_text.specs.declared.token.TokenKind.{TokenKind}
use Rattle.ocr_text.specs.declared.token.TokenKind.TheVariants as kind
use Rattle.ocr_text.specs.declared.token.Token.{Token}
use Rattle.ocr_text.specs.Forms.{is_form}
use Rattle.ocr_text.specs.Tokens.{IsLongest, Tile, text_of}
use Rattle.ocr_text.specs.Texts.{IsInRange}
use Rattle.ocr_text.specs.Scan.{found}
use Rattle.ocr_text.proofs.Laws.{found_longest}
use Rattle.ocr_program_tree.specs.declared.tree.CallName.{CallName}
use Rattle.ocr_program_tree.specs.declared.tree.Constant as of_constant
use Rattle.ocr_program_grammar.specs.declared.lexeme.Lexeme.{Lexeme}
use Rattle.ocr_program_grammar.specs.declared.lexeme.Word.{Word}
use Rattle.ocr_program_grammar.specs.Lexing as lexing
use Rattle.ocr_program_grammar.specs.Lexing.{lexeme_as, lexeme_of, lexeme_onto, lexemes_of}
use Rattle.ocr_program_canonical.proofs.Lexed as lexed
use Rattle.ocr_program_canonical.proofs.Lexed.{IsLexed, Gives}
use Rattle.ocr_program_canonical.proofs.Read.{IsGood, AreGood}

-- ---- tokens of what was lexed

-- from this place on the bytes have tokens, which are these lexemes
pub record Spelled (bytes : List ℕ) (place : ℕ) (ls : List Lexeme) : Type 0 where
  pub tokens : List Token
  pub tile : Tile bytes place tokens (length bytes)
  pub lexemes : lexemes_of bytes tokens ≡ ls

gives_lexeme : (k : TokenKind) (piece : List ℕ) (l : Lexeme) → Gives k piece l → lexeme_as k piece ≡ Some l
gives_lexeme _ _ _ (lexed.number piece low) = refl
gives_lexeme _ _ _ (lexed.name piece) = refl
gives_lexeme _ _ _ (lexed.symbol piece l is) = is

gives_range : (k : TokenKind) (piece : List ℕ) (l : Lexeme) → Gives k piece l → IsInRange k piece
gives_range _ _ _ (lexed.number piece low) = λ is. low
gives_range _ _ _ (lexed.name piece) = λ is. cc
gives_range _ _ _ (lexed.symbol piece l s) = λ is. cc

piece_is : (bytes : List ℕ) (place n : ℕ) (rest : List ℕ) → rest ≡ drop place bytes → take (place + n - place) (drop place bytes) ≡ take n rest
piece_is bytes place n rest is =
    let size : place + n - place ≡ n = omega arith in
    ap (λ (m : ℕ). take m (drop place bytes)) size ∙ ap (take n) (sym is)

rest_is : (bytes : List ℕ) (place n : ℕ) (rest : List ℕ) → rest ≡ drop place bytes → drop n rest ≡ drop (place + n) bytes
rest_is bytes place n rest is = ap (drop n) is ∙ drop-drop n place bytes

nothing_left : (bytes : List ℕ) (place : ℕ) → [] ≡ drop place bytes → place ≤ length bytes → place ≡ length bytes
nothing_left bytes place is within = let e : 0 ≡ length (drop place bytes) = ap length is in omega (arith, e, within, length-drop place bytes)

pub spelled : (bytes rest : List ℕ) (ls : List Lexeme) → IsLexed rest ls → (place : ℕ) → place ≤ length bytes → rest ≡ drop place bytes → Spelled bytes place ls
spelled bytes _ _ lexed.over place within is = record { tokens = []; tile = nothing_left bytes place is within; lexemes = refl }
spelled bytes _ _ (lexed.blank rest n ls f d) place within is =
    let longest : IsLongest bytes place kind.Blank (place + n) = found_longest bytes place kind.Blank n (sym (ap found is) ∙ f) in
    let others = spelled bytes _ ls d (place + n) longest.within (rest_is bytes place n rest is) in
    record {
      tokens = record { kind = kind.Blank; start = place; end = place + n } ∷ others.tokens;
      tile = (refl, record { longest = longest; in_range = λ same. cc }, others.tile);
      lexemes = others.lexemes;
    }
spelled bytes _ _ (lexed.token rest k n l ls f g d) place within is =
    let longest : IsLongest bytes place k (place + n) = found_longest bytes place k n (sym (ap found is) ∙ f) in
    let others = spelled bytes _ ls d (place + n) longest.within (rest_is bytes place n rest is) in
    let here : Gives k (take (place + n - place) (drop place bytes)) l = subst (λ (p : List ℕ). Gives k p l) (sym (piece_is bytes place n rest is)) g in
    record {
      tokens = record { kind = k; start = place; end = place + n } ∷ others.tokens;
      tile = (refl, record { longest = longest; in_range = gives_range k _ l here }, others.tile);
      lexemes = ap (λ (o : Option Lexeme). lexeme_onto o (lexemes_of bytes others.tokens)) (gives_lexeme k _ l here) ∙ ap (λ (t : List Lexeme). l ∷ t) others.lexemes;
    }

-- ---- lexemes of tokens

abbrev IsGoodOption : Option Lexeme → Type 0
IsGoodOption None = Unit {0}
IsGoodOption (Some l) = IsGood l

pick : (b : Bool) (l : Lexeme) (o : Option Lexeme) → IsGood l → IsGoodOption o → IsGoodOption (cond b (Some l) o)
pick true l o good others = good
pick false l o good others = others

abbrev AreGoodSymbols : List (List ℕ × Lexeme) → Type 0
AreGoodSymbols [] = Unit {0}
AreGoodSymbols (s ∷ rest) = IsGood s.1 × AreGoodSymbols rest

found_good : (xs : List (List ℕ × Lexeme)) (text : List ℕ) → AreGoodSymbols xs → IsGoodOption (lexing.found_in xs text)
found_good [] text good = tt
found_good (s ∷ rest) text good = pick (lexing.same text s.0) s.1 (lexing.found_in rest text) good.0 (found_good rest text good.1)

symbol_good : (piece : List ℕ) → IsGoodOption (lexing.symbol piece)
symbol_good piece =
    found_good lexing.symbols piece
    (tt, (tt, (tt, (tt, (tt, (tt, (tt, (tt, (tt, (tt, (tt, (tt, (tt, (tt, (tt, (tt, (tt, (tt, (tt, (tt, (tt, (tt, (tt, (tt, (tt, (tt, (tt, tt)))))))))))))))))))))))))))

named_good : (w : Option Word) (c : Option CallName) (k : Option of_constant.Constant) (piece : List ℕ) → is_form kind.Name piece ≡ true
    → lexing.word_of piece ≡ w → lexing.call_of piece ≡ c → lexing.constant_of piece ≡ k → IsGood (lexing.found_name w c k piece)
named_good (Some w) c k piece form e1 e2 e3 = tt
named_good None (Some c) k piece form e1 e2 e3 = tt
named_good None None (Some k) piece form e1 e2 e3 = tt
named_good None None None piece form e1 e2 e3 = record {
  form = form;
  free = λ i. lexing.found_name (e1 i) (e2 i) (e3 i) piece;
}

piece_good : (k : TokenKind) (piece : List ℕ) → is_form k piece ≡ true → IsInRange k piece → IsGoodOption (lexeme_as k piece)
piece_good kind.Blank piece form range = tt
piece_good kind.Comment piece form range = tt
piece_good kind.Number piece form range = range refl
piece_good kind.Name piece form range = named_good (lexing.word_of piece) (lexing.call_of piece) (lexing.constant_of piece) piece form refl refl refl
piece_good kind.Symbol piece form range = symbol_good piece

onto_good : (o : Option Lexeme) (ls : List Lexeme) → IsGoodOption o → AreGood ls → AreGood (lexeme_onto o ls)
onto_good None ls good others = others
onto_good (Some l) ls good others = (good, others)

pub tokens_good : (bytes : List ℕ) (place last : ℕ) (tokens : List Token) → Tile bytes place tokens last → AreGood (lexemes_of bytes tokens)
tokens_good bytes place last [] tile = tt
tokens_good bytes place last (t ∷ ts) tile =
    onto_good (lexeme_of bytes t) (lexemes_of bytes ts) (piece_good t.kind (text_of bytes t) tile.1.longest.form tile.1.in_range) (tokens_good bytes t.end last ts tile.2)
