-- The text of `load` is a program.
use Rattle.std.proofs.Common.{◌≡◌, ◌<◌, ◌≤◌, ◌^◌, ℕ, List, [], ◌∷◌, ◌++◌, true, Option, Some, None, refl, sym, ◌∙◌, subst, length, arith, length-append, append_assoc}
use Rattle.std.specs.Prelude.{decimal}
use Rattle.std.proofs.lemmas.Fmt.{length-decimal-le}
use Rattle.ocr_program_tree.specs.Tree.{FunctionTree}
use Rattle.ocr_program_grammar.specs.declared.lexeme.Lexeme.{Lexeme}
use Rattle.ocr_program_grammar.specs.declared.lexeme.Lexeme.TheVariants as lexeme
use Rattle.ocr_program_grammar.specs.Limits.{nothing_read}
use Rattle.ocr_program_grammar.specs.Parser.{IsTree}
use Rattle.ocr_program_grammar.specs.Lexing.{lexemes_of, places_of}
use Rattle.ocr_program_grammar.proofs.Lexed.{seen}
use Rattle.ocr_program_parser.specs.Machine.{State, Functions, program_of, reads as parsed, start}
use Rattle.ocr_program.proofs.Sound.{read_is_program}
use Rattle.ocr_program_canonical.specs.RoundTrip.{IsTextOf}
use Rattle.ocr_program_canonical.proofs.Keeps.{to_fits}
use Rattle.ocr_program_canonical.proofs.Lexed.{IsLexed, number_before}
use Rattle.ocr_program_canonical.proofs.Tokens.{Spelled, spelled}
use Rattle.ocr_program_load.specs.LoadText.{head_text, middle_text, tail_text, load_text}
use Rattle.ocr_program_load.specs.Laws.{IsLoaded, LoadLaw}
use Rattle.ocr_program_load.proofs.Lexer.{lexed, reads, reads_all}
use Rattle.ocr_program_load.proofs.Reader.{breaks_none, is_sound, keeps, kept}

abbrev lexemes_in : List ℕ → List Lexeme
lexemes_in bytes = elim (lexed 1000 bytes) as (λ _. List Lexeme) [ Some ls ↦ ls | None ↦ [] ]

head_lexemes : List Lexeme
head_lexemes = lexemes_in head_text

middle_lexemes : List Lexeme
middle_lexemes = lexemes_in middle_text

tail_lexemes : List Lexeme
tail_lexemes = lexemes_in tail_text

head_read : lexed 1000 head_text ≡ Some head_lexemes
unfolding head_lexemes
head_read = refl

middle_read : lexed 1000 middle_text ≡ Some middle_lexemes
unfolding middle_lexemes
middle_read = refl

tail_read : lexed 1000 tail_text ≡ Some tail_lexemes
unfolding tail_lexemes
tail_read = refl

-- with the number as a variable
abbrev lexemes : ℕ → List Lexeme
lexemes n = head_lexemes ++ (lexeme.Number n ∷ (middle_lexemes ++ (lexeme.Number n ∷ tail_lexemes)))

nested : (a b c d e : List ℕ) → a ++ b ++ c ++ d ++ e ≡ a ++ (b ++ (c ++ (d ++ e)))
nested a b c d e = append_assoc (a ++ b ++ c) d e ∙ append_assoc (a ++ b) c (d ++ e) ∙ append_assoc a b (c ++ (d ++ e))

text_is : (n : ℕ) → load_text n ≡ head_text ++ (decimal n ++ (middle_text ++ (decimal n ++ tail_text)))
text_is n = nested head_text (decimal n) middle_text (decimal n) tail_text

are_lexed : (n : ℕ) → n < 2 ^ 64 → IsLexed (load_text n) (lexemes n)
are_lexed n low =
    let tail = reads_all 1000 tail_text tail_lexemes tail_read in
    let second = number_before n tail_text tail_lexemes low refl tail in
    let middle = reads 1000 middle_text middle_lexemes middle_read (decimal n ++ tail_text) (lexeme.Number n ∷ tail_lexemes) second in
    let first = number_before n (middle_text ++ (decimal n ++ tail_text)) (middle_lexemes ++ (lexeme.Number n ∷ tail_lexemes)) low refl middle in
    subst (λ (t : List ℕ). IsLexed t (lexemes n)) (sym (text_is n))
    (reads 1000 head_text head_lexemes head_read (decimal n ++ (middle_text ++ (decimal n ++ tail_text))) (lexeme.Number n ∷ (middle_lexemes ++ (lexeme.Number n ∷ tail_lexemes))) first)

abbrev functions_in : Option State → List FunctionTree
functions_in None = []
functions_in (Some s) = elim (program_of s) as (λ _. List FunctionTree) [ Some fs ↦ fs | None ↦ [] ]

program : ℕ → List FunctionTree
program n = functions_in (parsed start (lexemes n))

is_parsed : (n : ℕ) → parsed start (lexemes n) ≡ Some (Functions (program n))
unfolding head_lexemes middle_lexemes tail_lexemes program
is_parsed n = refl

is_kept : (n : ℕ) → keeps nothing_read (lexemes n) ≡ true
unfolding head_lexemes middle_lexemes tail_lexemes
is_kept n = refl

has_no_breach : (n : ℕ) → is_sound (program n) ≡ true
unfolding head_lexemes middle_lexemes tail_lexemes program
has_no_breach n = refl

is_tree : (n : ℕ) → IsTree (lexemes n) (program n)
is_tree n = record {
  whole = read_is_program (lexemes n) (program n) (is_parsed n);
  fits = to_fits (lexemes n) nothing_read (kept (lexemes n) nothing_read (is_kept n));
}

is_text : (n : ℕ) → n < 2 ^ 64 → IsTextOf (load_text n) (program n)
is_text n low =
    let s : Spelled (load_text n) 0 (lexemes n) = spelled (load_text n) (load_text n) (lexemes n) (are_lexed n low) 0 (omega arith) refl in
    record {
      tokens = s.tokens;
      are = s.tile;
      tree = record {
        places = places_of (load_text n) s.tokens;
        lexemes = lexemes_of (load_text n) s.tokens;
        seen = seen (load_text n) 0 (length (load_text n)) s.tokens s.tile;
        tree = subst (λ (ls : List Lexeme). IsTree ls (program n)) (sym s.lexemes) (is_tree n);
      };
    }

is_short : (n : ℕ) → n < 2 ^ 64 → length (load_text n) ≤ 2000
is_short n low =
    let head : length head_text ≡ 589 = refl in
    let middle : length middle_text ≡ 580 = refl in
    let tail : length tail_text ≡ 52 = refl in
    let after = decimal n ++ tail_text in
    let digits : length (decimal n) ≤ 20 = length-decimal-le 20 n (omega arith) (omega (arith, low)) low in
    subst (λ (t : List ℕ). length t ≤ 2000) (sym (text_is n))
    (omega (arith, head, middle, tail, digits, length-append head_text (decimal n ++ (middle_text ++ after)), length-append (decimal n) (middle_text ++ after), length-append middle_text after, length-append (decimal n) tail_text))

pub load_law : LoadLaw
load_law n low = record {
  program = program n;
  is_text = is_text n low;
  sound = breaks_none (program n) (has_no_breach n);
  short = is_short n low;
}
