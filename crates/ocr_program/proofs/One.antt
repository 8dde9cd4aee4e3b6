-- A text has one tree or one fault, and never both.
use Rattle.std.proofs.Common.{◌≡◌, ◌+◌, ◌≤◌, ◌<◌, ℕ, zero, suc, List, [], ◌∷◌, ◌++◌, length, take, drop, get_or, inl, inr, refl, sym, ap, ◌∙◌, subst, arith, append_assoc}
use Rattle.std.proofs.lemmas.Bool.{cases_lt}
use Rattle.std.proofs.lemmas.List.{take-append-drop}
use Rattle.ocr_text.specs.declared.token.Token.{Token}
use Rattle.ocr_program_tree.specs.Tree.{FunctionTree}
use Rattle.ocr_program_grammar.specs.declared.lexeme.Lexeme.{Lexeme}
use Rattle.ocr_program_grammar.specs.Grammar.{IsProgram, GoesOn}
use Rattle.ocr_program_grammar.specs.Parser.{IsTree, IsFault}
use Rattle.ocr_program_grammar.specs.Lexemes.{IsTreeOf, IsSyntaxFault}
use Rattle.ocr_program_grammar.specs.Lexing.{lexemes_of, places_of}
use Rattle.ocr_program_grammar.proofs.Lexed.{told, tree_told}
use Rattle.ocr_program.proofs.Exact.{one_tree}

-- what goes on goes on from an earlier place
earlier : (ts : List Lexeme) (program : List FunctionTree) (n : ℕ) (rest : List Lexeme) → IsProgram (ts ++ rest) program
    → GoesOn (take n ts)
earlier ts program n rest d = record {
  rest = drop n ts ++ rest;
  program = program;
  whole = subst (λ (l : List Lexeme). IsProgram l program) (sym (sym (append_assoc (take n ts) (drop n ts) rest) ∙ ap (λ (l : List Lexeme). l ++ rest) (take-append-drop n ts))) d;
}

take_less : (ts : List Lexeme) (n m : ℕ) → n ≤ m → take n (take m ts) ≡ take n ts
take_less ts zero m small = refl
take_less [] (suc n) zero small = refl
take_less [] (suc n) (suc m) small = refl
take_less (t ∷ ts) (suc n) zero small = absurd (omega arith)
take_less (t ∷ ts) (suc n) (suc m) small = ap (λ (l : List Lexeme). t ∷ l) (take_less ts n m (omega (arith, small)))

not_before : (ts : List Lexeme) (n m : ℕ) → IsFault ts n → IsFault ts m → n < m → ⊥
not_before ts n m a b less =
    let g = b.goes_on in
    let on : GoesOn (take (n + 1) ts) = subst GoesOn (take_less ts (n + 1) m (omega (arith, less))) (earlier (take m ts) g.program (n + 1) g.rest g.whole) in
    b.fits (n + 1) (omega (arith, less)) (a.stops (omega (arith, less, b.inside)) on)

pub one_fault : (ts : List Lexeme) (n m : ℕ) → IsFault ts n → IsFault ts m → n ≡ m
one_fault ts n m a b = elim (cases_lt n m) as (λ _. n ≡ m) [
  | inl less ↦ absurd (not_before ts n m a b less)
  | inr more ↦ elim (cases_lt m n) as (λ _. n ≡ m) [
    | inl less ↦ absurd (not_before ts m n b a less)
    | inr other ↦ omega (arith, more, other)
  ]
]

pub apart : (ts : List Lexeme) (n : ℕ) (program : List FunctionTree) → IsFault ts n → IsTree ts program → ⊥
apart ts n program f t = elim (cases_lt n (length ts)) as (λ _. ⊥) [
  | inl less ↦
      let on : GoesOn (take (n + 1) ts) = record { rest = drop (n + 1) ts; program = program; whole = subst (λ (l : List Lexeme). IsProgram l program) (sym (take-append-drop (n + 1) ts)) t.whole } in
      t.fits (n + 1) (omega (arith, less)) (f.stops less on)
  | inr more ↦
      let here : n ≡ length ts = omega (arith, more, f.inside) in
      f.ends here program t.whole
]

pub same_tree : (bytes : List ℕ) (tokens : List Token) (p : List FunctionTree) (program : List FunctionTree)
    → IsTreeOf bytes tokens p → IsTreeOf bytes tokens program → p ≡ program
same_tree bytes tokens p program a b =
    one_tree (lexemes_of bytes tokens) p program (tree_told bytes tokens p a).whole (tree_told bytes tokens program b).whole

fault_told : (bytes : List ℕ) (tokens : List Token) (place : ℕ) (f : IsSyntaxFault bytes tokens place)
    → IsFault (lexemes_of bytes tokens) f.before
fault_told bytes tokens place f =
    subst (λ (ls : List Lexeme). IsFault ls f.before) (sym (told bytes tokens f.places f.lexemes f.seen).1) f.fault

place_told : (bytes : List ℕ) (tokens : List Token) (place : ℕ) (f : IsSyntaxFault bytes tokens place)
    → place ≡ get_or (places_of bytes tokens) f.before (length bytes)
place_told bytes tokens place f =
    f.here ∙ ap (λ (ps : List ℕ). get_or ps f.before (length bytes)) (sym (told bytes tokens f.places f.lexemes f.seen).0)

pub same_place : (bytes : List ℕ) (tokens : List Token) (a b : ℕ) → IsSyntaxFault bytes tokens a
    → IsSyntaxFault bytes tokens b → a ≡ b
same_place bytes tokens a b x y =
    place_told bytes tokens a x
    ∙ ap (λ (n : ℕ). get_or (places_of bytes tokens) n (length bytes)) (one_fault (lexemes_of bytes tokens) x.before y.before (fault_told bytes tokens a x) (fault_told bytes tokens b y))
    ∙ sym (place_told bytes tokens b y)

pub no_tree : (bytes : List ℕ) (tokens : List Token) (place : ℕ) (program : List FunctionTree)
    → IsSyntaxFault bytes tokens place → IsTreeOf bytes tokens program → ⊥
no_tree bytes tokens place program f t =
    apart (lexemes_of bytes tokens) f.before program (fault_told bytes tokens place f) (tree_told bytes tokens program t)
