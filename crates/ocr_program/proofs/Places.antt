-- How far the tokens were read, and what that says of them.
use Rattle.std.proofs.Common.{◌≡◌, ◌+◌, ◌≤◌, ◌<◌, ℕ, zero, suc, List, [], ◌∷◌, ◌++◌, length, take, drop, get_or, Option, Some, None, true, false, true≢false, inl, inr, refl, sym, ap, ◌∙◌, subst, arith, append_assoc, append-nil, length-append}
use Rattle.std.proofs.lemmas.Bool.{cases_lt}
use Rattle.std.proofs.lemmas.List.{take_more, take_all}
use Rattle.ocr_text.specs.declared.token.Token.{Token}
use Rattle.ocr_text.specs.Tokens.{IsToken, Tile, AreTokens}
use Rattle.ocr_program_tree.specs.Tree.{FunctionTree}
use Rattle.ocr_program_grammar.specs.declared.lexeme.Lexeme.{Lexeme}
use Rattle.ocr_program_grammar.specs.Grammar.{GoesOn}
use Rattle.ocr_program_grammar.specs.Counts.{tally}
use Rattle.ocr_program_grammar.specs.Limits.{Tally, tally_after, nothing_read, is_over, IsOver}
use Rattle.ocr_program_grammar.specs.Parser.{Fits, IsTree, IsFault}
use Rattle.ocr_program_grammar.specs.Lexemes.{IsTreeOf, IsSyntaxFault}
use Rattle.ocr_program_grammar.specs.Lexing.{lexeme_of, lexeme_onto, lexemes_of, place_onto, places_of}
use Rattle.ocr_program_grammar.proofs.Lexed.{seen}
use Rattle.ocr_program_parser.specs.Machine.{State, reads, step, next, start, Functions, program_of}
use Rattle.ocr_program_parser.specs.Fits.{IsFittingState}
use Rattle.ocr_program.proofs.Fits.{step_fitting}
use Rattle.ocr_program.proofs.Sound.{read_is_program}
use Rattle.ocr_program.proofs.Exact.{reads_append, goes_on, stops, no_program}
use Rattle.ocr_program_grammar.proofs.Counted.{tally_append}

-- these tokens are read to this state, and within the limits
pub record Read (front : List Lexeme) (s : State) (y : Tally) : Type 0 where
  pub reading : reads start front ≡ Some s
  pub tallying : y ≡ tally nothing_read front
  pub fits : Fits front (length front)
  pub fitting : IsFittingState s

pub nothing_is_read : Read [] (Functions []) nothing_read
nothing_is_read = record {
  reading = refl;
  tallying = refl;
  fits = λ k small over.
      let none : k ≡ 0 = omega arith in
      true≢false (sym over ∙ ap (λ (k1 : ℕ). is_over (tally nothing_read (take k1 []))) none);
  fitting = tt;
}

take_front : (front back : List Lexeme) (k : ℕ) → k ≤ length front → take k (front ++ back) ≡ take k front
take_front front back zero small = refl
take_front [] back (suc k) small = absurd (omega arith)
take_front (t ∷ front) back (suc k) small =
    ap (λ (l : List Lexeme). t ∷ l) (take_front front back k (omega (arith, small)))

take_whole : (front : List Lexeme) → take (length front) front ≡ front
take_whole [] = refl
take_whole (t ∷ front) = ap (λ (l : List Lexeme). t ∷ l) (take_whole front)

take_just : (front back : List Lexeme) → take (length front) (front ++ back) ≡ front
take_just [] back = refl
take_just (t ∷ front) back = ap (λ (l : List Lexeme). t ∷ l) (take_just front back)

take_next : (front back : List Lexeme) (t : Lexeme) → take (length front + 1) (front ++ t ∷ back) ≡ front ++ t ∷ []
take_next front back t =
    let len : length front + 1 ≡ length (front ++ t ∷ []) = sym (length-append front (t ∷ [])) in
    ap (λ (n : ℕ). take n (front ++ t ∷ back)) len
    ∙ ap (take (length (front ++ t ∷ []))) (sym (append_assoc front (t ∷ []) back))
    ∙ take_just (front ++ t ∷ []) back

fits_longer : (front back : List Lexeme) → Fits front (length front) → Fits (front ++ back) (length front)
fits_longer front back fits k small over =
    fits k small (subst IsOver (take_front front back k small) over)

not_over : (front : List Lexeme) (s : State) (y : Tally) → Read front s y → is_over y ≡ false
not_over front s y r =
    elim (is_over y) as (λ b. is_over y ≡ b → is_over y ≡ false) [
      | true ↦ λ is. absurd (r.fits (length front) (omega arith) (subst IsOver (sym (take_whole front)) (sym (ap is_over r.tallying) ∙ is)))
      | false ↦ λ is. is
    ] refl

tally_next : (front : List Lexeme) (s : State) (y : Tally) (t : Lexeme) → Read front s y
    → tally_after y t ≡ tally nothing_read (front ++ t ∷ [])
tally_next front s y t r =
    ap (λ (y1 : Tally). tally_after y1 t) r.tallying ∙ sym (tally_append nothing_read front (t ∷ []))

read_next : (front : List Lexeme) (s : State) (y : Tally) (t : Lexeme) → Read front s y
    → reads start (front ++ t ∷ []) ≡ step s t
read_next front s y t r = reads_append start front (t ∷ []) ∙ ap (λ (o : Option State). next o t) r.reading

length_less : (front back : List Lexeme) (t : Lexeme) → length front < length (front ++ t ∷ back)
length_less front back t = omega (arith, length-append front (t ∷ back))

-- one token too many
over_fault : (front back : List Lexeme) (s : State) (y : Tally) (t : Lexeme) → Read front s y
    → is_over (tally_after y t) ≡ true → IsFault (front ++ t ∷ back) (length front)
over_fault front back s y t r over = record {
  inside = omega (arith, length_less front back t);
  goes_on = subst GoesOn (sym (take_just front (t ∷ back))) (goes_on front s r.reading);
  fits = fits_longer front (t ∷ back) r.fits;
  stops = λ _ _. subst IsOver (sym (take_next front back t)) (sym (ap is_over (tally_next front s y t r)) ∙ over);
  ends = λ is. absurd (omega (arith, is, length_less front back t));
}

-- a token with which no program goes on
stop_fault : (front back : List Lexeme) (s : State) (y : Tally) (t : Lexeme) → Read front s y
    → step s t ≡ None → IsFault (front ++ t ∷ back) (length front)
stop_fault front back s y t r none = record {
  inside = omega (arith, length_less front back t);
  goes_on = subst GoesOn (sym (take_just front (t ∷ back))) (goes_on front s r.reading);
  fits = fits_longer front (t ∷ back) r.fits;
  stops = λ _ g. absurd (stops (front ++ t ∷ []) (read_next front s y t r ∙ none) (subst GoesOn (take_next front back t) g));
  ends = λ is. absurd (omega (arith, is, length_less front back t));
}

-- the text ends too early
end_fault : (front : List Lexeme) (s : State) (y : Tally) → Read front s y → program_of s ≡ None
    → IsFault front (length front)
end_fault front s y r none = record {
  inside = omega arith;
  goes_on = subst GoesOn (sym (take_whole front)) (goes_on front s r.reading);
  fits = r.fits;
  stops = λ less. absurd (omega (arith, less));
  ends = λ _ program d. no_program front s r.reading none program d;
}

fits_one_more : (front : List Lexeme) (t : Lexeme) → Fits front (length front) → (IsOver (front ++ t ∷ []) → ⊥)
    → Fits (front ++ t ∷ []) (length (front ++ t ∷ []))
fits_one_more front t before here k small =
    let len : length (front ++ t ∷ []) ≡ length front + 1 = length-append front (t ∷ []) in
    elim (cases_lt k (length front + 1)) as (λ _. IsOver (take k (front ++ t ∷ [])) → ⊥) [
      | inl less ↦ fits_longer front (t ∷ []) before k (omega (arith, less))
      | inr same ↦
          let all : length (front ++ t ∷ []) ≡ k = omega (arith, same, small, len) in
          let whole : front ++ t ∷ [] ≡ take k (front ++ t ∷ []) = sym (take_whole (front ++ t ∷ [])) ∙ ap (λ (n : ℕ). take n (front ++ t ∷ [])) all in
          subst (λ (l : List Lexeme). IsOver l → ⊥) whole here
    ]

further : (front : List Lexeme) (s s1 : State) (y : Tally) (t : Lexeme) → Read front s y
    → step s t ≡ Some s1 → is_over (tally_after y t) ≡ false → Read (front ++ t ∷ []) s1 (tally_after y t)
further front s s1 y t r is low = record {
  reading = read_next front s y t r ∙ is;
  tallying = tally_next front s y t r;
  fits = fits_one_more front t r.fits (λ over. true≢false (sym over ∙ sym (ap is_over (tally_next front s y t r)) ∙ low));
  fitting = step_fitting s s1 t r.fitting is;
}

no_some : {p : List FunctionTree} → None ≡ Some p → ⊥
no_some is = cc

program_is : (s : State) (p : List FunctionTree) → program_of s ≡ Some p → s ≡ Functions p
program_is (Functions fs) p is = let same : fs ≡ p = cc in ap Functions same
program_is other p is = absurd (no_some is)

tree_read : (front : List Lexeme) (s : State) (y : Tally) (p : List FunctionTree) → Read front s y → program_of s ≡ Some p
    → IsTree front p
tree_read front s y p r is = record {
  whole = read_is_program front p (r.reading ∙ ap Some (program_is s p is));
  fits = r.fits;
}

-- The tokens of the text. What the first n of them are to the grammar is read.
pub record Progress (bytes : List ℕ) (tokens : List Token) (n : ℕ) (s : State) (y : Tally) : Type 0 where
  pub read : Read (lexemes_of bytes (take n tokens)) s y

onto_append : (o : Option Lexeme) (all front back : List Lexeme) → all ≡ front ++ back
    → lexeme_onto o all ≡ lexeme_onto o front ++ back
onto_append None all front back is = is
onto_append (Some l) all front back is = ap (λ (rest : List Lexeme). l ∷ rest) is

lexemes_append : (bytes : List ℕ) (a b : List Token) → lexemes_of bytes (a ++ b) ≡ lexemes_of bytes a ++ lexemes_of bytes b
lexemes_append bytes [] b = refl
lexemes_append bytes (t ∷ a) b = onto_append (lexeme_of bytes t) _ _ _ (lexemes_append bytes a b)

place_append : (o : Option Lexeme) (place : ℕ) (all front back : List ℕ) → all ≡ front ++ back
    → place_onto o place all ≡ place_onto o place front ++ back
place_append None place all front back is = is
place_append (Some l) place all front back is = ap (λ (rest : List ℕ). place ∷ rest) is

places_append : (bytes : List ℕ) (a b : List Token) → places_of bytes (a ++ b) ≡ places_of bytes a ++ places_of bytes b
places_append bytes [] b = refl
places_append bytes (t ∷ a) b = place_append (lexeme_of bytes t) t.start _ _ _ (places_append bytes a b)

one_each : (o : Option Lexeme) (place : ℕ) (ps : List ℕ) (ls : List Lexeme) → length ps ≡ length ls
    → length (place_onto o place ps) ≡ length (lexeme_onto o ls)
one_each None place ps ls is = is
one_each (Some l) place ps ls is = ap (λ (n : ℕ). suc n) is

as_many : (bytes : List ℕ) (tokens : List Token) → length (places_of bytes tokens) ≡ length (lexemes_of bytes tokens)
as_many bytes [] = refl
as_many bytes (t ∷ tokens) = one_each (lexeme_of bytes t) t.start _ _ (as_many bytes tokens)

get_at : (ps back : List ℕ) (p d : ℕ) → get_or (ps ++ p ∷ back) (length ps) d ≡ p
get_at [] back p d = refl
get_at (q ∷ ps) back p d = get_at ps back p d

get_past : (ps : List ℕ) (d : ℕ) → get_or ps (length ps) d ≡ d
get_past [] d = refl
get_past (q ∷ ps) d = get_past ps d

-- the tokens around the one at hand
split : (tokens : List Token) (n : ℕ) (d : Token) → n < length tokens
    → tokens ≡ take n tokens ++ get_or tokens n d ∷ drop (suc n) tokens
split [] zero d inside = absurd (omega arith)
split [] (suc n) d inside = absurd (omega arith)
split (t ∷ tokens) zero d inside = refl
split (t ∷ tokens) (suc n) d inside = ap (λ (l : List Token). t ∷ l) (split tokens n d (omega (arith, inside)))

lexemes_split : (bytes : List ℕ) (tokens : List Token) (n : ℕ) (d : Token) (l : Lexeme) → n < length tokens
    → lexeme_of bytes (get_or tokens n d) ≡ Some l
    → lexemes_of bytes tokens ≡ lexemes_of bytes (take n tokens) ++ l ∷ lexemes_of bytes (drop (suc n) tokens)
lexemes_split bytes tokens n d l inside is =
    ap (lexemes_of bytes) (split tokens n d inside) ∙ lexemes_append bytes (take n tokens) _
    ∙ ap (λ (o : Option Lexeme). lexemes_of bytes (take n tokens) ++ lexeme_onto o (lexemes_of bytes (drop (suc n) tokens))) is

place_is : (bytes : List ℕ) (tokens : List Token) (n : ℕ) (d : Token) (l : Lexeme) → n < length tokens
    → lexeme_of bytes (get_or tokens n d) ≡ Some l
    → (get_or tokens n d).start ≡ get_or (places_of bytes tokens) (length (lexemes_of bytes (take n tokens))) (length bytes)
place_is bytes tokens n d l inside is =
    let t : Token = get_or tokens n d in
    let front : List ℕ = places_of bytes (take n tokens) in
    let back : List ℕ = places_of bytes (drop (suc n) tokens) in
    let all : places_of bytes tokens ≡ front ++ t.start ∷ back =
    ap (places_of bytes) (split tokens n d inside) ∙ places_append bytes (take n tokens) _
    ∙ ap (λ (o : Option Lexeme). front ++ place_onto o t.start back) is in
    sym (ap (λ (ps : List ℕ). get_or ps (length (lexemes_of bytes (take n tokens))) (length bytes)) all
    ∙ ap (λ (k : ℕ). get_or (front ++ t.start ∷ back) k (length bytes)) (sym (as_many bytes (take n tokens)))
    ∙ get_at front back t.start (length bytes))

lexemes_more : (bytes : List ℕ) (tokens : List Token) (n : ℕ) (d : Token) (o : Option Lexeme) → n < length tokens
    → lexeme_of bytes (get_or tokens n d) ≡ o
    → lexemes_of bytes (take (n + 1) tokens) ≡ lexemes_of bytes (take n tokens) ++ lexeme_onto o []
lexemes_more bytes tokens n d o inside is =
    ap (lexemes_of bytes) (take_more tokens n d inside) ∙ lexemes_append bytes (take n tokens) (get_or tokens n d ∷ [])
    ∙ ap (λ (o1 : Option Lexeme). lexemes_of bytes (take n tokens) ++ lexeme_onto o1 []) is

pub first : (bytes : List ℕ) (tokens : List Token) → Progress bytes tokens 0 (Functions []) nothing_read
first bytes tokens = record { read = nothing_is_read }

pub within_limits : (bytes : List ℕ) (tokens : List Token) (n : ℕ) (s : State) (y : Tally) → Progress bytes tokens n s y
    → is_over y ≡ false
within_limits bytes tokens n s y p = not_over _ s y p.read

pub is_fitting : (bytes : List ℕ) (tokens : List Token) (n : ℕ) (s : State) (y : Tally) → Progress bytes tokens n s y
    → IsFittingState s
is_fitting bytes tokens n s y p = p.read.fitting

pub passed : (bytes : List ℕ) (tokens : List Token) (n : ℕ) (s : State) (y : Tally) (d : Token)
    → Progress bytes tokens n s y → n < length tokens → lexeme_of bytes (get_or tokens n d) ≡ None
    → Progress bytes tokens (n + 1) s y
passed bytes tokens n s y d p inside is = record {
  read = subst (λ (l : List Lexeme). Read l s y) (sym (append-nil _) ∙ sym (lexemes_more bytes tokens n d None inside is)) p.read;
}

pub stepped : (bytes : List ℕ) (tokens : List Token) (n : ℕ) (s s1 : State) (y : Tally) (d : Token) (l : Lexeme)
    → Progress bytes tokens n s y → n < length tokens → lexeme_of bytes (get_or tokens n d) ≡ Some l
    → step s l ≡ Some s1 → is_over (tally_after y l) ≡ false → Progress bytes tokens (n + 1) s1 (tally_after y l)
stepped bytes tokens n s s1 y d l p inside is on low = record {
  read = subst (λ (ls : List Lexeme). Read ls s1 (tally_after y l)) (sym (lexemes_more bytes tokens n d (Some l) inside is)) (further _ s s1 y l p.read on low);
}

pub over_at : (bytes : List ℕ) (tokens : List Token) (n : ℕ) (s : State) (y : Tally) (d : Token) (l : Lexeme)
    → AreTokens bytes tokens → Progress bytes tokens n s y → n < length tokens
    → lexeme_of bytes (get_or tokens n d) ≡ Some l → is_over (tally_after y l) ≡ true
    → IsSyntaxFault bytes tokens (get_or tokens n d).start
over_at bytes tokens n s y d l are p inside is over = record {
  places = places_of bytes tokens;
  lexemes = lexemes_of bytes tokens;
  seen = seen bytes 0 (length bytes) tokens are;
  before = length (lexemes_of bytes (take n tokens));
  fault = subst (λ (ls : List Lexeme). IsFault ls (length (lexemes_of bytes (take n tokens)))) (sym (lexemes_split bytes tokens n d l inside is)) (over_fault _ _ s y l p.read over);
  here = place_is bytes tokens n d l inside is;
}

pub stop_at : (bytes : List ℕ) (tokens : List Token) (n : ℕ) (s : State) (y : Tally) (d : Token) (l : Lexeme)
    → AreTokens bytes tokens → Progress bytes tokens n s y → n < length tokens
    → lexeme_of bytes (get_or tokens n d) ≡ Some l → step s l ≡ None
    → IsSyntaxFault bytes tokens (get_or tokens n d).start
stop_at bytes tokens n s y d l are p inside is none = record {
  places = places_of bytes tokens;
  lexemes = lexemes_of bytes tokens;
  seen = seen bytes 0 (length bytes) tokens are;
  before = length (lexemes_of bytes (take n tokens));
  fault = subst (λ (ls : List Lexeme). IsFault ls (length (lexemes_of bytes (take n tokens)))) (sym (lexemes_split bytes tokens n d l inside is)) (stop_fault _ _ s y l p.read none);
  here = place_is bytes tokens n d l inside is;
}

pub tree_at_end : (bytes : List ℕ) (tokens : List Token) (n : ℕ) (s : State) (y : Tally) (p : List FunctionTree)
    → AreTokens bytes tokens → Progress bytes tokens n s y → n ≡ length tokens → program_of s ≡ Some p
    → IsTreeOf bytes tokens p
tree_at_end bytes tokens n s y p are w all is =
    let whole : take n tokens ≡ tokens = take_all n tokens (omega arith) in
    record {
      places = places_of bytes tokens;
      lexemes = lexemes_of bytes tokens;
      seen = seen bytes 0 (length bytes) tokens are;
      tree = subst (λ (ts : List Token). IsTree (lexemes_of bytes ts) p) whole (tree_read _ s y p w.read is);
    }

pub fault_at_end : (bytes : List ℕ) (tokens : List Token) (n : ℕ) (s : State) (y : Tally)
    → AreTokens bytes tokens → Progress bytes tokens n s y → n ≡ length tokens → program_of s ≡ None
    → IsSyntaxFault bytes tokens (length bytes)
fault_at_end bytes tokens n s y are w all none =
    let whole : take n tokens ≡ tokens = take_all n tokens (omega arith) in
    let read : ℕ = length (lexemes_of bytes (take n tokens)) in
    let past : length bytes ≡ get_or (places_of bytes (take n tokens)) read (length bytes) =
    sym (ap (λ (k : ℕ). get_or (places_of bytes (take n tokens)) k (length bytes)) (sym (as_many bytes (take n tokens))) ∙ get_past (places_of bytes (take n tokens)) (length bytes)) in
    record {
      places = places_of bytes tokens;
      lexemes = lexemes_of bytes tokens;
      seen = seen bytes 0 (length bytes) tokens are;
      before = read;
      fault = subst (λ (ts : List Token). IsFault (lexemes_of bytes ts) read) whole (end_fault _ s y w.read none);
      here = subst (λ (ts : List Token). length bytes ≡ get_or (places_of bytes ts) read (length bytes)) whole past;
    }

-- each token of the text is one
tile_token : (bytes : List ℕ) (from end : ℕ) (tokens : List Token) (n : ℕ) (d : Token) → Tile bytes from tokens end
    → n < length tokens → IsToken bytes (get_or tokens n d)
tile_token bytes from end [] zero d w inside = absurd (omega arith)
tile_token bytes from end [] (suc n) d w inside = absurd (omega arith)
tile_token bytes from end (t ∷ tokens) zero d w inside = w.1
tile_token bytes from end (t ∷ tokens) (suc n) d w inside = tile_token bytes t.end end tokens n d w.2 (omega (arith, inside))

pub token_at : (bytes : List ℕ) (tokens : List Token) (n : ℕ) (d : Token) → AreTokens bytes tokens → n < length tokens
    → IsToken bytes (get_or tokens n d)
token_at bytes tokens n d w inside = tile_token bytes 0 (length bytes) tokens n d w inside
