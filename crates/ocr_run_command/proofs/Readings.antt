-- From the rows of the matches to what the code reads of them.
use Rattle.std.proofs.Common.{length, lt-ltb, ◌≡◌, ◌∙◌, ◌==◌, ◌<◌, ◌&&◌, Bool, cond, true, false, refl, sym, ap, subst, true≢false, codes, arith, List, [], ◌∷◌, ◌++◌, map, Option, Some, None}
use Rattle.std.specs.Prelude.{nat_lt, find, slice_get, option_map, option_and_then}
use Rattle.std.specs.Option.{option_map_or}
use Rattle.std.specs.Str.{bytes_eq}
use Rattle.std.specs.Str.Parse.{IsNumeral}
use Rattle.std.specs.Char.{digit_value}
use Rattle.std.proofs.lemmas.Bool.Decides.{nat_tests}
use Rattle.clap.specs.Walk.{Row, all_of, first_of, one_of, row_text, rows_of}
use Rattle.clap.specs.Values.{read_as}
use Rattle.clap.specs.Lexer.{strip_byte, long_of_rest, short_of_rest}
use Rattle.clap.specs.declared.parser.matches.Found.{Found}
use Rattle.clap.proofs.WalkLemmas.{first_value-rows, one_text-rows, raw_values-rows}
use Rattle.ocr_run_command.specs.Form.{Text, Piece, number, option, joined, flag, Line, tail_pieces, said, AreKnown, IsKnown, is_in, option_names, flag_names, name_of, value_of, given, numbers}
use Rattle.ocr_run_command.specs.Wanted.{is_given}
use Rattle.ocr_run_command.specs.Given.{Reads, some_texts}
use Rattle.ocr_run_command.specs.Numerals.{AreNumerals}
use Rattle.ocr_run_command.proofs.Rules.{each}
use Rattle.ocr_run_command.proofs.Rows.{Seen, seen, told, same}
use Rattle.ocr_run_command.proofs.Lex.{IsPlain}
use Rattle.ocr_run_command.proofs.Pieces.{some_of}
use Rattle.ocr_run_command.proofs.Whole.{Shows, filled, filled_false}
use Rattle.ocr_run_command.proofs.Complete.{ArePlain}
use Rattle.std.proofs.Common.{drop, inl, inr}
use Rattle.clap.specs.Simple.{App, is_simple, matches_of}
use Rattle.clap.specs.Faults.{fault_of, is_simple_and_free}
use Rattle.clap.specs.Kinds.{HasKind}
use Rattle.clap.specs.Values.{kind_of}
use Rattle.clap.specs.declared.error.Error.{Error}
use Rattle.clap.specs.declared.error.kind.ErrorKind.TheVariants as kind
use Rattle.ocr_run_command.specs.Form.{IsLineOf}
use Rattle.ocr_run_command.specs.Reader.{reader_app}
use Rattle.ocr_run_command.proofs.Rules.{is_free, is_plain}
use Rattle.ocr_run_command.proofs.Whole.{taken_is_line, line_is_taken}

first_seen : (id : Text) (rows : List Row) → first_of id rows ≡ option_and_then (λ p. slice_get p.0 0) (seen id rows)
first_seen id rows = go (find (λ r. bytes_eq r.id id) rows)
  where
    go : (o : Option Row) → option_and_then (λ (r : Row). slice_get r.values 0) o ≡ option_and_then (λ p. slice_get p.0 0) (option_map told o)
    go None = refl
    go (Some r) = refl

one_seen : (id : Text) (rows : List Row) → one_of id rows ≡ option_and_then (λ p. option_map (read_as p.1) (slice_get p.0 0)) (seen id rows)
one_seen id rows = go (find (λ r. bytes_eq r.id id) rows)
  where
    go : (o : Option Row) → option_and_then row_text o ≡ option_and_then (λ p. option_map (read_as p.1) (slice_get p.0 0)) (option_map told o)
    go None = refl
    go (Some r) = refl

all_seen : (id : Text) (rows : List Row) → all_of id rows ≡ option_map (λ p. p.0) (seen id rows)
all_seen id rows = go (find (λ r. bytes_eq r.id id) rows)
  where
    go : (o : Option Row) → option_map (λ (r : Row). r.values) o ≡ option_map (λ p. p.0) (option_map told o)
    go None = refl
    go (Some r) = refl

first_some : (xs : List Text) → option_and_then (λ p. slice_get p.0 0) (filled false (some_of xs)) ≡ slice_get xs 0
first_some [] = refl
first_some (x ∷ xs) = refl

all_some : (xs : List Text) → option_map (λ p. p.0) (filled false (some_of xs)) ≡ some_texts xs
all_some [] = refl
all_some (x ∷ xs) = refl

no_flag : (name : Text) → is_in name option_names ≡ true → is_in name flag_names ≡ false
no_flag name e = each (λ n. is_in n flag_names ≡ false) option_names name (refl, (refl, (refl, tt))) e

abbrev is_some_text : List Text → Bool
is_some_text [] = false
is_some_text (t ∷ ts) = true

given_some : (xs : List Text) → is_some_text xs ≡ nat_lt 0 (length xs)
given_some [] = refl
given_some (x ∷ xs) = sym (lt-ltb 0 (length (x ∷ xs)) (omega arith))

-- each text is `true`
abbrev AllTrue : List Text → Type 0
AllTrue [] = Unit {0}
AllTrue (x ∷ xs) = (x ≡ codes "true") × AllTrue xs

flag_true : (name : Text) (ps : List Piece) → AreKnown ps → is_in name flag_names ≡ true → AllTrue (given name ps)
flag_true name [] known e = tt
flag_true name (p ∷ ps) known e = go p known.0 (flag_true name ps known.1 e) (bytes_eq (name_of p) name) refl
  where
    not_option : (n : Text) → is_in n option_names ≡ true → bytes_eq n name ≡ true → ⊥
    not_option n k t = absurd (true≢false (sym e ∙ ap (λ x. is_in x flag_names) (sym (same n name t)) ∙ no_flag n k))

    go : (p : Piece) → IsKnown p → AllTrue (given name ps) → (b : Bool) → bytes_eq (name_of p) name ≡ b → AllTrue (given name (p ∷ ps))
    go p known later false t = subst (λ b. AllTrue (cond b (value_of p ∷ given name ps) (given name ps))) (sym t) later
    go (number u) known later true t = absurd (true≢false (sym e ∙ ap (λ x. is_in x flag_names) (sym (same numbers name t))))
    go (option n u) known later true t = absurd (not_option n known t)
    go (joined n u) known later true t = absurd (not_option n known t)
    go (flag n) known later true t = subst (λ b. AllTrue (cond b (value_of (flag n) ∷ given name ps) (given name ps))) (sym t) (refl, later)

one_true : (xs : List Text) → AllTrue xs → option_and_then (λ p. option_map (read_as p.1) (slice_get p.0 0)) (filled true (some_of xs)) ≡ Some (cond (is_some_text xs) (codes "true") (codes "false"))
one_true [] h = refl
one_true (x ∷ xs) h = ap Some h.0

known_tail : (ts : List Text) → AreKnown (map (λ t. number t) ts)
known_tail [] = tt
known_tail (t ∷ ts) = (tt, known_tail ts)

known_append : (ps qs : List Piece) → AreKnown ps → AreKnown qs → AreKnown (ps ++ qs)
known_append [] qs h k = k
known_append (p ∷ ps) qs h k = (h.0, known_append ps qs h.1 k)

pub known_said : (l : Line) → AreKnown l.pieces → AreKnown (said l)
known_said l h = known_append l.pieces (tail_pieces l.tail) h (go l.tail)
  where
    go : (o : Option (List Text)) → AreKnown (tail_pieces o)
    go None = tt
    go (Some ts) = known_tail ts

pub reads : (f : Found) (l : Line) → AreKnown l.pieces → Shows (rows_of f) (said l) → Reads f l
reads f l known shows = record {
  option = λ name e. first_value-rows f name ∙ first_seen name (rows_of f) ∙ ap (option_and_then (λ p. slice_get p.0 0)) (shows name)
      ∙ ap (λ b. option_and_then (λ p. slice_get p.0 0) (filled b (some_of (given name (said l))))) (no_flag name e) ∙ first_some (given name (said l));
  flag = λ name e. one_text-rows f name ∙ one_seen name (rows_of f) ∙ ap (option_and_then (λ p. option_map (read_as p.1) (slice_get p.0 0))) (shows name)
      ∙ ap (λ b. option_and_then (λ p. option_map (read_as p.1) (slice_get p.0 0)) (filled b (some_of (given name (said l))))) e
      ∙ one_true (given name (said l)) (flag_true name (said l) (known_said l known) e)
      ∙ ap (λ b. Some (cond b (codes "true") (codes "false"))) (given_some (given name (said l)));
  numbers_are = raw_values-rows f numbers ∙ all_seen numbers (rows_of f) ∙ ap (option_map (λ p. p.0)) (shows numbers) ∙ all_some (given numbers (said l));
}

-- ---- rows give one thing

texts_of_seen : Seen → List Text
texts_of_seen None = []
texts_of_seen (Some p) = p.0

seen_texts : (xs : List Text) → texts_of_seen (some_of xs) ≡ xs
unfolding texts_of_seen
seen_texts [] = refl
seen_texts (x ∷ xs) = refl

-- what no flag gives
pub same_given : (rows : List Row) (ps qs : List Piece) → Shows rows ps → Shows rows qs → (id : Text) → is_in id flag_names ≡ false → given id ps ≡ given id qs
same_given rows ps qs a b id unflagged = sym (one ps a) ∙ one qs b
  where
    one : (xs : List Piece) → Shows rows xs → texts_of_seen (seen id rows) ≡ given id xs
    one xs shows = ap texts_of_seen (shows id ∙ ap (λ b. filled b (some_of (given id xs))) unflagged ∙ filled_false (some_of (given id xs))) ∙ seen_texts (given id xs)

is_true : Seen → Bool
is_true None = false
is_true (Some p) = option_map_or (λ t. bytes_eq t (codes "true")) (slice_get p.0 0) false

true_seen : (xs : List Text) → AllTrue xs → is_true (filled true (some_of xs)) ≡ nat_lt 0 (length xs)
unfolding is_true
true_seen [] h = refl
true_seen (x ∷ xs) h = ap (λ t. bytes_eq t (codes "true")) h.0 ∙ given_some (x ∷ xs)

-- whether a flag is given
pub same_flag : (rows : List Row) (ps qs : List Piece) → AreKnown ps → AreKnown qs → Shows rows ps → Shows rows qs → (id : Text) → is_in id flag_names ≡ true → is_given id ps ≡ is_given id qs
same_flag rows ps qs known_p known_q a b id e = sym (one ps known_p a) ∙ one qs known_q b
  where
    one : (xs : List Piece) → AreKnown xs → Shows rows xs → is_true (seen id rows) ≡ is_given id xs
    one xs known shows = ap is_true (shows id ∙ ap (λ b. filled b (some_of (given id xs))) e) ∙ true_seen (given id xs) (flag_true id xs known e)

-- ---- digits are no more than a word

plain : (t : Text) → IsNumeral 10 t → IsPlain t
plain [] h = absurd (omega (arith, h.0))
plain (x ∷ xs) h = go (x == 45) refl
  where
    go : (b : Bool) → (x == 45) ≡ b → IsPlain (x ∷ xs)
    go true t =
        let is : x ≡ 45 = grind (arith, nat_tests) in
        absurd (less (subst (λ y. ◌<◌ (digit_value y) 10) is h.1.0))
      where
        less : ◌<◌ 36 10 → ⊥
        less e = omega (arith, e)
    go false t = record {
      no_long = ap (λ b. option_and_then long_of_rest (option_and_then (strip_byte 45) (cond b (Some xs) None))) t;
      no_short = ap (λ b. option_and_then short_of_rest (cond b (Some xs) None)) t;
      no_dashes = ap (λ b. ◌&&◌ b (bytes_eq xs (45 ∷ []))) t;
    }

pub all_plain : (ps : List Piece) → AreNumerals ps → ArePlain ps
all_plain [] h = tt
all_plain (number t ∷ ps) h = (plain t h.0, all_plain ps h.1)
all_plain (option n t ∷ ps) h = (plain t h.0, all_plain ps h.1)
all_plain (joined n t ∷ ps) h = (tt, all_plain ps h.1)
all_plain (flag n ∷ ps) h = (tt, all_plain ps h)

-- ---- what the reader's clauses come to

pub line_read : (a : App) (ts : List Text) (f : Found) → a ≡ reader_app → (is_simple_and_free a ≡ true → fault_of a ts ≡ []) → (is_simple a ≡ true → rows_of f ≡ matches_of a ts)
    → (l : Line) × IsLineOf l (drop 1 ts) × Reads f l
line_read a ts f is passes rows =
    let none = ap (λ (b : App). fault_of b ts) (sym is) ∙ passes (ap is_simple_and_free is ∙ is_free) in
    let own = rows (ap is_simple is ∙ is_plain) ∙ ap (λ (b : App). matches_of b ts) is in
    let line = taken_is_line ts none in
    let shows = subst (λ (rs : List Row). Shows rs (said line.0)) (sym own) line.1.3 in
    (line.0, record { spelled = line.1.0; known = line.1.1; once = line.1.2 }, reads f line.0 line.1.1 shows)

pub every_read : (a : App) (ts : List Text) (f : Found) → a ≡ reader_app → (is_simple a ≡ true → rows_of f ≡ matches_of a ts)
    → (l : Line) → IsLineOf l (drop 1 ts) → AreNumerals l.pieces → Reads f l
every_read a ts f is rows l line digits =
    let own = rows (ap is_simple is ∙ is_plain) ∙ ap (λ (b : App). matches_of b ts) is in
    let taken = line_is_taken ts l line.spelled line.known line.once (all_plain l.pieces digits) in
    reads f l line.known (subst (λ (rs : List Row). Shows rs (said l)) (sym own) taken.1)

pub none_read : (a : App) (ts : List Text) (e : Error) → a ≡ reader_app → (is_simple_and_free a ≡ true → HasKind (fault_of a ts) e) → (kind_of e ≡ kind.OutOfMemory → ⊥)
    → (l : Line) → IsLineOf l (drop 1 ts) → AreNumerals l.pieces → ⊥
none_read a ts e is fails known l line digits =
    let taken = line_is_taken ts l line.spelled line.known line.once (all_plain l.pieces digits) in
    let none = ap (λ (b : App). fault_of b ts) is ∙ taken.0 in
    let has = subst (λ ks. HasKind ks e) none (fails (ap is_simple_and_free is ∙ is_free)) in
    elim has [ inl memory ↦ known memory | inr among ↦ absurd among ]
