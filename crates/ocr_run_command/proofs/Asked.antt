-- What is asked writes its numbers in digits; words that ask for nothing; and words ask for one thing.
use Rattle.std.proofs.Common.{String, Global, ◌≡◌, ◌==◌, ◌∙◌, ◌≤◌, ℕ, Bool, cond, suc, true, false, refl, sym, ap, ap₂, subst, codes, arith, List, [], ◌∷◌, ◌++◌, map, length, ◌<◌, drop, lt-ltb, true≢false, Option, Some, None, slice_index}
use Rattle.std.specs.Prelude.{is_none, nat_lt, slice_get, string_bytes, option_map}
use Rattle.std.specs.Borrow.{Bor}
use Rattle.std.specs.List.{All}
use Rattle.std.proofs.lemmas.Bool.{eqb-true}
use Rattle.std.proofs.lemmas.List.{length-map}
use Rattle.std.specs.Str.{bytes_eq}
use Rattle.std.specs.Str.Parse.{IsNumeral}
use Rattle.ocr_run_command.specs.Form.{Text, Piece, number, option, joined, flag, Line, IsLineOf, tail_pieces, said, AreKnown, is_in, option_names, flag_names, name_of, value_of, given, numbers, texts_of}
use Rattle.ocr_run_command.specs.Given.{Gives}
use Rattle.ocr_run_command.proofs.Readings.{known_said, all_plain, same_given, same_flag}
use Rattle.ocr_run_command.specs.Wanted.{Asks, AskedLaw, IsAsked, IsNumber, IsOr, IsRun, IsRunOptions, AreNumbers, is_given, option_in, reports_in, value}
use Rattle.ocr_run_command.specs.Numerals.{AreNumerals}
use Rattle.ocr_run_command.specs.Reader.{reader_app}
use Rattle.ocr_run_command.specs.declared.given.Arguments.{Arguments}
use Rattle.ocr_run_command.specs.declared.wanted.Options.{Options}
use Rattle.ocr_run_command.specs.declared.wanted.Reports.{Reports}
use Rattle.ocr_run_command.specs.declared.wanted.Wanted.{Wanted}
use Rattle.ocr_run_command.specs.declared.wanted.Wanted.TheVariants as a
use Rattle.ocr_run_command.proofs.Rules.{each}
use Rattle.ocr_run_command.proofs.Rows.{equal}
use Rattle.ocr_run_command.proofs.Pieces.{given-append}
use Rattle.ocr_run_command.proofs.Whole.{Shows, line_is_taken}
use Rattle.clap.specs.Simple.{matches_of}

abbrev Digits : List Text → Type 0
Digits [] = Unit {0}
Digits (t ∷ ts) = IsNumeral 10 t × Digits ts

digits_left : (xs ys : List Text) → Digits (xs ++ ys) → Digits xs
digits_left [] ys h = tt
digits_left (x ∷ xs) ys h = (h.0, digits_left xs ys h.1)

-- each text of an option, and each number, is digits
Writes : List Piece → Type 0
Writes ps = (Digits (given numbers ps)) × ((name : Text) → is_in name option_names ≡ true → Digits (given name ps))

rest_digits : (p : Piece) (ps : List Piece) (name : Text) → Digits (given name (p ∷ ps)) → Digits (given name ps)
rest_digits p ps name h = go (bytes_eq (name_of p) name) h
  where
    go : (b : Bool) → Digits (cond b (value_of p ∷ given name ps) (given name ps)) → Digits (given name ps)
    go true h = h.1
    go false h = h

own_digits : (p : Piece) (ps : List Piece) (name : Text) → name_of p ≡ name → Digits (given name (p ∷ ps)) → IsNumeral 10 (value_of p)
own_digits p ps name is h =
    (subst (λ b. Digits (cond b (value_of p ∷ given name ps) (given name ps))) (ap (λ x. bytes_eq x name) is ∙ equal name) h).0

numerals : (ps : List Piece) → AreKnown ps → Writes ps → AreNumerals ps
unfolding Writes
numerals [] known h = tt
numerals (number t ∷ ps) known h = (own_digits (number t) ps numbers refl h.0, numerals ps known.1 (rest_digits (number t) ps numbers h.0, λ name e. rest_digits (number t) ps name (h.1 name e)))
numerals (option n t ∷ ps) known h =
    (own_digits (option n t) ps n refl (h.1 n known.0), numerals ps known.1 (rest_digits (option n t) ps numbers h.0, λ name e. rest_digits (option n t) ps name (h.1 name e)))
numerals (joined n t ∷ ps) known h =
    (own_digits (joined n t) ps n refl (h.1 n known.0), numerals ps known.1 (rest_digits (joined n t) ps numbers h.0, λ name e. rest_digits (joined n t) ps name (h.1 name e)))
numerals (flag n ∷ ps) known h = numerals ps known.1 (rest_digits (flag n) ps numbers h.0, λ name e. rest_digits (flag n) ps name (h.1 name e))

one_or_none : (xs : List Text) (default least most n : ℕ) → length xs ≤ 1 → IsOr default least most (slice_get xs 0) n → Digits xs
one_or_none [] default least most n few h = tt
one_or_none (x ∷ []) default least most n few h = (h.is_number.digits, tt)
one_or_none (x ∷ y ∷ xs) default least most n few h = absurd (omega arith)

none : (xs : List Text) → slice_get xs 0 ≡ None → Digits xs
none [] h = tt
none (x ∷ xs) h = cc h

all : (xs : List Text) → All IsNumber xs → Digits xs
all [] h = tt
all (x ∷ xs) h = ((h 0 x (omega arith)).digits, all xs (λ k d lt. h (suc k) d (omega arith)))

abbrev Own : Line → Text → Type 0
Own l name = Digits (given name (said l))

writes : (l : Line) → AreKnown l.pieces → Own l numbers → Own l (codes "workers") → Own l (codes "objects") → Own l (codes "events") → AreNumerals l.pieces
unfolding Writes
writes l known n w o e =
    numerals l.pieces known (front numbers n, λ name k. front name (each (Own l) option_names name (w, (o, (e, tt))) k))
  where
    front : (name : Text) → Own l name → Digits (given name l.pieces)
    front name h = digits_left (given name l.pieces) (given name (tail_pieces l.tail)) (subst Digits (given-append name l.pieces (tail_pieces l.tail)) h)

nothing_said : (ps qs : List Piece) → ps ++ qs ≡ [] → AreNumerals ps
nothing_said [] qs is = tt
nothing_said (p ∷ ps) qs is = cc is

asked_digits : (command : Text) (l : Line) (words : List Text) (w : Wanted) → IsLineOf l words → Asks command (said l) w → AreNumerals l.pieces
asked_digits command l words (a.Run options args) line asks =
    let o = asks.1.options_are in
    writes l line.known (all _ asks.1.numbers_are) (one_or_none _ 4 1 64 options.workers (line.once (codes "workers") refl) o.workers)
    (one_or_none _ 4096 2 65536 options.objects (line.once (codes "objects") refl) o.objects) (one_or_none _ 200000 1 16000000 options.events (line.once (codes "events") refl) o.events)
asked_digits command l words a.Check line asks = nothing_said l.pieces (tail_pieces l.tail) asks.1
asked_digits command l words (a.Load n options) line asks =
    writes l line.known (subst Digits (sym asks.1.one) (asks.1.number_is.is_number.digits, tt))
    (one_or_none _ 4 1 64 options.workers (line.once (codes "workers") refl) asks.1.workers) (none _ asks.1.no_objects) (none _ asks.1.no_events)

-- ---- words that ask for nothing

-- as the reader says it
pub no_line : (words : List Text) → ((l : Line) → IsLineOf l (drop 1 words) → AreNumerals l.pieces → ⊥) → (w : Wanted) → IsAsked words w → ⊥
no_line [] none w asked = asked
no_line (command ∷ rest) none w asked = none asked.0 asked.1 (asked_digits command asked.0 rest w asked.1 asked.2)

command_is : (s x : String Global) (xs : List (String Global)) → Some s ≡ slice_get (x ∷ xs) 0 → string_bytes s ≡ string_bytes x
command_is s x xs is = ap (λ o. elim o as (λ _. Text) [ Some y ↦ string_bytes y | None ↦ string_bytes s ]) is

-- what the code keeps asks for nothing
pub no_command : (words : List (String Global)) (s : String Global) (g : Arguments) → Some s ≡ slice_get words 0
    → ((l : Line) → IsLineOf l (drop 1 (texts_of words)) → AreNumerals l.pieces → Gives g (said l))
    → ((ps : List Piece) → AreKnown ps → Gives g ps → (w : Wanted) → Asks (string_bytes s) ps w → ⊥) → (w : Wanted) → IsAsked (texts_of words) w → ⊥
no_command [] s g is every denies w asked = asked
no_command (x ∷ xs) s g is every denies w asked =
    let l = asked.0 in
    let gives = every l asked.1 (asked_digits (string_bytes x) l _ w asked.1 asked.2) in
    denies (said l) (known_said l asked.1.known) gives w (subst (λ c. Asks c (said l) w) (sym (command_is s x xs is)) asked.2)

-- what the code keeps asks for this
pub some_command : (words : List (String Global)) (s : String Global) (g : Arguments) (w : Wanted) → Some s ≡ slice_get words 0
    → (l : Line) × IsLineOf l (drop 1 (texts_of words)) × Gives g (said l)
    → ((ps : List Piece) → AreKnown ps → Gives g ps → Asks (string_bytes s) ps w) → IsAsked (texts_of words) w
some_command [] s g w is line asks = cc is
some_command (x ∷ xs) s g w is line asks =
    let l = line.0 in
    (l, line.1, subst (λ c. Asks c (said l) w) (command_is s x xs is) (asks (said l) (known_said l line.1.known) line.2))

-- ---- nothing after a command

own_given : (p : Piece) (ps : List Piece) → given (name_of p) (p ∷ ps) ≡ [] → ⊥
own_given p ps is =
    let here : value_of p ∷ given (name_of p) ps ≡ [] = sym (ap (λ b. cond b (value_of p ∷ given (name_of p) ps) (given (name_of p) ps)) (equal (name_of p))) ∙ is in
    cc here

no_pieces : (ps : List Piece) → AreKnown ps → given numbers ps ≡ [] → ((n : Text) → is_in n option_names ≡ true → given n ps ≡ [])
    → ((n : Text) → is_in n flag_names ≡ true → given n ps ≡ []) → ps ≡ []
no_pieces [] known n o f = refl
no_pieces (number t ∷ ps) known n o f = absurd (own_given (number t) ps n)
no_pieces (option x t ∷ ps) known n o f = absurd (own_given (option x t) ps (o x known.0))
no_pieces (joined x t ∷ ps) known n o f = absurd (own_given (joined x t) ps (o x known.0))
no_pieces (flag x ∷ ps) known n o f = absurd (own_given (flag x) ps (f x known.0))

no_texts : (xs : List Text) → slice_get xs 0 ≡ None → xs ≡ []
no_texts [] is = refl
no_texts (x ∷ xs) is = cc is

no_times : (xs : List Text) → nat_lt 0 (length xs) ≡ false → xs ≡ []
no_times [] is = refl
no_times (x ∷ xs) is = absurd (true≢false (sym (lt-ltb 0 (length (x ∷ xs)) (omega arith)) ∙ is))

no_option : (o : Option (Bor Text)) (p : Option Text) → option_map (λ s. s.now) o ≡ p → is_none o ≡ true → p ≡ None
no_option None p is none = sym is
no_option (Some s) p is none = cc none

abbrev pub no_reports : Reports
no_reports = record { summary = false; left = false; stale = false; refused = false; races = false; blocks = false; journal = false }

pub nothing_kept : (g : Arguments) (ps : List Piece) → AreKnown ps → Gives g ps → is_none g.workers ≡ true → is_none g.objects ≡ true → is_none g.events ≡ true → g.reports ≡ no_reports → g.numbers.items ≡ [] → ps ≡ []
nothing_kept g ps known gives w o e r n =
    let reports : reports_in ps ≡ no_reports = sym gives.reports ∙ r in
    no_pieces ps known (sym gives.numbers_are ∙ ap (map (λ s. s.now)) n)
    (λ name k. each (λ x. given x ps ≡ []) option_names name (
      no_texts _ (no_option g.workers _ gives.workers w),
      (no_texts _ (no_option g.objects _ gives.objects o), (no_texts _ (no_option g.events _ gives.events e), tt)),
    ) k)
    (λ name k. each (λ x. given x ps ≡ []) flag_names name (
      no_times _ (ap (λ x. x.summary) reports),
      (
        no_times _ (ap (λ x. x.left) reports),
        (
          no_times _ (ap (λ x. x.stale) reports),
          (no_times _ (ap (λ x. x.refused) reports), (no_times _ (ap (λ x. x.races) reports), (no_times _ (ap (λ x. x.blocks) reports), (no_times _ (ap (λ x. x.journal) reports), tt)))),
        ),
      ),
    ) k)

pub no_items : (xs : List (Bor Text)) → (length xs == 0) ≡ true → xs ≡ []
no_items [] is = refl
no_items (x ∷ xs) is = absurd (omega (arith, eqb-true (length (x ∷ xs)) 0 is))

pub no_numbers : (g : Arguments) (ps : List Piece) → Gives g ps → ps ≡ [] → g.numbers.items ≡ []
no_numbers g ps gives none = go g.numbers.items (gives.numbers_are ∙ ap (given numbers) none)
  where
    go : (xs : List (Bor Text)) → map (λ s. s.now) xs ≡ [] → xs ≡ []
    go [] is = refl
    go (x ∷ xs) is = cc is

-- a run of numbers that were not kept for want of memory
pub unkept_run : (g : Arguments) (ps : List Piece) (options : Options) (texts : List (Bor Text)) → Gives g ps → texts ≡ g.numbers.items → IsRunOptions ps options
    → AreNumbers (map (λ s. s.now) texts) → length texts ≤ 32 → 0 < length texts → ((w : Wanted) × Asks (codes "run") ps w) × (0 < length (given numbers ps))
unkept_run g ps options texts gives are is all few some =
    let here : map (λ s. s.now) texts ≡ given numbers ps = ap (map (λ s. s.now)) are ∙ gives.numbers_are in
    let count : length (given numbers ps) ≡ length texts = sym (ap length here) ∙ length-map texts (λ (s : Bor Text). s.now) in
    let run : IsRun ps options (map value (given numbers ps)) = record {
      options_are = is;
      numbers_are = subst AreNumbers here all;
      args_are = refl;
      few = omega (arith, length-map (given numbers ps) value, count, few);
    } in
    ((a.Run options (map value (given numbers ps)), (refl, run)), omega (arith, count, some))

differ : (c d e : Text) → c ≡ d → c ≡ e → (slice_index d 0 ≡ slice_index e 0 → ⊥) → ⊥
differ c d e p q apart = apart (ap (λ x. slice_index x 0) (sym p ∙ q))

-- ---- words ask for one thing

-- these pieces give the same
record Same (ps qs : List Piece) : Type 0 where
  workers : option_in (codes "workers") ps ≡ option_in (codes "workers") qs
  objects : option_in (codes "objects") ps ≡ option_in (codes "objects") qs
  events : option_in (codes "events") ps ≡ option_in (codes "events") qs
  reports : reports_in ps ≡ reports_in qs
  numbers_are : given numbers ps ≡ given numbers qs

same_pieces : (rows : List _) (ps qs : List Piece) → AreKnown ps → AreKnown qs → Shows rows ps → Shows rows qs → Same ps qs
same_pieces rows ps qs known_p known_q a b = record {
  workers = ap (λ xs. slice_get xs 0) (same_given rows ps qs a b (codes "workers") refl);
  objects = ap (λ xs. slice_get xs 0) (same_given rows ps qs a b (codes "objects") refl);
  events = ap (λ xs. slice_get xs 0) (same_given rows ps qs a b (codes "events") refl);
  reports = λ i. record {
    summary = flag_is (codes "summary") refl i;
    left = flag_is (codes "left") refl i;
    stale = flag_is (codes "stale") refl i;
    refused = flag_is (codes "refused") refl i;
    races = flag_is (codes "races") refl i;
    blocks = flag_is (codes "blocks") refl i;
    journal = flag_is (codes "journal") refl i;
  };
  numbers_are = same_given rows ps qs a b numbers refl;
}
  where
    flag_is : (name : Text) → is_in name flag_names ≡ true → is_given name ps ≡ is_given name qs
    flag_is name e = same_flag rows ps qs known_p known_q a b name e

is_or_one : (default least most : ℕ) (o p : Option Text) (n m : ℕ) → o ≡ p → IsOr default least most o n → IsOr default least most p m → n ≡ m
is_or_one default least most None None n m is h k = h ∙ sym k
is_or_one default least most None (Some u) n m is h k = cc is
is_or_one default least most (Some t) None n m is h k = cc is
is_or_one default least most (Some t) (Some u) n m is h k =
    let same : t ≡ u = ap (λ o. elim o as (λ _. Text) [ Some y ↦ y | None ↦ t ]) is in
    h.is ∙ ap value same ∙ sym k.is

one_options : (p q : Options) → p.workers ≡ q.workers → p.objects ≡ q.objects → p.events ≡ q.events → p.reports ≡ q.reports → p ≡ q
one_options p q w o e r = λ i. record { workers = w i; objects = o i; events = e i; reports = r i }

one_text : (t u : Text) (xs ys : List Text) → xs ≡ ys → xs ≡ t ∷ [] → ys ≡ u ∷ [] → t ≡ u
one_text t u xs ys is h k = ap (λ zs. elim zs as (λ _. Text) [ [] ↦ t | (z ∷ rest) ↦ z ]) (sym h ∙ is ∙ k)

one_asked : (c : Text) (ps qs : List Piece) (v w : Wanted) → Same ps qs → Asks c ps v → Asks c qs w → v ≡ w
one_asked c ps qs (a.Run p xs) (a.Run q ys) same h k =
    let f = h.1.options_are in
    let g = k.1.options_are in
    let options = one_options p q (is_or_one 4 1 64 _ _ _ _ same.workers f.workers g.workers) (is_or_one 4096 2 65536 _ _ _ _ same.objects f.objects g.objects)
    (is_or_one 200000 1 16000000 _ _ _ _ same.events f.events g.events) (f.reports ∙ same.reports ∙ sym g.reports) in
    ap₂ (λ (o : Options) (zs : List ℕ). a.Run o zs) options (h.1.args_are ∙ ap (map value) same.numbers_are ∙ sym k.1.args_are)
one_asked c ps qs (a.Run p xs) a.Check same h k = absurd (differ c _ _ h.0 k.0 (λ e. omega (arith, e)))
one_asked c ps qs (a.Run p xs) (a.Load n q) same h k = absurd (differ c _ _ h.0 k.0 (λ e. omega (arith, e)))
one_asked c ps qs a.Check (a.Run q ys) same h k = absurd (differ c _ _ h.0 k.0 (λ e. omega (arith, e)))
one_asked c ps qs a.Check a.Check same h k = refl
one_asked c ps qs a.Check (a.Load n q) same h k = absurd (differ c _ _ h.0 k.0 (λ e. omega (arith, e)))
one_asked c ps qs (a.Load n p) (a.Run q ys) same h k = absurd (differ c _ _ h.0 k.0 (λ e. omega (arith, e)))
one_asked c ps qs (a.Load n p) a.Check same h k = absurd (differ c _ _ h.0 k.0 (λ e. omega (arith, e)))
one_asked c ps qs (a.Load n p) (a.Load m q) same h k =
    let f = h.1 in
    let g = k.1 in
    let number_is : n ≡ m = f.number_is.is ∙ ap value (one_text f.text g.text _ _ same.numbers_are f.one g.one) ∙ sym g.number_is.is in
    let options = one_options p q (is_or_one 4 1 64 _ _ _ _ same.workers f.workers g.workers) (f.objects ∙ sym g.objects) (f.events ∙ sym g.events)
    (f.reports ∙ ap (λ (r : Reports). record r { summary = true }) same.reports ∙ sym g.reports) in
    ap₂ (λ (x : ℕ) (o : Options). a.Load x o) number_is options

-- the lines of words give the same
same_lines : (words : List Text) (l m : Line) → IsLineOf l (drop 1 words) → IsLineOf m (drop 1 words) → AreNumerals l.pieces → AreNumerals m.pieces → Same (said l) (said m)
same_lines words l m line other digits others =
    let rows = matches_of reader_app words in
    same_pieces rows (said l) (said m) (known_said l line.known) (known_said m other.known)
    (line_is_taken words l line.spelled line.known line.once (all_plain l.pieces digits)).1
    (line_is_taken words m other.spelled other.known other.once (all_plain m.pieces others)).1

pub asked_law : AskedLaw
asked_law [] v w h k = absurd h
asked_law (command ∷ rest) v w h k =
    let digits = asked_digits command h.0 rest v h.1 h.2 in
    let others = asked_digits command k.0 rest w k.1 k.2 in
    one_asked command (said h.0) (said k.0) v w (same_lines (command ∷ rest) h.0 k.0 h.1 k.1 digits others) h.2 k.2
