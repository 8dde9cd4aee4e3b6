-- The reader, on all the words.
use Rattle.std.proofs.Common.{◌≡◌, ◌∙◌, ◌⊎◌, ◌&&◌, ◌||◌, ℕ, Bool, cond, true, false, zero, suc, refl, sym, ap, ap₂, subst, inl, inr, true≢false, codes, List, [], ◌∷◌, ◌++◌, map, length, Option, Some, None, drop}
use Rattle.std.specs.Prelude.{fold, is_some}
use Rattle.std.specs.Str.{bytes_eq}
use Rattle.clap.specs.Walk.{Held, Rule, Row, idle, default_rows, has_row, nothing_held, settled, walk, with_default, with_values}
use Rattle.clap.specs.Simple.{built, matches_of}
use Rattle.clap.specs.Faults.{defaults_fault, given_default_fault, fault_of, settle_fault, walk_fault}
use Rattle.clap.specs.Kinds.{Kinds, or_else}
use Rattle.clap.specs.declared.parser.matches.ValueSource.TheVariants.{DefaultValue}
use Rattle.clap.specs.declared.builder.value_parser.Reading.TheVariants.{AsWritten}
use Rattle.clap.proofs.FaultLemmas.{leaf_fault}
use Rattle.ocr_run_command.specs.Form.{Text, Piece, Line, line_words, said, AreKnown, is_in, option_names, flag_names, given}
use Rattle.ocr_run_command.specs.Reader.{reader_app}
use Rattle.ocr_run_command.proofs.Rules.{finds, rules, shape, option_rule, flag_rule, number_rule}
use Rattle.ocr_run_command.proofs.Rows.{Seen, seen, same, equal, seen_with, unseen}
use Rattle.ocr_run_command.proofs.Pieces.{IsOnce, Holds, some_of, or_nil, nil_or}
use Rattle.ocr_run_command.proofs.Turns.{on}
use Rattle.ocr_run_command.proofs.Sound.{Passes, end_rows, sound}
use Rattle.ocr_run_command.proofs.Complete.{ArePlain, complete}

-- ---- defaults

-- what is seen of an id once a flag that was not used has its default
abbrev pub filled : Bool → Seen → Seen
filled b None = cond b (Some (codes "false" ∷ [], AsWritten)) None
filled b (Some p) = Some p

no_default : (rows : List Row) (a : Rule) → a.defaults ≡ [] → with_default rows a ≡ rows
no_default rows a none = ap (λ ds. cond (has_row a.id rows) rows (default_rows a.id (Rattle.clap.specs.Walk.reading_by a) ds rows)) none ∙ both (has_row a.id rows)
  where
    both : (b : Bool) → cond b rows rows ≡ rows
    both true = refl
    both false = refl

some_filled : (b : Bool) (x : Seen) → is_some x ≡ true → filled b x ≡ x
some_filled b None e = absurd (true≢false (sym e))
some_filled b (Some p) e = refl

pub filled_false : (x : Seen) → filled false x ≡ x
filled_false None = refl
filled_false (Some p) = refl

none_only : (x : Seen) → is_some x ≡ false → x ≡ None
none_only None e = refl
none_only (Some p) e = absurd (true≢false e)

flag_default : (id f : Text) (rows : List Row) → seen id (with_default rows (flag_rule f)) ≡ filled (bytes_eq f id) (seen id rows)
flag_default id f rows = by_row (has_row f rows) refl (bytes_eq f id) refl
  where
    added : List Row
    added = with_values f AsWritten DefaultValue (codes "false" ∷ []) rows

    by_row : (b : Bool) → has_row f rows ≡ b → (d : Bool) → bytes_eq f id ≡ d → seen id (with_default rows (flag_rule f)) ≡ filled (bytes_eq f id) (seen id rows)
    by_row true e true k =
        let there : is_some (seen id rows) ≡ true = sym (unseen id rows) ∙ ap (λ x. has_row x rows) (sym (same f id k)) ∙ e in
        ap (λ b. seen id (cond b rows added)) e ∙ sym (some_filled (bytes_eq f id) (seen id rows) there)
    by_row true e false k = ap (λ b. seen id (cond b rows added)) e ∙ sym (filled_false (seen id rows)) ∙ sym (ap (λ b. filled b (seen id rows)) k)
    by_row false e true k =
        let none_f : seen f rows ≡ None = none_only (seen f rows) (sym (unseen f rows) ∙ e) in
        let none_id : seen id rows ≡ None = ap (λ x. seen x rows) (sym (same f id k)) ∙ none_f in
        ap (λ b. seen id (cond b rows added)) e ∙ seen_with f id DefaultValue (codes "false" ∷ []) rows
        ∙ ap₂ (λ b x. cond b (Rattle.ocr_run_command.proofs.Rows.more (codes "false" ∷ []) x) (seen id rows)) k none_f
        ∙ sym (ap₂ (λ b x. filled b x) k none_id)
    by_row false e false k =
        ap (λ b. seen id (cond b rows added)) e ∙ seen_with f id DefaultValue (codes "false" ∷ []) rows
        ∙ ap (λ b. cond b (Rattle.ocr_run_command.proofs.Rows.more (codes "false" ∷ []) (seen f rows)) (seen id rows)) k
        ∙ sym (filled_false (seen id rows)) ∙ sym (ap (λ b. filled b (seen id rows)) k)

filled_twice : (a b : Bool) (x : Seen) → filled b (filled a x) ≡ filled (a || b) x
filled_twice true b None = refl
filled_twice false b None = refl
filled_twice a b (Some p) = refl

flag_defaults : (id : Text) (fs : List Text) (rows : List Row) → seen id (fold with_default rows (map flag_rule fs ++ number_rule ∷ [])) ≡ filled (is_in id fs) (seen id rows)
flag_defaults id [] rows = ap (seen id) (no_default rows number_rule refl) ∙ sym (filled_false (seen id rows))
flag_defaults id (f ∷ fs) rows =
    flag_defaults id fs (with_default rows (flag_rule f)) ∙ ap (filled (is_in id fs)) (flag_default id f rows) ∙ filled_twice (bytes_eq f id) (is_in id fs) (seen id rows)

option_defaults : (os : List Text) (rest : List Rule) (rows : List Row) → fold with_default rows (map option_rule os ++ rest) ≡ fold with_default rows rest
option_defaults [] rest rows = refl
option_defaults (o ∷ os) rest rows = option_defaults os rest (with_default rows (option_rule o)) ∙ ap (λ rs. fold with_default rs rest) (no_default rows (option_rule o) refl)

pub defaults : (id : Text) (rows : List Row) → seen id (fold with_default rows rules) ≡ filled (is_in id flag_names) (seen id rows)
defaults id rows = ap (seen id) (option_defaults option_names (map flag_rule flag_names ++ number_rule ∷ []) rows) ∙ flag_defaults id flag_names rows

-- ---- faults after the walk

abbrev AllFine : List Rule → Type 0
AllFine [] = Unit {0}
AllFine (a ∷ xs) = (given_default_fault a a.defaults ≡ []) × AllFine xs

fine : (rows : List Row) (xs : List Rule) → AllFine xs → defaults_fault rows xs ≡ []
unfolding defaults_fault
fine rows [] h = refl
fine rows (a ∷ xs) h = nil_or _ _ (go (has_row a.id rows || Rattle.clap.specs.Walk.is_empty a.defaults)) (fine (with_default rows a) xs h.1)
  where
    go : (b : Bool) → cond b [] (given_default_fault a a.defaults) ≡ []
    go true = refl
    go false = h.0

all_fine : AllFine rules
all_fine = (refl, (refl, (refl, (refl, (refl, (refl, (refl, (refl, (refl, (refl, (refl, tt)))))))))))

abbrev last_fault : List Text → Kinds
last_fault ws =
    let end = (walk rules [] nothing_held ws).held in
    or_else (walk_fault (shape rules) [] (on idle nothing_held false) ws)
    (or_else (settle_fault rules false end) (or_else (defaults_fault (settled rules end).rows rules) []))

faults_are : (words : List Text) → fault_of reader_app words ≡ last_fault (drop 1 words)
faults_are words = leaf_fault (built reader_app) nothing_held (drop 1 words) refl

pub passes_from : (words : List Text) → fault_of reader_app words ≡ [] → Passes rules (on idle nothing_held false) (drop 1 words)
passes_from words e =
    let parts = or_nil (walk_fault (shape rules) [] (on idle nothing_held false) (drop 1 words)) _ (sym (faults_are words) ∙ e) in
    record { walks = parts.0; ends = (or_nil (settle_fault rules false (walk rules [] nothing_held (drop 1 words)).held) _ parts.1).0 }

pub passes_to : (words : List Text) → Passes rules (on idle nothing_held false) (drop 1 words) → fault_of reader_app words ≡ []
passes_to words p =
    let end = (walk rules [] nothing_held (drop 1 words)).held in
    faults_are words ∙ nil_or _ _ p.walks (nil_or _ _ p.ends (nil_or _ _ (fine (settled rules end).rows rules all_fine) refl))

-- ---- the matches

pub matches_are : (words : List Text) → matches_of reader_app words ≡ fold with_default (end_rows rules (on idle nothing_held false) (drop 1 words)) rules
matches_are words = refl

-- the rows of matches are those of the pieces
abbrev pub Shows : List Row → List Piece → Type 0
Shows rows ps = (id : Text) → seen id rows ≡ filled (is_in id flag_names) (some_of (given id ps))

shows : (words : List Text) (ps : List Piece) → Holds (end_rows rules (on idle nothing_held false) (drop 1 words)) ps → Shows (matches_of reader_app words) ps
shows words ps h id = defaults id (end_rows rules (on idle nothing_held false) (drop 1 words)) ∙ ap (filled (is_in id flag_names)) (h id)

nothing : Holds [] []
nothing id = refl

once_nothing : IsOnce []
once_nothing id e = omega Rattle.std.proofs.Common.arith

pub taken_is_line : (words : List Text) → fault_of reader_app words ≡ [] → (l : Line) × ((drop 1 words ≡ line_words l) × AreKnown l.pieces × IsOnce (said l) × Shows (matches_of reader_app words) (said l))
taken_is_line words e =
    let told = sound rules finds false [] None (drop 1 words) (passes_from words e) in
    let held = told.carries.holds [] nothing once_nothing in
    (told.line, (told.spelled, told.known, held.1, shows words (said told.line) held.0))

pub line_is_taken : (words : List Text) (l : Line) → drop 1 words ≡ line_words l → AreKnown l.pieces → IsOnce (said l) → ArePlain l.pieces
    → (fault_of reader_app words ≡ []) × Shows (matches_of reader_app words) (said l)
line_is_taken words l spelled known once plain =
    let taken = complete rules finds l.pieces l.tail [] false nothing_held (refl, nothing) once known plain in
    let passes = subst (λ ws. Passes rules (on idle nothing_held false) ws) (sym spelled) taken.passes in
    let holds = subst (λ ws. Holds (end_rows rules (on idle nothing_held false) ws) (said l)) (sym spelled) taken.holds in
    (passes_to words passes, shows words (said l) holds)
