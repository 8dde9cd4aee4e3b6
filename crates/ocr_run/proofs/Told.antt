-- Lines on `err`.
use Rattle.std.proofs.Common.{rules, arith, ◌∙◌, ap, ◌∷◌, Bool, true, false, ◌||◌, ◌==◌, ◌↔◌, ◌≡◌, ◌≢◌, ◌<◌, ◌≤◌, length, length-append, sym, subst, ◌⊎◌, inl, inr, ℕ, List, [], take, Option, Some, None, refl}
use Rattle.std.proofs.lemmas.Bool.{eqb-true, or_cases}
use Rattle.std.specs.Prelude.{IfSome, IfNone, IsSome, IsNone}
use Rattle.std.specs.Io.KnownBytes.{Appends, Keeps}
use Rattle.std.proofs.lemmas.Grind.{common_steps}
use Rattle.ocr_machine_history.specs.declared.entry.Entry.{Entry}
use Rattle.ocr_machine_history.specs.History.{history_of}
use Rattle.ocr_machine_history.specs.Output.{ending_of}
use Rattle.ocr_run_command.specs.Wanted.{IsAsked, IsOr}
use Rattle.ocr_run_command.specs.declared.wanted.Options.{Options}
use Rattle.ocr_run_command.specs.declared.wanted.Wanted.{Wanted}
use Rattle.ocr_run_command.specs.declared.wanted.Wanted.TheVariants as want
use Rattle.ocr_run_execution.specs.declared.text.TextFault.{TextFault}
use Rattle.ocr_run_execution.specs.Lines.{ending_line}
use Rattle.ocr_run_execution.specs.Ending.{IsMet, shut_down, stuck, aborted, faulted, out_of_memory, limited}
use Rattle.ocr_run.specs.Wants.{IsServable, IsLoad, IsTextFor, IsAnsweredAs, IsReadAs}
use Rattle.ocr_program_tree.specs.Tree.{FunctionTree}
use Rattle.ocr_program_load.specs.LoadText.{load_text}
use Rattle.ocr_run_execution.specs.ProgramText.{IsProgramText, IsNoProgram, most_bytes}
use Rattle.ocr_run_execution.proofs.Texts.{loaded_program, text_law}
use Rattle.ocr_run.specs.Headline.{IsHeadline, of_source, of_number, IsAnswered, IsCheck, HasProgram, HasNoProgram, IsFirstFault, IsTooBig, IsTold, IsStatus, IsStatusOf, IsCaused, IsWritten, whole, front, nothing, CameTo, is_silent, IsAllOf, IsLine, of_run, of_check, words_refused, text_too_big, text_refused, read_fault, write_fault, want_of_memory}

-- a line that was written whole, or a front of it
pub told_whole : (old new : Option (List ℕ)) (fault : Type 0) (line : List ℕ) → Appends old new line → IsTold old new fault line
told_whole old new fault line written = record { told = line; written = written; front = inl refl }

pub told_front : (old new : Option (List ℕ)) (fault : Type 0) (line : List ℕ) (n : ℕ) → Appends old new (take n line) → fault → IsTold old new fault line
told_front old new fault line n written rose = record { told = take n line; written = written; front = inr (rose, (n, refl)) }

pub told_nothing : (old : Option (List ℕ)) (fault : Type 0) → IsTold old old fault []
told_nothing None fault = record { told = []; written = tt; front = inl refl }
told_nothing (Some xs) fault = record { told = []; written = search (rules, common_steps); front = inl refl }

-- the line of a run that came to its end
pub run_line : (entries : List Entry) (journal : Option (List Entry)) (line : List ℕ) (status : ℕ) → journal ≡ Some entries → line ≡ ending_line (history_of entries)
    → ending_of (history_of entries) ≡ status → IsLine ⊥ (λ found. ⊥) journal status line
run_line entries journal line status given is came =
    subst (λ (l : List ℕ). IsLine ⊥ (λ found. ⊥) journal status l) (sym is) (of_run entries status given came)

-- a line under weaker causes
pub weaker_line : (A B : Type 0) (C D : TextFault → Type 0) (journal : Option (List Entry)) (status : ℕ) (line : List ℕ) → (A → B) → ((found : TextFault) → C found → D found)
    → IsLine A C journal status line → IsLine B D journal status line
weaker_line A B C D journal status line f h (of_run entries n given came) = of_run entries n given came
weaker_line A B C D journal status line f h (of_check none) = of_check none
weaker_line A B C D journal status line f h words_refused = words_refused
weaker_line A B C D journal status line f h (text_too_big a) = text_too_big (f a)
weaker_line A B C D journal status line f h (text_refused found c) = text_refused found (h found c)
weaker_line A B C D journal status line f h read_fault = read_fault
weaker_line A B C D journal status line f h write_fault = write_fault
weaker_line A B C D journal status line f h want_of_memory = want_of_memory

pub line_at : (A : Type 0) (B : TextFault → Type 0) (journal : Option (List Entry)) (n status : ℕ) (line : List ℕ) → status ≡ n → IsLine A B journal n line → IsLine A B journal status line
line_at A B journal n status line is known = subst (λ (m : ℕ). IsLine A B journal m line) (sym is) known

status_at : (n status : ℕ) → status ≡ n → 2 ≤ n → n ≤ 10 → IsStatus status
status_at n status is least most = inr (omega (arith, is, least), omega (arith, is, most))

-- the statuses of runs
pub met_status : (status : ℕ) → IsMet status → IsStatus status
met_status status shut_down = inl refl
met_status status stuck = inr (omega arith, omega arith)
met_status status aborted = inr (omega arith, omega arith)
met_status status faulted = inr (omega arith, omega arith)
met_status status out_of_memory = inr (omega arith, omega arith)
met_status status limited = inr (omega arith, omega arith)

silent_cases : (n : ℕ) → is_silent n ≡ true → (n ≡ 2) ⊎ ((n ≡ 3) ⊎ ((n ≡ 7) ⊎ (n ≡ 9)))
silent_cases n is = elim (or_cases (n == 2) ((n == 3) || ((n == 7) || (n == 9))) is) [
  | inl two ↦ inl (eqb-true n 2 two)
  | inr rest ↦ elim (or_cases (n == 3) ((n == 7) || (n == 9)) rest) [
    | inl three ↦ inr (inl (eqb-true n 3 three))
    | inr last ↦ elim (or_cases (n == 7) (n == 9) last) [
      | inl seven ↦ inr (inr (inl (eqb-true n 7 seven)))
      | inr nine ↦ inr (inr (inr (eqb-true n 9 nine)))
    ]
  ]
]

-- the statuses with which nothing is written
pub silent_status : (status : ℕ) → is_silent status ≡ true → IsStatus status
silent_status status is = elim (silent_cases status is) [
  | inl two ↦ status_at 2 status two (omega arith) (omega arith)
  | inr (inl three) ↦ status_at 3 status three (omega arith) (omega arith)
  | inr (inr (inl seven)) ↦ status_at 7 status seven (omega arith) (omega arith)
  | inr (inr (inr nine)) ↦ status_at 9 status nine (omega arith) (omega arith)
]

-- none of them is that of a run
not_silent : (n status : ℕ) → is_silent n ≡ false → is_silent status ≡ true → status ≡ n → ⊥
not_silent n status never is same = cc (never, is, ap is_silent same)

silent_of : (n status : ℕ) → is_silent n ≡ false → is_silent status ≡ true → IsStatusOf None status n
silent_of n status never is = (λ same. absurd (not_silent n status never is same), λ both. absurd both.0)

pub silent_caused : (journal : Option (List Entry)) (status : ℕ) → IsNone journal → is_silent status ≡ true → IsCaused ⊥ journal status
silent_caused None status none is = record { ended = λ no_check. silent_of 0 status refl is; stuck = silent_of 4 status refl is; aborted = silent_of 5 status refl is; faulted = silent_of 6 status refl is; limited = silent_of 10 status refl is }
silent_caused (Some entries) status none is = cc none

-- the status of a run that was written
written_of : (old new : Option (List ℕ)) (fault : Type 0) (text : List ℕ) (ending status n : ℕ) → n ≢ 8 → n ≢ 9 → IsWritten old new fault text ending status
    → (status ≡ n) ↔ ((ending ≡ n) × (status ≢ 8))
written_of old new fault text ending status n eight nine (whole other appends) = (λ is. (is, λ was. eight (sym is ∙ was)), λ both. both.0)
written_of old new fault text ending status n eight nine (front other failed m less appends) = (λ is. absurd (eight (sym is)), λ both. absurd (both.1 refl))
written_of old new fault text ending status n eight nine (nothing memory keeps) = (λ is. absurd (nine (sym is)), λ both. absurd (nine (sym both.0 ∙ memory)))

status_of_run : (journal : Option (List Entry)) (entries : List Entry) (old new : Option (List ℕ)) (fault : Type 0) (text : List ℕ) (ending status n : ℕ) → n ≢ 8 → n ≢ 9
    → journal ≡ Some entries → ending_of (history_of entries) ≡ ending → IsWritten old new fault text ending status → IsStatusOf journal status n
status_of_run journal entries old new fault text ending status n eight nine given came written =
    let both = written_of old new fault text ending status n eight nine written in (
      λ is. let found = both.0 is in (subst (λ (j : Option (List Entry)). CameTo j n) (sym given) (came ∙ found.0), found.1),
      λ known. both.1 (sym came ∙ subst (λ (j : Option (List Entry)). CameTo j n) given known.0, known.1),
    )

pub run_caused : (journal : Option (List Entry)) (entries : List Entry) (old new : Option (List ℕ)) (fault : Type 0) (text : List ℕ) (ending status : ℕ)
    → journal ≡ Some entries → ending_of (history_of entries) ≡ ending → IsWritten old new fault text ending status → IsCaused ⊥ journal status
run_caused journal entries old new fault text ending status given came written = record {
  ended = λ no_check. status_of_run journal entries old new fault text ending status 0 (λ is. omega (arith, is)) (λ is. omega (arith, is)) given came written;
  stuck = status_of_run journal entries old new fault text ending status 4 (λ is. omega (arith, is)) (λ is. omega (arith, is)) given came written;
  aborted = status_of_run journal entries old new fault text ending status 5 (λ is. omega (arith, is)) (λ is. omega (arith, is)) given came written;
  faulted = status_of_run journal entries old new fault text ending status 6 (λ is. omega (arith, is)) (λ is. omega (arith, is)) given came written;
  limited = status_of_run journal entries old new fault text ending status 10 (λ is. omega (arith, is)) (λ is. omega (arith, is)) given came written;
}

not_eight : (status : ℕ) → IsMet status → status ≡ 8 → ⊥
not_eight status shut_down is = omega (arith, is)
not_eight status stuck is = omega (arith, is)
not_eight status aborted is = omega (arith, is)
not_eight status faulted is = omega (arith, is)
not_eight status out_of_memory is = omega (arith, is)
not_eight status limited is = omega (arith, is)

-- the statuses of runs that were written
abbrev pub is_run_status : ℕ → Bool
is_run_status n = (n == 0) || ((n == 4) || ((n == 5) || ((n == 6) || ((n == 8) || ((n == 9) || (n == 10))))))

met_run : (status : ℕ) → IsMet status → is_run_status status ≡ true
met_run status shut_down = refl
met_run status stuck = refl
met_run status aborted = refl
met_run status faulted = refl
met_run status out_of_memory = refl
met_run status limited = refl

run_status : (old new : Option (List ℕ)) (fault : Type 0) (text : List ℕ) (ending status : ℕ) → IsMet ending → IsWritten old new fault text ending status → is_run_status status ≡ true
run_status old new fault text ending status met (whole other appends) = met_run ending met
run_status old new fault text ending status met (front other failed m less appends) = refl
run_status old new fault text ending status met (nothing memory keeps) = refl

pub ran_not : (old new : Option (List ℕ)) (fault : Type 0) (text : List ℕ) (ending status n : ℕ) → IsMet ending → IsWritten old new fault text ending status
    → is_run_status n ≡ false → status ≡ n → ⊥
ran_not old new fault text ending status n met written never is = cc (run_status old new fault text ending status met written, never, ap is_run_status is)

-- a run with status 8 had a write that failed, and one with status 9 wrote nothing
pub run_failed : (old new : Option (List ℕ)) (fault : Type 0) (text : List ℕ) (ending status : ℕ) → IsMet ending → IsWritten old new fault text ending status → status ≡ 8 → fault
run_failed old new fault text ending status met (whole other appends) is = absurd (not_eight ending met is)
run_failed old new fault text ending status met (front other failed m less appends) is = failed
run_failed old new fault text ending status met (nothing memory keeps) is = absurd (omega (arith, is))

pub run_keeps : (old new : Option (List ℕ)) (fault : Type 0) (text : List ℕ) (ending status : ℕ) → IsWritten old new fault text ending status → status ≡ 9 → Keeps old new
run_keeps old new fault text ending status (whole other appends) is = absurd (other is)
run_keeps old new fault text ending status (front other failed m less appends) is = absurd (omega (arith, is))
run_keeps old new fault text ending status (nothing memory keeps) is = keeps

-- where no write failed, the status is that of the run
pub run_complete : (journal : Option (List Entry)) (entries : List Entry) (old new : Option (List ℕ)) (fault : Type 0) (text : List ℕ) (ending status : ℕ)
    → journal ≡ Some entries → ending_of (history_of entries) ≡ ending → IsWritten old new fault text ending status → (fault → ⊥) → (status ≡ 9) ⊎ CameTo journal status
run_complete journal entries old new fault text ending status given came (whole other appends) sound = inr (subst (λ (j : Option (List Entry)). CameTo j status) (sym given) came)
run_complete journal entries old new fault text ending status given came (front other failed m less appends) sound = absurd (sound failed)
run_complete journal entries old new fault text ending status given came (nothing memory keeps) sound = inl refl

-- all bytes of a source
pub all_of : (old now : Option (List ℕ)) (bytes : List ℕ) → IfSome old (λ told. bytes ≡ told) → IfSome old (λ told. now ≡ Some []) → IsAllOf old now bytes
all_of None now bytes all end = tt
all_of (Some told) now bytes all end = (all, end)

-- the bytes that a source told
pub told_bytes : (old : Option (List ℕ)) (bytes read : List ℕ) → old ≡ Some bytes → IfSome old (λ told. read ≡ told) → read ≡ bytes
told_bytes None bytes read is all = cc is
told_bytes (Some told) bytes read is all = cc (all, is)

-- A CHECK
checked_not : (status n : ℕ) → (n ≡ 4) ⊎ ((n ≡ 5) ⊎ ((n ≡ 6) ⊎ (n ≡ 10))) → (status ≡ 0) ⊎ ((status ≡ 3) ⊎ ((status ≡ 8) ⊎ (status ≡ 9))) → status ≡ n → ⊥
checked_not status n never is same = omega (arith, never, is, same)

checked_of : (status n : ℕ) → (n ≡ 4) ⊎ ((n ≡ 5) ⊎ ((n ≡ 6) ⊎ (n ≡ 10))) → (status ≡ 0) ⊎ ((status ≡ 3) ⊎ ((status ≡ 8) ⊎ (status ≡ 9))) → IsStatusOf None status n
checked_of status n never is = (λ same. absurd (checked_not status n never is same), λ both. absurd both.0)

pub checked_caused : (check : Type 0) (journal : Option (List Entry)) (status : ℕ) → check → IsNone journal → (status ≡ 0) ⊎ ((status ≡ 3) ⊎ ((status ≡ 8) ⊎ (status ≡ 9))) → IsCaused check journal status
checked_caused check None status one none is = record {
  ended = λ no_check. absurd (no_check one);
  stuck = checked_of status 4 (inl refl) is;
  aborted = checked_of status 5 (inr (inl refl)) is;
  faulted = checked_of status 6 (inr (inr (inl refl))) is;
  limited = checked_of status 10 (inr (inr (inr refl))) is;
}
checked_caused check (Some entries) status one none is = cc none

pub checked_status : (status : ℕ) → (status ≡ 0) ⊎ ((status ≡ 3) ⊎ ((status ≡ 8) ⊎ (status ≡ 9))) → IsStatus status
checked_status status (inl is) = inl is
checked_status status (inr (inl is)) = status_at 3 status is (omega arith) (omega arith)
checked_status status (inr (inr (inl is))) = status_at 8 status is (omega arith) (omega arith)
checked_status status (inr (inr (inr is))) = status_at 9 status is (omega arith) (omega arith)

-- THE WORDS
is_within : (default least most : ℕ) (o : Option (List ℕ)) (n : ℕ) → least ≤ default → default ≤ most → IsOr default least most o n → (least ≤ n) × (n ≤ most)
is_within default least most None n from to is = (omega (arith, is, from), omega (arith, is, to))
is_within default least most (Some t) n from to is = (is.from, is.to)

pub servable : (words : List (List ℕ)) (wanted : Wanted) → IsAsked words wanted → IsServable wanted
servable [] wanted asked = absurd asked
servable (command ∷ rest) (want.Run options args) (line, of, (is, run)) =
    let o = run.options_are in (
      run.few,
      record {
        workers = is_within 4 1 64 _ options.workers (omega arith) (omega arith) o.workers;
        objects = is_within 4096 2 65536 _ options.objects (omega arith) (omega arith) o.objects;
        events = is_within 200000 1 16000000 _ options.events (omega arith) (omega arith) o.events;
      },
    )
servable (command ∷ rest) want.Check asked = tt
servable (command ∷ rest) (want.Load number options) (line, of, (is, load)) = (
  load.number_is.to,
  record {
    workers = is_within 4 1 64 _ options.workers (omega arith) (omega arith) load.workers;
    objects = (omega (arith, load.objects), omega (arith, load.objects));
    events = (omega (arith, load.events), omega (arith, load.events));
  },
)

pub headline_of : (words : List (List ℕ)) (wanted : Wanted) (left_old left_new old new : Option (List ℕ)) (fault : Type 0) (status : ℕ) (journal : Option (List Entry)) → IsAsked words wanted
    → IfSome journal (IsReadAs wanted left_old left_new old new fault status) → IfSome journal (IsHeadline words left_old left_new old new fault status)
headline_of words wanted left_old left_new old new fault status None asked run = tt
headline_of words (want.Run options args) left_old left_new old new fault status (Some entries) asked run = of_source options args run.bytes asked run.text run.answered
headline_of words want.Check left_old left_new old new fault status (Some entries) asked run = absurd run.answered
headline_of words (want.Load number options) left_old left_new old new fault status (Some entries) asked run =
    of_number number options asked (subst (λ (bytes : List ℕ). IsAnswered options [] bytes old new fault status entries) run.text run.answered)

pub read_as : (wanted : Wanted) (bytes : List ℕ) (left_old left_new old new : Option (List ℕ)) (fault : Type 0) (status : ℕ) (journal : Option (List Entry)) → IsTextFor wanted left_old left_new bytes
    → IfSome journal (IsAnsweredAs wanted bytes old new fault status) → IfSome journal (IsReadAs wanted left_old left_new old new fault status)
read_as wanted bytes left_old left_new old new fault status None text run = tt
read_as wanted bytes left_old left_new old new fault status (Some entries) text run = record { bytes = bytes; text = text; answered = run }

-- THE BYTES OF THE PROGRAM
-- a check reads them
pub checked_text : (wanted : Wanted) (left_old left_new : Option (List ℕ)) (bytes : List ℕ) → IsCheck wanted → IsTextFor wanted left_old left_new bytes → IsAllOf left_old left_new bytes
checked_text (want.Run options args) left_old left_new bytes check text = absurd check
checked_text want.Check left_old left_new bytes check text = text
checked_text (want.Load number options) left_old left_new bytes check text = absurd check

-- the text of a number is a program
loaded : (number : ℕ) → number ≤ 500 → (program : List FunctionTree) × IsProgramText (load_text number) program
loaded number few = loaded_program number (omega (arith, few))

-- there are such bytes
pub program_for : (wanted : Wanted) (left_old left_new : Option (List ℕ)) (bytes : List ℕ) → IsServable wanted → IsTextFor wanted left_old left_new bytes → HasProgram wanted left_old
    → (program : List FunctionTree) × IsProgramText bytes program
program_for (want.Run options args) None left_new bytes bounds text has = absurd has
program_for (want.Run options args) (Some told) left_new bytes bounds text has = (has.0, subst (λ (b : List ℕ). IsProgramText b has.0) (sym text.0) has.1)
program_for want.Check None left_new bytes bounds text has = absurd has
program_for want.Check (Some told) left_new bytes bounds text has = (has.0, subst (λ (b : List ℕ). IsProgramText b has.0) (sym text.0) has.1)
program_for (want.Load number options) left_old left_new bytes bounds text has =
    let program = loaded number bounds.0 in (program.0, subst (λ (b : List ℕ). IsProgramText b program.0) (sym text) program.1)

none_of : (bytes told : List ℕ) → bytes ≡ told → length bytes ≤ most_bytes → (most_bytes < length told) ⊎ ((found : TextFault) × IsNoProgram told found) → (found : TextFault) × IsNoProgram bytes found
none_of bytes told is short (inl long) = absurd (omega (arith, ap length is, short, long))
none_of bytes told is short (inr none) = (none.0, subst (λ (b : List ℕ). IsNoProgram b none.0) (sym is) none.1)

-- there are none
pub no_program_for : (wanted : Wanted) (left_old left_new : Option (List ℕ)) (bytes : List ℕ) → IsTextFor wanted left_old left_new bytes → length bytes ≤ most_bytes → HasNoProgram wanted left_old
    → (found : TextFault) × IsNoProgram bytes found
no_program_for (want.Run options args) None left_new bytes text short has = absurd has
no_program_for (want.Run options args) (Some told) left_new bytes text short has = none_of bytes told text.0 short has
no_program_for want.Check None left_new bytes text short has = absurd has
no_program_for want.Check (Some told) left_new bytes text short has = none_of bytes told text.0 short has
no_program_for (want.Load number options) left_old left_new bytes text short has = absurd has

-- bytes that are no program are those of the source
pub first_fault : (wanted : Wanted) (left_old left_new : Option (List ℕ)) (bytes : List ℕ) (found : TextFault) → IsServable wanted → IsTextFor wanted left_old left_new bytes → length bytes ≤ most_bytes
    → IsNoProgram bytes found → IsFirstFault left_old left_new found
first_fault (want.Run options args) left_old left_new bytes found bounds text short none = record { bytes = bytes; read = text; size = short; no_program = none }
first_fault want.Check left_old left_new bytes found bounds text short none = record { bytes = bytes; read = text; size = short; no_program = none }
first_fault (want.Load number options) left_old left_new bytes found bounds text short none =
    let program = program_for (want.Load number options) left_old left_new bytes bounds text tt in absurd (text_law.apart bytes program.0 found program.1 none)

-- the text of a number is no bytes that are no program
pub loaded_none : (wanted : Wanted) (left_old left_new : Option (List ℕ)) (bytes : List ℕ) (found : TextFault) → IsLoad wanted → IsServable wanted → IsTextFor wanted left_old left_new bytes
    → IsNoProgram bytes found → ⊥
loaded_none (want.Run options args) left_old left_new bytes found load bounds text none = load
loaded_none want.Check left_old left_new bytes found load bounds text none = load
loaded_none (want.Load number options) left_old left_new bytes found load bounds text none =
    let program = program_for (want.Load number options) left_old left_new bytes bounds text tt in text_law.apart bytes program.0 found program.1 none

-- a source with more bytes than a program has
too_long : (told : List ℕ) (left_new : Option (List ℕ)) (given_old given_new : ℕ) → IsTooBig (Some told) left_new given_old given_new → most_bytes < length told
too_long told None given_old given_new big = absurd big.front
too_long told (Some rest) given_old given_new big = omega (arith, big.count, ap length big.front, length-append big.bytes rest)

pub too_big_none : (wanted : Wanted) (left_old left_new : Option (List ℕ)) (given_old given_new : ℕ) → (IsLoad wanted → ⊥) → HasProgram wanted left_old → IsTooBig left_old left_new given_old given_new → ⊥
too_big_none (want.Run options args) None left_new given_old given_new unloaded has big = has
too_big_none (want.Run options args) (Some told) left_new given_old given_new unloaded has big = omega (arith, has.1.size, too_long told left_new given_old given_new big)
too_big_none want.Check None left_new given_old given_new unloaded has big = has
too_big_none want.Check (Some told) left_new given_old given_new unloaded has big = omega (arith, has.1.size, too_long told left_new given_old given_new big)
too_big_none (want.Load number options) left_old left_new given_old given_new unloaded has big = unloaded tt

-- a check is wanted where the words ask for one
pub check_of : (words : List (List ℕ)) (wanted : Wanted) → ((other : Wanted) → IsAsked words other → other ≡ wanted) → IsAsked words want.Check → IsCheck wanted
check_of words wanted only asked = subst IsCheck (only want.Check asked) tt

pub asked_of : (words : List (List ℕ)) (wanted : Wanted) → IsAsked words wanted → IsCheck wanted → IsAsked words want.Check
asked_of words (want.Run options args) asked check = absurd check
asked_of words want.Check asked check = asked
asked_of words (want.Load number options) asked check = absurd check

pub caused_as : (A B : Type 0) (journal : Option (List Entry)) (status : ℕ) → (A → B) → IsCaused A journal status → IsCaused B journal status
caused_as A B journal status f is = record { ended = λ no. is.ended (λ a. no (f a)); stuck = is.stuck; aborted = is.aborted; faulted = is.faulted; limited = is.limited }

pub weaker_caused : (B : Type 0) (journal : Option (List Entry)) (status : ℕ) → IsCaused ⊥ journal status → IsCaused B journal status
weaker_caused B journal status is = caused_as ⊥ B journal status (λ a. absurd a) is

none_keeps : (journal : Option (List Entry)) (A K : Type 0) → IsNone journal → IfNone journal (A × K) → K
none_keeps None A K none both = both.1
none_keeps (Some entries) A K none both = cc none

zero_silent : (status : ℕ) → status ≡ 0 → is_silent status ≡ true → ⊥
zero_silent status zero is = not_silent 0 status refl is zero

eight_silent : (status : ℕ) → status ≡ 8 → is_silent status ≡ true → ⊥
eight_silent status eight is = not_silent 8 status refl is eight

loud : (status : ℕ) → (status ≡ 0) ⊎ ((status ≡ 4) ⊎ ((status ≡ 5) ⊎ ((status ≡ 6) ⊎ ((status ≡ 8) ⊎ (status ≡ 10))))) → is_silent status ≡ true → ⊥
loud status (inl is) silent = not_silent 0 status refl silent is
loud status (inr (inl is)) silent = not_silent 4 status refl silent is
loud status (inr (inr (inl is))) silent = not_silent 5 status refl silent is
loud status (inr (inr (inr (inl is)))) silent = not_silent 6 status refl silent is
loud status (inr (inr (inr (inr (inl is))))) silent = not_silent 8 status refl silent is
loud status (inr (inr (inr (inr (inr is))))) silent = not_silent 10 status refl silent is

-- where no journal is given
pub none_first : (journal : Option (List Entry)) (A B : Type 0) → IfNone journal (A × B) → IfNone journal A
none_first None A B both = both.0
none_first (Some entries) A B both = tt

pub none_silent : (journal : Option (List Entry)) (status : ℕ) → IfNone journal ((status ≡ 3) ⊎ (status ≡ 9)) → IfNone journal (is_silent status ≡ true)
none_silent None status (inl is) = ap is_silent is
none_silent None status (inr is) = ap is_silent is
none_silent (Some entries) status is = tt

pub none_at : (journal : Option (List Entry)) (n status : ℕ) → status ≡ n → is_silent n ≡ true → IfNone journal (is_silent status ≡ true)
none_at None n status is silent = ap is_silent is ∙ silent
none_at (Some entries) n status is silent = tt

-- what is silent writes nothing
pub run_silent : (journal : Option (List Entry)) (status : ℕ) (A B K : Type 0) → (status ≢ 2) × (status ≢ 7) → IfNone journal (A × K) → (status ≡ 9 → K) → (status ≡ 3 → IsNone journal × B)
    → is_silent status ≡ true → K
run_silent journal status A B K other none memory faulty is = elim (silent_cases status is) [
  | inl two ↦ absurd (other.0 two)
  | inr (inl three) ↦ none_keeps journal A K (faulty three).0 none
  | inr (inr (inl seven)) ↦ absurd (other.1 seven)
  | inr (inr (inr nine)) ↦ memory nine
]

pub checked_silent : (status : ℕ) (K : Type 0) → (status ≡ 0) ⊎ ((status ≡ 3) ⊎ ((status ≡ 8) ⊎ (status ≡ 9))) → ((status ≡ 3) ⊎ (status ≡ 9) → K) → is_silent status ≡ true → K
checked_silent status K (inl zero) keeps is = absurd (zero_silent status zero is)
checked_silent status K (inr (inl three)) keeps is = keeps (inl three)
checked_silent status K (inr (inr (inl eight))) keeps is = absurd (eight_silent status eight is)
checked_silent status K (inr (inr (inr nine))) keeps is = keeps (inr nine)

-- a run that wrote gives its journal
pub given_of : (words : List (List ℕ)) (wanted : Wanted) (journal : Option (List Entry)) (status : ℕ) → IsAsked words wanted → ((IsCheck wanted → ⊥) → IfNone journal (is_silent status ≡ true))
    → (status ≡ 0) ⊎ ((status ≡ 4) ⊎ ((status ≡ 5) ⊎ ((status ≡ 6) ⊎ ((status ≡ 8) ⊎ (status ≡ 10))))) → IsSome journal ⊎ IsAsked words want.Check
given_of words wanted (Some entries) status asked none is = inl refl
given_of words want.Check None status asked none is = inr asked
given_of words (want.Run options args) None status asked none is = absurd (loud status is (none (λ a. a)))
given_of words (want.Load number options) None status asked none is = absurd (loud status is (none (λ a. a)))

-- the text of a number is the text for it
pub text_of_load : (wanted : Wanted) (number : ℕ) (options : Options) (left_old left_new : Option (List ℕ)) (bytes : List ℕ) → wanted ≡ want.Load number options → bytes ≡ load_text number → IsTextFor wanted left_old left_new bytes
text_of_load wanted number options left_old left_new bytes is text = subst (λ (w : Wanted). IsTextFor w left_old left_new bytes) (sym is) text
