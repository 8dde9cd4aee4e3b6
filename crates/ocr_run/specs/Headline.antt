-- The headline: the bytes written are the output of the run's own journal, which is a run of the
-- machine on the program that was asked for.
use Rattle.std.specs.Prelude.{◌≡◌, ◌≢◌, ◌⊎◌, ◌<◌, ◌≤◌, ◌+◌, ◌↔◌, ◌==◌, ◌||◌, ℕ, Bool, List, [], length, take, Option, Some, None, codes}
use Rattle.std.specs.Io.KnownBytes.{Appends, Keeps}
use Rattle.ocr_io.specs.Source.{Took}
use Rattle.ocr_program_tree.specs.Tree.{FunctionTree}
use Rattle.ocr_machine_history.specs.declared.entry.Entry.{Entry}
use Rattle.ocr_machine_history.specs.History.{history_of}
use Rattle.ocr_machine_history.specs.Output.{ending_of}
use Rattle.ocr_run_command.specs.Wanted.{IsAsked}
use Rattle.ocr_run_command.specs.declared.wanted.Options.{Options}
use Rattle.ocr_run_command.specs.declared.wanted.Wanted.{Wanted}
use Rattle.ocr_run_command.specs.declared.wanted.Wanted.TheVariants as want
use Rattle.ocr_program_load.specs.LoadText.{load_text}
use Rattle.ocr_run_execution.specs.declared.text.TextFault.{TextFault}
use Rattle.ocr_run_execution.specs.Executed.{IsExecuted}
use Rattle.ocr_run_execution.specs.Lines.{ending_line, fault_line}
use Rattle.ocr_run_execution.specs.ProgramText.{IsProgramText, IsCanonicalOf, IsNoProgram, most_bytes}

-- the output of a run with this ending was written: whole, or a front of it where a write failed;
-- nothing for want of memory
pub data IsWritten (old new : Option (List ℕ)) (fault : Type 0) (text : List ℕ)
    (ending : ℕ) : ℕ → Type 0 where
  whole : ending ≢ 9 → Appends old new text → IsWritten old new fault text ending ending
  front : ending ≢ 9 → fault → (n : ℕ) → n < length text → Appends old new (take n text)
      → IsWritten old new fault text ending 8
  nothing : ending ≡ 9 → Keeps old new → IsWritten old new fault text ending 9

-- where the source tells its bytes, these are all of them, and none is left
abbrev pub IsAllOf : Option (List ℕ) → Option (List ℕ) → List ℕ → Type 0
IsAllOf None now bytes = Unit {0}
IsAllOf (Some told) now bytes = (bytes ≡ told) × (now ≡ Some [])

-- the run of a program was written
pub record IsAnswered (options : Options) (args bytes : List ℕ) (out_old out_new : Option (List ℕ))
    (fault : Type 0) (status : ℕ) (journal : List Entry) : Type 0 where
  pub text : List ℕ
  pub ending : ℕ
  pub executed : IsExecuted options args bytes journal text ending
  pub written : IsWritten out_old out_new fault text ending status

-- THE HEADLINE: the words ask for a run, of the program that all bytes of the source are, or of the
-- one that `load` has for a number; and this is it
pub data IsHeadline (words : List (List ℕ)) (left_old left_new out_old out_new : Option (List ℕ))
    (fault : Type 0) (status : ℕ) (journal : List Entry) : Type 0 where
  of_source : (options : Options) (args bytes : List ℕ) → IsAsked words (want.Run options args)
      → IsAllOf left_old left_new bytes
      → IsAnswered options args bytes out_old out_new fault status journal
      → IsHeadline words left_old left_new out_old out_new fault status journal
  of_number : (number : ℕ) (options : Options) → IsAsked words (want.Load number options)
      → IsAnswered options [] (load_text number) out_old out_new fault status journal
      → IsHeadline words left_old left_new out_old out_new fault status journal

-- the canonical text of these bytes was written
pub record IsCopied (bytes : List ℕ) (out_old out_new : Option (List ℕ)) (fault : Type 0)
    (status : ℕ) : Type 0 where
  pub text : List ℕ
  pub canonical : IsCanonicalOf bytes text
  pub written : IsWritten out_old out_new fault text 0 status

-- all bytes of the source were read, and their canonical text was written
pub record IsCheckedText (left_old left_new out_old out_new : Option (List ℕ)) (fault : Type 0)
    (status : ℕ) : Type 0 where
  pub bytes : List ℕ
  pub read : IsAllOf left_old left_new bytes
  pub copied : IsCopied bytes out_old out_new fault status

-- the run whose journal is given came to this status
abbrev pub CameTo : Option (List Entry) → ℕ → Type 0
CameTo None n = ⊥
CameTo (Some journal) n = ending_of (history_of journal) ≡ n

-- the status is this exactly where the run came to it and no write failed
abbrev pub IsStatusOf : Option (List Entry) → ℕ → ℕ → Type 0
IsStatusOf journal status n = (status ≡ n) ↔ (CameTo journal n × (status ≢ 8))

-- these words are in no form
abbrev pub AreRefused : List (List ℕ) → Type 0
AreRefused words = (wanted : Wanted) → IsAsked words wanted → ⊥

-- a check is wanted
abbrev pub IsCheck : Wanted → Type 0
IsCheck want.Check = Unit {0}
IsCheck other = ⊥

-- there is a program: the source tells bytes that are one, or `load` has it
abbrev pub HasProgram : Wanted → Option (List ℕ) → Type 0
HasProgram (want.Load number options) left = Unit {0}
HasProgram other None = ⊥
HasProgram other (Some bytes) = (program : List FunctionTree) × IsProgramText bytes program

-- there is none: the source tells bytes that are refused, as too many or as no program
abbrev pub HasNoProgram : Wanted → Option (List ℕ) → Type 0
HasNoProgram (want.Load number options) left = ⊥
HasNoProgram other None = ⊥
HasNoProgram other (Some bytes) =
    (most_bytes < length bytes) ⊎ ((found : TextFault) × IsNoProgram bytes found)

-- what is wanted came to its end with this status
abbrev pub IsComplete : Wanted → Option (List Entry) → ℕ → Type 0
IsComplete want.Check journal status = status ≡ 0
IsComplete other journal status = CameTo journal status

-- the statuses of runs come exactly from their ends: quiet or a shutdown, quiet with EDTs left, an
-- abort, a fault in a body, a limit
pub record IsCaused (is_check : Type 0) (journal : Option (List Entry)) (status : ℕ) : Type 0 where
  pub ended : (is_check → ⊥) → IsStatusOf journal status 0
  pub stuck : IsStatusOf journal status 4
  pub aborted : IsStatusOf journal status 5
  pub faulted : IsStatusOf journal status 6
  pub limited : IsStatusOf journal status 10

-- more bytes were read than a program has
abbrev pub IsTooBig : Option (List ℕ) → Option (List ℕ) → ℕ → ℕ → Type 0
IsTooBig left_old left_new given_old given_new =
    Took left_old left_new given_old given_new (most_bytes + 1)

-- all bytes were read, they are not too many, and this is the first thing that is wrong with them
pub record IsFirstFault (left_old left_new : Option (List ℕ)) (found : TextFault) : Type 0 where
  pub bytes : List ℕ
  pub read : IsAllOf left_old left_new bytes
  pub size : length bytes ≤ most_bytes
  pub no_program : IsNoProgram bytes found

-- the line that goes with a status
pub data IsLine (too_big : Type 0) (is_fault : TextFault → Type 0)
    (journal : Option (List Entry)) : ℕ → List ℕ → Type 0 where
  of_run : (entries : List Entry) (status : ℕ) → journal ≡ Some entries
      → ending_of (history_of entries) ≡ status
      → IsLine too_big is_fault journal status (ending_line (history_of entries))
  of_check : journal ≡ None → IsLine too_big is_fault journal 0 []
  words_refused : IsLine too_big is_fault journal 2 (codes "words refused\n")
  text_too_big : too_big → IsLine too_big is_fault journal 3 (codes "text too big\n")
  text_refused : (found : TextFault) → is_fault found
      → IsLine too_big is_fault journal 3 (fault_line found)
  read_fault : IsLine too_big is_fault journal 7 (codes "read fault\n")
  write_fault : IsLine too_big is_fault journal 8 (codes "write fault\n")
  want_of_memory : IsLine too_big is_fault journal 9 (codes "want of memory\n")

-- a line was written: whole, or a front of it where a write failed
pub record IsTold (old new : Option (List ℕ)) (fault : Type 0) (line : List ℕ) : Type 0 where
  pub told : List ℕ
  pub written : Appends old new told
  pub front : (told ≡ line) ⊎ (fault × ((n : ℕ) × (told ≡ take n line)))

-- the statuses
abbrev pub IsStatus : ℕ → Type 0
IsStatus n = (n ≡ 0) ⊎ ((2 ≤ n) × (n ≤ 10))

-- the statuses with which nothing is written
abbrev pub is_silent : ℕ → Bool
is_silent n = (n == 2) || ((n == 3) || ((n == 7) || (n == 9)))
