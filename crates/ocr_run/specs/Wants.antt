-- What is wanted, as the top call hands it on.
use Rattle.std.specs.Prelude.{◌≡◌, ◌≤◌, ℕ, List, [], Option, length}
use Rattle.ocr_program_load.specs.LoadText.{load_text}
use Rattle.ocr_machine_history.specs.declared.entry.Entry.{Entry}
use Rattle.ocr_run_command.specs.declared.wanted.Wanted.{Wanted}
use Rattle.ocr_run_command.specs.declared.wanted.Wanted.TheVariants as want
use Rattle.ocr_run_execution.specs.Executed.{AreWithin}
use Rattle.ocr_run.specs.Headline.{IsAllOf, IsAnswered}

-- what is wanted is within its bounds
abbrev pub IsServable : Wanted → Type 0
IsServable (want.Run options args) = (length args ≤ 32) × AreWithin options
IsServable want.Check = Unit {0}
IsServable (want.Load number options) = (number ≤ 500) × AreWithin options

-- the program of a number is wanted
abbrev pub IsLoad : Wanted → Type 0
IsLoad (want.Load number options) = Unit {0}
IsLoad other = ⊥

-- these are the bytes of the program that is wanted: all of the source, or the text of the number
abbrev pub IsTextFor : Wanted → Option (List ℕ) → Option (List ℕ) → List ℕ → Type 0
IsTextFor (want.Load number options) left_old left_new bytes = bytes ≡ load_text number
IsTextFor other left_old left_new bytes = IsAllOf left_old left_new bytes

-- the run that is wanted was written
abbrev pub IsAnsweredAs : Wanted → List ℕ → Option (List ℕ) → Option (List ℕ) → Type 0 → ℕ
    → List Entry → Type 0
IsAnsweredAs (want.Run options args) bytes old new fault status journal =
    IsAnswered options args bytes old new fault status journal
IsAnsweredAs want.Check bytes old new fault status journal = ⊥
IsAnsweredAs (want.Load number options) bytes old new fault status journal =
    IsAnswered options [] bytes old new fault status journal

-- its bytes were there, and it was written
pub record IsReadAs (wanted : Wanted) (left_old left_new old new : Option (List ℕ)) (fault : Type 0)
    (status : ℕ) (journal : List Entry) : Type 0 where
  pub bytes : List ℕ
  pub text : IsTextFor wanted left_old left_new bytes
  pub answered : IsAnsweredAs wanted bytes old new fault status journal
