-- What the words ask for.
use Rattle.std.specs.Prelude.{nat_lt, ◌≡◌, ◌⊎◌, ◌≤◌, ◌<◌, ◌*◌, ◌^◌, ℕ, Bool, true, List, [], ◌∷◌, length, map}
use Rattle.std.specs.Prelude.{codes, Option, Some, None, slice_get}
use Rattle.std.specs.List.{All}
use Rattle.std.specs.Str.Parse.{IsNumeral, digits_value}
use Rattle.ocr_run_command.specs.Form.{IsLineOf, Line, Piece, Text, given, numbers, said}
use Rattle.ocr_run_command.specs.declared.wanted.Options.{Options}
use Rattle.ocr_run_command.specs.declared.wanted.Reports.{Reports}
use Rattle.ocr_run_command.specs.declared.wanted.Wanted.{Wanted}
use Rattle.ocr_run_command.specs.declared.wanted.Wanted.TheVariants as a

-- ---- numbers

-- 1 to 20 digits of a value that fits 64 bits
pub record IsNumber (t : Text) : Type 0 where
  pub digits : IsNumeral 10 t
  pub short : length t ≤ 20
  pub fits : digits_value 10 t < 2 ^ 64

abbrev pub value : Text → ℕ
value t = digits_value 10 t

abbrev pub AreNumbers : List Text → Type 0
AreNumbers ts = All IsNumber ts

-- the text writes n, which is from the first bound to the second
pub record IsWithin (least most : ℕ) (t : Text) (n : ℕ) : Type 0 where
  pub is_number : IsNumber t
  pub is : n ≡ value t
  pub from : least ≤ n
  pub to : n ≤ most

-- n is the number within its bounds that is given, or this one where none is
abbrev pub IsOr : (default least most : ℕ) → Option Text → ℕ → Type 0
IsOr default least most None n = n ≡ default
IsOr default least most (Some t) n = IsWithin least most t n

-- ---- what the pieces give

-- the value of an option, where it is given
abbrev pub option_in : Text → List Piece → Option Text
option_in name ps = slice_get (given name ps) 0

abbrev pub is_given : Text → List Piece → Bool
is_given name ps = nat_lt 0 (length (given name ps))

abbrev pub reports_in : List Piece → Reports
reports_in ps = record {
  summary = is_given (codes "summary") ps;
  left = is_given (codes "left") ps;
  stale = is_given (codes "stale") ps;
  refused = is_given (codes "refused") ps;
  races = is_given (codes "races") ps;
  blocks = is_given (codes "blocks") ps;
  journal = is_given (codes "journal") ps;
}

-- ---- the commands

-- the first word is a command
abbrev pub NamesCommand : List Text → Type 0
NamesCommand [] = ⊥
NamesCommand (command ∷ words) =
    (command ≡ codes "run") ⊎ (command ≡ codes "check") ⊎ (command ≡ codes "load")

-- these are so many workers
abbrev pub AreWorkers : List Piece → ℕ → Type 0
AreWorkers ps n = IsOr 4 1 64 (option_in (codes "workers") ps) n

-- the options of `run`
pub record IsRunOptions (ps : List Piece) (options : Options) : Type 0 where
  pub workers : AreWorkers ps options.workers
  pub objects : IsOr 4096 2 65536 (option_in (codes "objects") ps) options.objects
  pub events : IsOr 200000 1 16000000 (option_in (codes "events") ps) options.events
  pub share : options.workers * options.events ≤ 16000000
  pub reports : options.reports ≡ reports_in ps

-- `run`
pub record IsRun (ps : List Piece) (options : Options) (args : List ℕ) : Type 0 where
  pub options_are : IsRunOptions ps options
  pub numbers_are : AreNumbers (given numbers ps)
  pub args_are : args ≡ map value (given numbers ps)
  pub few : length args ≤ 32

-- `load`; the summary is always among its reports
pub record IsLoad (ps : List Piece) (number : ℕ) (options : Options) : Type 0 where
  pub text : Text
  pub one : given numbers ps ≡ text ∷ []
  pub number_is : IsWithin 1 500 text number
  pub workers : AreWorkers ps options.workers
  pub no_objects : option_in (codes "objects") ps ≡ None
  pub objects : options.objects ≡ 65536
  pub no_events : option_in (codes "events") ps ≡ None
  pub events : options.events ≡ 200000
  pub reports : options.reports ≡ record (reports_in ps) { summary = true }

-- the pieces after this command ask for w; nothing stands after `check`
abbrev pub Asks : Text → List Piece → Wanted → Type 0
Asks command ps (a.Run options args) = (command ≡ codes "run") × IsRun ps options args
Asks command ps a.Check = (command ≡ codes "check") × (ps ≡ [])
Asks command ps (a.Load number options) = (command ≡ codes "load") × IsLoad ps number options

-- the words are in a form, and ask for w
abbrev pub IsAsked : List Text → Wanted → Type 0
IsAsked [] w = ⊥
IsAsked (command ∷ words) w = (l : Line) × IsLineOf l words × Asks command (said l) w

-- words ask for one thing
abbrev pub AskedLaw : Type 0
AskedLaw = (words : List Text) (wanted other : Wanted) → IsAsked words wanted
    → IsAsked words other → wanted ≡ other
