-- What is given, as the code keeps it, and what clap found.
use Rattle.std.specs.Prelude.{◌≡◌, true, List, [], ◌∷◌, Option, Some, None, map, option_map, codes}
use Rattle.std.specs.Prelude.{if◌then◌else◌}
use Rattle.clap.specs.Matches.{first_value, matched_of, one_text, raw_values}
use Rattle.clap.specs.declared.parser.matches.Found.{Found}
use Rattle.ocr_run_command.specs.Form.{Line, Piece, Text, flag_names, given, is_in, numbers}
use Rattle.ocr_run_command.specs.Form.{option_names, said}
use Rattle.ocr_run_command.specs.Wanted.{is_given, option_in, reports_in}
use Rattle.ocr_run_command.specs.declared.given.Arguments.{Arguments}

-- what the code keeps is what these pieces give
pub record Gives (g : Arguments) (ps : List Piece) : Type 0 where
  pub workers : option_map (λ s. s.now) g.workers ≡ option_in (codes "workers") ps
  pub objects : option_map (λ s. s.now) g.objects ≡ option_in (codes "objects") ps
  pub events : option_map (λ s. s.now) g.events ≡ option_in (codes "events") ps
  pub reports : g.reports ≡ reports_in ps
  pub numbers_are : map (λ s. s.now) g.numbers.items ≡ given numbers ps

abbrev pub some_texts : List Text → Option (List Text)
some_texts [] = None
some_texts (t ∷ ts) = Some (t ∷ ts)

abbrev pub flag_text : Text → Line → Text
flag_text name l = if is_given name (said l) then codes "true" else codes "false"

-- what clap found is what the line gives
pub record Reads (f : Found) (l : Line) : Type 0 where
  pub option : (name : Text) → is_in name option_names ≡ true
      → first_value f name ≡ option_in name (said l)
  pub flag : (name : Text) → is_in name flag_names ≡ true
      → one_text f name ≡ Some (flag_text name l)
  pub numbers_are :
      option_map raw_values (matched_of f numbers) ≡ some_texts (given numbers (said l))
