-- The arguments that the reader takes, as clap names them.
use Rattle.std.specs.Prelude.{List, [], ◌∷◌, ◌++◌, map, Some, codes, true}
use Rattle.clap.specs.Walk.{Rule}
use Rattle.clap.specs.Simple.{App, new_app, new_rule, on_top}
use Rattle.clap.specs.declared.builder.action.ArgAction.TheVariants.{Set, SetTrue, Append}
use Rattle.ocr_run_command.specs.Form.{Text, option_names, flag_names}

abbrev pub option_arg : Text → Rule
option_arg name = record (new_rule name) { long = Some name; action = Some Set }

abbrev pub flag_arg : Text → Rule
flag_arg name = record (new_rule name) { long = Some name; action = Some SetTrue }

abbrev pub numbers_arg : Rule
numbers_arg = record (new_rule (codes "numbers")) { action = Some Append }

abbrev pub reader_args : List Rule
reader_args = map option_arg option_names ++ map flag_arg flag_names ++ numbers_arg ∷ []

abbrev pub reader_app : App
reader_app =
    on_top (λ s. record s { disable_help_flag = true; rules = reader_args }) (new_app (codes "ocr"))
