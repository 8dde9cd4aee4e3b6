-- Lines whose numbers are digits.
use Rattle.std.specs.Prelude.{List, [], ◌∷◌}
use Rattle.std.specs.Str.Parse.{IsNumeral}
use Rattle.ocr_run_command.specs.Form.{Piece, number, option, joined, flag}

-- the numbers of these pieces, and the values of their options, are digits
abbrev pub AreNumerals : List Piece → Type 0
AreNumerals [] = Unit {0}
AreNumerals (number t ∷ ps) = IsNumeral 10 t × AreNumerals ps
AreNumerals (option name t ∷ ps) = IsNumeral 10 t × AreNumerals ps
AreNumerals (joined name t ∷ ps) = IsNumeral 10 t × AreNumerals ps
AreNumerals (flag name ∷ ps) = AreNumerals ps
