use Rattle.std.proofs.Common.{◌≡◌, length, true}
use Rattle.std.specs.List.{list_all}
use Rattle.ocr_text.specs.Forms.{is_digit, value_of}
use Rattle.ocr_text.specs.Scan.{value_on}
use Rattle.ocr_text.proofs.scan.number_value.Given as goal

abbrev pub invariant-loop-rest : goal.invariant-loop-rest
invariant-loop-rest l = record { value : value_on l.value l.rest ≡ value_of l.digits; digits : list_all is_digit l.rest ≡ true }

abbrev pub decreases-loop-rest : goal.decreases-loop-rest
decreases-loop-rest l = length l.rest
