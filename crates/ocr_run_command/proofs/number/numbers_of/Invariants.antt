use Rattle.std.proofs.Common.{◌≡◌, map, take}
use Rattle.ocr_run_command.specs.Wanted.{value}
use Rattle.ocr_run_command.proofs.number.numbers_of.Given as goal

abbrev pub invariant-loop-text : goal.invariant-loop-text
invariant-loop-text l = (l.numbers.items ≡ map value (map (λ t. t.now) (take l.text-index l.texts)))
