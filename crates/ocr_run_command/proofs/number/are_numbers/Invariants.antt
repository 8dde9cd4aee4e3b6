use Rattle.std.proofs.Common.{map, take}
use Rattle.ocr_run_command.specs.Wanted.{AreNumbers}
use Rattle.ocr_run_command.proofs.number.are_numbers.Given as goal

abbrev pub invariant-loop-text : goal.invariant-loop-text
invariant-loop-text l = AreNumbers (map (λ t. t.now) (take l.text-index l.texts))
