use Rattle.std.proofs.Common.{◌≡◌, ◌++◌, drop}
use Rattle.ocr_datablock.specs.Block.{names}
use Rattle.ocr_datablock.proofs.datablock.copy_names.Given as goal

abbrev pub invariant-loop-edt : goal.invariant-loop-edt
invariant-loop-edt l = l.copied.items ++ names (drop l.edt-index l.front) ≡ names l.front
