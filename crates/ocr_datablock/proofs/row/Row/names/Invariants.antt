use Rattle.std.proofs.Common.{◌≡◌, ◌++◌, length}
use Rattle.std.specs.Prelude.{reverse}
use Rattle.ocr_datablock.specs.Block.{names}
use Rattle.ocr_datablock.proofs.row.Row.names.Given as goal

abbrev pub invariant-loop-number : goal.invariant-loop-number
invariant-loop-number l = l.all.items ++ names (reverse l.left) ≡ names l.self

abbrev pub decreases-loop-number : goal.decreases-loop-number
decreases-loop-number l = length l.left
