use Rattle.std.proofs.Common.{◌≡◌, ◌+◌, length}
use Rattle.ocr_datablock.specs.Block.{state_of}
use Rattle.ocr_machine.proofs.Arguments.{stored}
use Rattle.ocr_machine.proofs.beginning.argument_block.Given as goal

abbrev pub invariant-loop-i : goal.invariant-loop-i
invariant-loop-i l = l.block ≡ state_of (length l.args + 1) 0 (stored l.args l.i)
