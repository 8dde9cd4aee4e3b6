use Rattle.std.proofs.Common.{◌≡◌, ◌++◌, map}
use Rattle.ocr_memory_model.specs.Touches.{touch_of}
use Rattle.ocr_memory_model.proofs.touch.listed.Given as goal

abbrev pub invariant-loop-block : goal.invariant-loop-block
invariant-loop-block l =
    l.touches.items ++ map touch_of l.block-iterator ≡ map touch_of l.marks.entries
