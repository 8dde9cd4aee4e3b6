use Rattle.std.proofs.Common.{◌≡◌, take}
use Rattle.std.specs.List.{flat_map}
use Rattle.ocr_report.specs.Faces.{line_on}
use Rattle.ocr_memory_model.specs.Orders.{face_on}
use Rattle.ocr_report.proofs.blocks.block_lines.Given as goal

abbrev pub invariant-loop-block : goal.invariant-loop-block
invariant-loop-block l =
    l.text.items ≡ flat_map (λ d. line_on d (face_on l.table d)) (take l.block-index l.blocks)
