use Rattle.std.proofs.Common.{◌≡◌}
use Rattle.ocr_report.specs.Faces.{blocks_to}
use Rattle.ocr_memory_model.specs.Orders.{face_on}
use Rattle.ocr_report.proofs.blocks.blocks.Given as goal

abbrev pub invariant-loop-below : goal.invariant-loop-below
invariant-loop-below l = l.blocks.items ≡ blocks_to (face_on l.table) l.below
