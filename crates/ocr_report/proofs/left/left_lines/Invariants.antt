use Rattle.std.proofs.Common.{◌≡◌, take}
use Rattle.ocr_report.specs.Left.{left_lines}
use Rattle.ocr_report.specs.Open.{open_in}
use Rattle.ocr_report.proofs.left.left_lines.Given as goal

abbrev pub invariant-loop-edt : goal.invariant-loop-edt
invariant-loop-edt l =
    l.text.items ≡ left_lines (open_in l.counts l.sets) (take l.edt-index l.edts)
