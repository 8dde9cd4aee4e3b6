use Rattle.std.proofs.Common.{◌≡◌}
use Rattle.ocr_report.specs.Open.{unset_below}
use Rattle.ocr_report.proofs.left.unset_below.Given as goal

abbrev pub invariant-loop-slot : goal.invariant-loop-slot
invariant-loop-slot l = l.unset.items ≡ unset_below l.set l.slot-counter
