use Rattle.std.proofs.Common.{◌≡◌, length, drop}
use Rattle.ocr_datablock.proofs.Replaced.{AreLeft}
use Rattle.ocr_datablock.proofs.loan.clear_marks.Given as goal

abbrev pub invariant-loop-i : goal.invariant-loop-i
invariant-loop-i l = record {
  size : length l.marks.items ≡ length l.fn.marks.items;
  left : AreLeft l.marks.items (drop l.i l.replaced);
}
