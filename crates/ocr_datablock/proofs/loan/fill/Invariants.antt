use Rattle.std.proofs.Common.{◌≡◌, length, map, take}
use Rattle.ocr_datablock.specs.Replaced.{write_of}
use Rattle.ocr_datablock.proofs.loan.fill.Given as goal

abbrev pub invariant-loop-i : goal.invariant-loop-i
invariant-loop-i l = record {
  same : length l.list.items ≡ length l.replaced;
  done : take l.i l.list.items ≡ map (write_of l.words) (take l.i l.replaced);
}
