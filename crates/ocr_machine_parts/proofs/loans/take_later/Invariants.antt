use Rattle.std.proofs.Common.{◌≡◌, ◌++◌, drop, take}
use Rattle.ocr_machine_parts.specs.Loans.{without_kept}
use Rattle.ocr_machine_parts.proofs.loans.take_later.Given as goal

abbrev pub invariant-loop-i : goal.invariant-loop-i
invariant-loop-i l = record {
  same : l.items.items ≡ l.fn.items.items;
  leaves : take l.i l.items.items ++ without_kept l.block (drop l.i l.items.items) ≡ take 1 l.items.items ++ without_kept l.block (drop 1 l.items.items);
}
