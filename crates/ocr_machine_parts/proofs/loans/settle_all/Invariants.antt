use Rattle.std.proofs.Common.{◌≡◌, ◌++◌, length, take, drop}
use Rattle.ocr_machine_parts.specs.Loans.{settled_loans}
use Rattle.ocr_machine_parts.proofs.loans.settle_all.Given as goal

abbrev pub invariant-loop-i : goal.invariant-loop-i
invariant-loop-i l = record {
  size : length l.items.items ≡ length l.fn.items.items;
  left : take l.i l.items.items ++ settled_loans (drop l.i l.items.items) ≡ settled_loans l.fn.items.items;
}
