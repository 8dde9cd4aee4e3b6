use Rattle.std.proofs.Common.{◌≡◌, ◌++◌, drop, take}
use Rattle.ocr_datablock.specs.Lent.{after_list_writes}
use Rattle.ocr_machine_parts.specs.Loans.{with_loan}
use Rattle.ocr_machine_parts.proofs.loans.list_among.Given as goal

abbrev pub invariant-loop-i : goal.invariant-loop-i
invariant-loop-i l = record {
  same : l.items.items ≡ l.fn.items.items;
  leaves : take l.i l.items.items ++ with_loan l.block after_list_writes (drop l.i l.items.items) ≡ with_loan l.block after_list_writes l.items.items;
}
