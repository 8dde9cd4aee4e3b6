use Rattle.std.proofs.Common.{◌≡◌, ◌++◌, drop, take}
use Rattle.ocr_datablock.specs.Lent.{Loan, after_store}
use Rattle.ocr_machine_parts.specs.Loans.{kept_in, with_loan}
use Rattle.ocr_machine_parts.proofs.loans.store_among.Given as goal

abbrev pub invariant-loop-i : goal.invariant-loop-i
invariant-loop-i l = record {
  same : l.items.items ≡ l.fn.items.items;
  looks : kept_in l.block (drop l.i l.items.items) ≡ kept_in l.block l.items.items;
  leaves : take l.i l.items.items ++ with_loan l.block (λ (loan : Loan). after_store loan l.word l.value) (drop l.i l.items.items) ≡ with_loan l.block (λ (loan : Loan). after_store loan l.word l.value) l.items.items;
}
