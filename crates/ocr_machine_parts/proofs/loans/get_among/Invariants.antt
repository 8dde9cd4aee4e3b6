use Rattle.std.proofs.Common.{◌≡◌, drop}
use Rattle.ocr_machine_parts.specs.Loans.{kept_in}
use Rattle.ocr_machine_parts.proofs.loans.get_among.Given as goal

abbrev pub invariant-loop-held : goal.invariant-loop-held
invariant-loop-held l = kept_in l.block (drop l.held-index l.items) ≡ kept_in l.block l.items
