use Rattle.std.proofs.Common.{◌≡◌, ◌++◌, drop, map}
use Rattle.ocr_machine_parts.proofs.loans.push_among.Given as goal

abbrev pub invariant-loop-held : goal.invariant-loop-held
invariant-loop-held l = l.blocks.items ++ map (λ one. one.0) (drop l.held-index l.items) ≡ l.fn.blocks.items ++ map (λ one. one.0) l.items
