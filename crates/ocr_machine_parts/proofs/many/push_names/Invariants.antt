use Rattle.std.proofs.Common.{◌≡◌, ◌++◌, map}
use Rattle.ocr_machine_parts.proofs.many.push_names.Given as goal

abbrev pub invariant-loop-block : goal.invariant-loop-block
invariant-loop-block l = l.blocks.items ++ map (λ one. one.0) l.block-iterator ≡ l.fn.blocks.items ++ map (λ one. one.0) l.cache.entries
