use Rattle.std.proofs.Common.{◌≡◌, drop}
use Rattle.ocr_datablock.proofs.row.Row.drop_first.Given as goal

abbrev pub invariant-loop-taken : goal.invariant-loop-taken
invariant-loop-taken l = l.self ≡ drop l._taken l.fn.self
