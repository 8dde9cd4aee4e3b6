use Rattle.std.proofs.Common.{◌≡◌, ◌++◌, take}
use Rattle.ocr_datablock.proofs.holders.Holders.push_all.Given as goal

abbrev pub invariant-loop-i : goal.invariant-loop-i
invariant-loop-i l = l.self ≡ l.fn.self ++ take l.i l.front
