use Rattle.std.proofs.Common.{◌≡◌}
use Rattle.ocr_machine_parts.proofs.Lists.{IsTurned}
use Rattle.ocr_machine_parts.proofs.many.settle_each.Given as goal

abbrev pub invariant-loop-i : goal.invariant-loop-i
invariant-loop-i l = record {
  turned : IsTurned l.fn.cache.entries l._i l.cache.entries;
  cap : l.cache.cap ≡ l.fn.cache.cap;
}
