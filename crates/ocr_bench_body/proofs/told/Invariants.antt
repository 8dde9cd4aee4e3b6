use Rattle.ocr_bench_body.specs.Loans.{AreIsolated}
use Rattle.ocr_bench_body.proofs.told.Given as goal

abbrev pub invariant-loop-i : goal.invariant-loop-i
invariant-loop-i l = AreIsolated l.api.held.items
