use Rattle.ocr_bench_body.specs.Loans.{AreIsolated}
use Rattle.ocr_bench_body.proofs.asked.Given as goal

abbrev pub invariant-loop : goal.invariant-loop
invariant-loop l = AreIsolated l.api.held.items
