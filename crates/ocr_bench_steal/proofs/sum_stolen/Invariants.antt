use Rattle.std.proofs.Common.{◌≡◌}
use Rattle.ocr_steal.specs.Pool.{IsOfPool}
use Rattle.ocr_bench_steal.proofs.sum_stolen.Given as goal

abbrev pub invariant-loop : goal.invariant-loop
invariant-loop l = IsOfPool l.pool l.thief × (l.thief.number ≡ 1)
