use Rattle.std.proofs.Common.{◌≡◌, ◌-◌, ◌++◌, ℕ, suc, subst, take, drop, arith}
use Rattle.ocr_machine_history.specs.Numbers.{placed}
use Rattle.ocr_report.proofs.Ascent.{placed_behind}
use Rattle.ocr_report.proofs.edts.less_count.Goals as goal

pub returns-then-numbers-count-clause-before : goal.returns-then-numbers-count-clause-before
returns-then-numbers-count-clause-before c =
    let xs = c.args.numbers.now in let n = c.args.number in let count = c.loop-count.count in let some = c.loop-count-test.true in
    let last : suc (count - 1) ≡ count = omega arith in let within = c.loop-count.invariant.within in
    subst (λ (k : ℕ). placed n xs ≡ take k xs ++ placed n (drop k xs)) last (placed_behind n (count - 1) xs c.requires (omega arith) c.if-numbers-count.true)
