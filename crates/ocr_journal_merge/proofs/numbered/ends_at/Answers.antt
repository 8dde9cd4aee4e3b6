use Rattle.std.proofs.Common.{◌-◌, ◌∙◌, sym, ap, arith, length, get_or, eq-eqb, eqb-true}
use mathlib.Core.Option.{some, some-injective}
use Rattle.ocr_journal_merge.proofs.Whole.{number_at}
use Rattle.ocr_journal_merge.proofs.numbered.ends_at.Goals as goal

pub returns-then-many-gt0-clause-yes : goal.returns-then-many-gt0-clause-yes
returns-then-many-gt0-clause-yes c = λ yes.
    let ns = c.args.numbers.now in let last = length ns - 1 in
    number_at ns last (let some_there = c.if-many-gt0.true in omega arith) ∙ ap some (eqb-true (get_or ns last 0) c.args.number yes)

pub returns-then-many-gt0-clause-no : goal.returns-then-many-gt0-clause-no
returns-then-many-gt0-clause-no c = λ ends.
    let ns = c.args.numbers.now in let last = length ns - 1 in
    eq-eqb (get_or ns last 0) c.args.number (some-injective (get_or ns last 0) c.args.number (sym (number_at ns last (let some_there = c.if-many-gt0.true in omega arith)) ∙ ends))
