use Rattle.std.proofs.Common.{◌∙◌, sym, ap, arith, get_or}
use mathlib.Core.Option.{some-injective}
use mathlib.Core.Logic.{dite}
use native.Mathlib.Decide.{ℕ_discrete}
use lib.ListN.{get_elem?}
use Rattle.ocr_turns_rule.proofs.Totals.{at_less}
use Rattle.ocr_journal_merge.proofs.Whole.{number_at}
use Rattle.ocr_journal_merge.proofs.numbered.is_in_order.Goals as goal

pub loop-k-preserved : goal.loop-k-preserved
loop-k-preserved c = λ i n lt at.
    let ns = c.args.numbers.now in let k = c.loop-k.k in
    dite (ℕ_discrete i k)
    (λ same. some-injective n (get_or ns k 0) (sym at ∙ (ap (get_elem? ns) same ∙ number_at ns k c.loop-k-test.true)) ∙ (c.if-numbers-k.false ∙ sym same))
    (λ other. c.loop-k.invariant i n (omega (arith, other)) at)

pub returns : goal.returns
returns c = λ _ k n at. c.loop-k.invariant k n (let lt = at_less c.args.numbers.now k n at in let past = c.loop-k-test.false in omega arith) at
