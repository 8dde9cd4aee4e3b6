use Rattle.std.proofs.Common.{◌∙◌, ◌≡◌, sym, ap, arith, length, Ok, Err, Result}
use Rattle.std.specs.Prelude.{OnOk}
use Rattle.ocr_datablock.specs.Lent.{Loan, after_store}
use Rattle.ocr_machine_parts.specs.Loans.{kept_after, with_loan}
use Rattle.ocr_machine_parts.proofs.Stored.{loan_set}
use Rattle.ocr_machine_parts.proofs.loans.store_among.Goals as goal

on_ok : {A E : Type 0} (r : Result A E) (P Q : Type 0) → OnOk r P → (P → Q) → OnOk r Q
on_ok (Ok a) P Q is step = step is
on_ok (Err e) P Q is step = tt

pub returns-then-eq-clause-ok : goal.returns-then-eq-clause-ok
returns-then-eq-clause-ok c =
    let v = c.loop-i.invariant in let x = c.index.result.now in let y = c.index_mut.result.now in
    let step = λ (loan : Loan). after_store loan c.args.word c.args.value in
    on_ok c.store_in.result (c.store_in.new.kept ≡ kept_after step y.1) _ c.store_in.ensures.ok
    (λ is. loan_set c.args.block step c.loop-i.items.items c.loop-i.i x y c.store_in.new.kept (omega (arith, ap length v.same)) c.index.ensures c.index_mut.ensures.value (sym c.eq.ensures ∙ c.if-eq.true) is v.leaves
    ∙ ap (with_loan c.args.block step) v.same)
