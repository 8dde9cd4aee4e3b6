use Rattle.std.proofs.Common.{◌∙◌, sym, ap, arith, length}
use Rattle.ocr_datablock.specs.Lent.{after_list_writes}
use Rattle.ocr_machine_parts.specs.Loans.{with_loan}
use Rattle.ocr_machine_parts.proofs.Stored.{loan_set}
use Rattle.ocr_machine_parts.proofs.loans.list_among.Goals as goal

pub returns-then-eq : goal.returns-then-eq
returns-then-eq c =
    let v = c.loop-i.invariant in let x = c.index.result.now in let y = c.index_mut.result.now in
    loan_set c.args.block after_list_writes c.loop-i.items.items c.loop-i.i x y c.list_in.new.kept (omega (arith, ap length v.same)) c.index.ensures c.index_mut.ensures.value (sym c.eq.ensures ∙ c.if-eq.true) c.list_in.ensures v.leaves
    ∙ ap (with_loan c.args.block after_list_writes) v.same
