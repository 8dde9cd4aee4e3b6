use Rattle.std.proofs.Common.{◌++◌, ◌∙◌, ap, sym, List, ℕ}
use Rattle.ocr_datablock.specs.Lent.{after_list_writes}
use Rattle.ocr_machine_parts.specs.Loans.{with_loan}
use Rattle.ocr_machine_parts.specs.declared.loans.Kept.{Kept}
use Rattle.ocr_machine_parts.proofs.Lists.{step_first, step_second}
use Rattle.ocr_machine_parts.proofs.loans.Loans.list_writes.Goals as goal

pub returns-then-list_writes : goal.returns-then-list_writes
returns-then-list_writes c =
    let d = c.args.block in let many = c.self.inside.many in let few = c.self.inside.few.items in
    ap (λ (l : List (ℕ × Kept)). l ++ few) c.list_writes.ensures.state
    ∙ (sym (step_first d after_list_writes many few (sym c.list_writes.ensures.is ∙ c.if-list_writes.true)) ∙ ap (with_loan d after_list_writes) c.self.view_is)

pub returns : goal.returns
returns c =
    let d = c.args.block in let many = c.self.inside.many in let few = c.self.inside.few.items in
    (λ i. c.list_writes.ensures.state i ++ c.list_among.ensures i)
    ∙ (sym (step_second d after_list_writes many few (sym c.list_writes.ensures.is ∙ c.if-list_writes.false)) ∙ ap (with_loan d after_list_writes) c.self.view_is)
