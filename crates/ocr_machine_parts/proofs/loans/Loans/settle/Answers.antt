use Rattle.std.proofs.Common.{◌++◌, ◌∙◌, ap, sym}
use Rattle.ocr_machine_parts.specs.Loans.{settled_loans}
use Rattle.ocr_machine_parts.proofs.Lists.{settled_both}
use Rattle.ocr_machine_parts.proofs.loans.Loans.settle.Goals as goal

pub returns : goal.returns
returns c = (λ i. c.settle.ensures i ++ c.settle_all.ensures i) ∙ (sym (settled_both c.self.inside.many c.self.inside.few.items) ∙ ap settled_loans c.self.view_is)
