use Rattle.std.proofs.Common.{sym, ap, ◌∙◌}
use Rattle.ocr_text.specs.Scan as spec
use Rattle.ocr_text.proofs.Laws.{found_longest, found_none, tail_is}
use Rattle.ocr_text.proofs.scan.token_at.Goals as goal

pub returns-in-Some-clause-longest : goal.returns-in-Some-clause-longest
returns-in-Some-clause-longest c =
    found_longest c.args.bytes.now c.args.place _ _
    (ap spec.found (sym (tail_is c.args.bytes.now c.args.place)) ∙ sym c.found.ensures.is ∙ c.in-Some.is)

pub returns-in-None-clause-none : goal.returns-in-None-clause-none
returns-in-None-clause-none c =
    found_none c.args.bytes.now c.args.place
    (ap spec.found (sym (tail_is c.args.bytes.now c.args.place)) ∙ sym c.found.ensures.is ∙ c.in-None.is)
