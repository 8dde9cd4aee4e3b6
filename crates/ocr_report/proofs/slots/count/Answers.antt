use Rattle.std.proofs.Common.{◌∙◌, sym, ap, if◌then◌else◌, ◌==◌}
use Rattle.std.specs.Prelude.{Option}
use Rattle.std.specs.Ordering.{nat_cmp}
use Rattle.std.specs.BTreeMap.{get}
use Rattle.ocr_report.specs.declared.slots.Counted.{Counted}
use Rattle.ocr_report.proofs.Counts.{count_next}
use Rattle.ocr_report.proofs.slots.count.Goals as goal

pub returns-in_ok-put : goal.returns-in_ok-put
returns-in_ok-put c s past are g =
    let told = sym c.counted_of-made.ensures ∙ c.in-Some.is in
    c.in_ok-put.ensures g
    ∙ ap (λ (o : Option Counted). if c.in-Some.made == g then c.in-Some.counted else o) (c.clear_beside.ensures g)
    ∙ count_next s past c.args.entry.now (get nat_cmp c.args.counts.now) are c.in-Some.made c.in-Some.counted told g
