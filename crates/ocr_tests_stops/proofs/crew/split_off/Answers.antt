use Rattle.std.proofs.Common.{◌∙◌, ap, arith}
use Rattle.ocr_turns_rule.specs.Steps.{parted_spare}
use Rattle.ocr_tests_stops.proofs.Made.{can_end, gives_spare, hires_spare, root_on}
use Rattle.ocr_tests_stops.proofs.crew.split_off.Goals as goal

pub raise-requires-clause-may : goal.raise-requires-clause-may
raise-requires-clause-may c =
    let has = c.requires.root.1 in let one = has.spares in let none = has.raised_is in
    (omega arith, omega arith)

pub split_live-requires-clause-spare : goal.split_live-requires-clause-spare
split_live-requires-clause-spare c =
    let has = c.requires.root.1 in let one = has.spares in let none = has.goes in
    let more = ap (λ v. v.spares) c.raise.ensures.view in let goes = ap (λ v. v.ended) c.raise.ensures.view in
    (omega arith, λ ended. absurd (omega arith))
