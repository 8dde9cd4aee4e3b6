use Rattle.std.proofs.Common.{◌≡◌, ◌⊎◌, ℕ, Some, sym}
use Rattle.std.proofs.lemmas.Map.Keys.{le_from_not_gt}
use Rattle.ocr_edt.specs.Phases.{least_of}
use Rattle.ocr_edt.specs.Steps.{held_in}
use Rattle.ocr_edt.proofs.Made.{least_made}
use Rattle.ocr_edt.proofs.execution.least_of_both.Goals as goal

pub returns-in-Some : goal.returns-in-Some
returns-in-Some c =
    let k : ℕ = c.in-Some.made.now in
    let planned = c.least_among-planned.ensures in
    let one : (c.lesser.result ≡ k) ⊎ (least_of (held_in c.args.entries.now) ≡ Some c.lesser.result) = rw planned at c.lesser.ensures.one_of_them in
    sym (least_made c.lesser.result k c.args.made.now.keys (held_in c.args.entries.now) c.requires c.in-Some.ensures.member
    (λ q there. le_from_not_gt k q (c.in-Some.ensures.least q there)) one c.lesser.ensures.by_made (rw planned at c.lesser.ensures.by_planned))
