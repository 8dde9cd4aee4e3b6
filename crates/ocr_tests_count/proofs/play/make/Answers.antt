use Rattle.std.proofs.Common.{◌≡◌, ap, ◌∙◌, arith, refl}
use Rattle.ocr_tests_count.proofs.Steps.{Sight, make_may}
use Rattle.ocr_tests_count.proofs.play.make.Goals as goal

pub commit-requires-clause-may : goal.commit-requires-clause-may
commit-requires-clause-may g c goes =
    let can = c.if-not-take_unmade.ensures refl in
    let weight : c.take_unmade.new.clerk.view.weight ≡ c.args.clerk.now.view.weight = can.weight ∙ ap (λ (v : Sight). v.weight) c.in_ok-reserve.ensures.same.1 in
    make_may c.args.turns.now.1 c.take_unmade.new.clerk.view c.in_ok-parts.parts.items c.new.result.items c.in_ok-parts.ensures.items c.new.ensures.items can.parts (omega (arith, weight, c.requires.light)) can.drawn (let same = can.units.0 in let held = ap (λ (v : Sight). v.spares) c.in_ok-reserve.ensures.same.1 in let pays = c.requires.unit in omega arith)
