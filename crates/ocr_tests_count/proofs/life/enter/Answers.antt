use Rattle.std.proofs.Common.{[], ◌∷◌, ap, ◌∙◌, arith}
use Rattle.ocr_tests_count.proofs.SoloSteps.{act_may}
use Rattle.ocr_tests_count.proofs.life.enter.Goals as goal

pub commit-requires-clause-may : goal.commit-requires-clause-may
commit-requires-clause-may c = λ goes.
    let same = c.in_ok-reserve.ensures.same.1 in let has = c.requires.edt in
    act_may c.args.turns.now.1 c.reserve.new.clerk.view c.args.act c.in_ok-parts.parts.items c.new.result.items (c.in_ok-parts.ensures.items ∙ ap (λ x. (3, x) ∷ []) c.state_after.ensures) c.new.ensures.items c.requires.goes
    (ap (λ v. v.parts) same ∙ has.parts) (ap (λ v. v.claims) same ∙ has.claims)
    (let weight = ap (λ v. v.weight) same in let light = c.requires.light in let share = has.share in omega arith)
