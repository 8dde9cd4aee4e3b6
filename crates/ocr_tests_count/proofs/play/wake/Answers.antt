use Rattle.std.proofs.Common.{◌≤◌, ap, ◌∙◌, arith, refl, subst, sym}
use Rattle.ocr_turns_rule.specs.Debts.{times}
use Rattle.ocr_tests_count.proofs.Steps.{Sight, has_drawn, may_wake}
use Rattle.ocr_tests_count.proofs.play.wake.Goals as goal

pub commit-requires-clause-may : goal.commit-requires-clause-may
commit-requires-clause-may c goes =
    let view = c.in_ok-reserve.ensures.same.1 in
    may_wake c.args.turns.now.1 c.reserve.new.clerk.view c.in_ok-parts.parts.items c.new.result.items c.in_ok-parts.ensures.items c.new.ensures.items
    (ap (λ (v : Sight). v.parts) view ∙ c.requires.parts) (ap (λ (v : Sight). v.claims) view ∙ c.requires.claims)
    (omega (arith, ap (λ (v : Sight). v.weight) view, c.requires.light))
    (omega (arith, ap (λ (v : Sight). v.spares) view, c.requires.unit))

pub resume-requires-clause-owes : goal.resume-requires-clause-owes
resume-requires-clause-owes c = subst (λ ns. 1 ≤ times 2 ns) (sym (ap (λ (v : Sight). v.debts.resumes) c.in-At.ensures.3)) (has_drawn c.reserve.new.clerk.view.debts.resumes 2 refl)
