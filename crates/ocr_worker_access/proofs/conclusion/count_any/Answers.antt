use Rattle.std.proofs.Common.{ℕ, Option, refl, subst}
use Rattle.ocr_turns_rule.specs.Debts.{listed}
use Rattle.ocr_worker_clerk.proofs.Push.{pushes_none}
use Rattle.ocr_worker_access.specs.Access.{HasEntered}
use Rattle.ocr_worker_access.proofs.conclusion.count_any.Goals as goal

pub count_new-requires : goal.count_new-requires
count_new-requires g c κs within =
    let r = c.requires.1.1 in let t = c.args.job.now.turns.now.1 in (
      within.0,
      (
        within.1,
        (
          r.0,
          subst (λ (m : Option (ℕ × ℕ)). HasEntered t c.args.edt g.s.0 c.args.clerk.now g.s.1.0 (listed m) g.s.1.1) c.in-Some.is r.1,
        ),
      ),
    )

pub returns-in-None-clause-pushed : goal.returns-in-None-clause-pushed
returns-in-None-clause-pushed g c = pushes_none c.args.clerk.now c.args.clerk.now c.args.hand.now refl
