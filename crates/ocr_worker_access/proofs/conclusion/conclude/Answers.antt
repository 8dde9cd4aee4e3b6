use Rattle.std.proofs.Common.{◌≡◌, ◌∙◌, [], ◌∷◌, ℕ, List, Option, take, refl, ap, sym, subst}
use Rattle.ocr_machine_parts.specs.declared.part.Part.{Part}
use Rattle.ocr_machine_parts.specs.Bodies.{holds_in}
use Rattle.ocr_turns_rule.specs.Debts.{listed}
use Rattle.ocr_worker_clerk.specs.Work.{KeepsFaces}
use Rattle.ocr_worker_access.specs.Access.{AreOthers, HasEntered, first_in}
use Rattle.ocr_worker_machine.specs.Clerks.{OcrView}
use Rattle.ocr_worker_clerk.proofs.Push.{pushes_then, then_none}
use Rattle.ocr_worker_access.proofs.Back.{has_taken, holds_again, keeps_faces, runs_again}
use Rattle.ocr_worker_access.proofs.Settled.{pushed_both}
use Rattle.ocr_worker_access.proofs.conclusion.conclude.Goals as goal

pub count_any-requires : goal.count_any-requires
count_any-requires g c = λ κs lives.
    let r = c.requires.1.1 in let t = c.args.job.now.turns.now.1 in (
      lives.0,
      (
        lives.1,
        (
          r.1.0,
          subst (λ (ps : List ℕ). HasEntered t c.args.edt g.s.0 c.args.clerk.now ps (listed c.args.made) g.s.1.1) (sym r.0.0)
              (subst (λ (rs : List ℕ). HasEntered t c.args.edt g.s.0 c.args.clerk.now c.args.others.now (listed c.args.made) rs) (sym r.0.1) r.1.1.0),
        ),
      ),
    )

pub resume_all-requires : goal.resume_all-requires
resume_all-requires g c = λ κs lives.
    let r = c.requires.1.1 in let t = c.args.job.now.turns.now.1 in let e = c.in_ok-count_any.ensures in (
      lives.0,
      (
        lives.1,
        (
          e.work,
          subst (λ (rs : List ℕ). HasEntered t c.args.edt g.s.0 c.count_any.new.clerk g.s.1.0 [] rs) r.0.1 e.entered,
        ),
      ),
    )

pub give_faces-requires-clause-taken : goal.give_faces-requires-clause-taken
give_faces-requires-clause-taken g c = has_taken c.args.job.now.turns.now.1 c.args.edt g.s.0 c.resume_all.new.clerk g.s.1.0 c.in_ok-resume_all.ensures.entered

pub give_faces-requires-clause-keeps : goal.give_faces-requires-clause-keeps
give_faces-requires-clause-keeps g c =
    let r = c.requires.1.1 in let t = c.args.job.now.turns.now.1 in
    subst (λ (ns : List ℕ). KeepsFaces t c.args.edt ns c.resume_all.new.clerk) r.0.0
    (keeps_faces t c.args.edt g.s.0 c.resume_all.new.clerk g.s.1.0 c.in_ok-resume_all.ensures.entered (subst (λ (ns : List ℕ). AreOthers t c.args.edt ns) (sym r.0.0) r.1.1.1))

pub returns-clause-runs : goal.returns-clause-runs
returns-clause-runs g c = runs_again c.args.job.now.turns.now.1 c.args.edt g.s.0 c.resume_all.new.clerk c.give_faces.new.clerk g.s.1.0 c.in_ok-resume_all.ensures.entered c.in_ok-resume_all.ensures.work.of_table.1 c.give_faces.ensures.view c.give_faces.ensures.hand

pub returns-clause-holds : goal.returns-clause-holds
returns-clause-holds g c =
    holds_again c.args.job.now.turns.now.1 c.args.edt g.s.0 c.resume_all.new.clerk c.give_faces.new.clerk g.s.1.0 c.in_ok-resume_all.ensures.entered c.give_faces.ensures.hand
    ∙ ap (λ (ps : List (ℕ × Option Part)). holds_in (first_in ps)) (c.in_ok-resume_all.ensures.parts ∙ c.in_ok-count_any.ensures.parts)

first_taken : (ps : List (ℕ × Option Part)) → first_in (take 1 ps) ≡ first_in ps
first_taken [] = refl
first_taken (x ∷ rest) = refl

pub returns-clause-core : goal.returns-clause-core
returns-clause-core g c =
    ap first_in c.give_faces.ensures.hand ∙ (first_taken c.resume_all.new.clerk.parts ∙ ap first_in (c.in_ok-resume_all.ensures.parts ∙ c.in_ok-count_any.ensures.parts))

pub returns-clause-hand : goal.returns-clause-hand
returns-clause-hand g c = pushed_both c.args.hand.now c.count_any.new.hand c.resume_all.new.hand c.count_any.ensures.hand c.resume_all.ensures.hand

pub returns-clause-pushed : goal.returns-clause-pushed
returns-clause-pushed g c =
    let a = c.args in
    then_none a.clerk.now c.resume_all.new.clerk c.give_faces.new.clerk a.hand.now c.resume_all.new.hand
    (pushes_then a.clerk.now c.count_any.new.clerk c.resume_all.new.clerk a.hand.now c.count_any.new.hand c.resume_all.new.hand c.in_ok-count_any.ensures.pushed c.in_ok-resume_all.ensures.pushed)
    (ap (λ (v : OcrView). v.debts.readied) c.give_faces.ensures.view)
