use Rattle.std.proofs.Common.{List, ℕ, length, Option, ap, sym, ◌≡◌, ◌∙◌, subst, IfOk}
use Rattle.ocr_machine_parts.specs.declared.part.Part.{Part}
use Rattle.ocr_worker_machine.specs.Clerks.{OcrView}
use Rattle.ocr_worker_machine.specs.Ocr.{wakes}
use Rattle.ocr_worker_clerk.specs.Work.{HasFewDuties}
use Rattle.ocr_worker_clerk.proofs.Whole.{kept_on, lifted_can, lifted_length, lifted_work, whole_once}
use Rattle.ocr_worker_clerk.proofs.lift.enter_kept.Goals as goal

pub lift_parts-requires-clause-once : goal.lift_parts-requires-clause-once
lift_parts-requires-clause-once g c =
    let r = c.requires.1.1 in whole_once c.args.job.now.turns.now.1 c.args.clerk.now c.args.entry g.h c.args.places.now r.1.0 r.1.1.1

pub enter_at_work-requires : goal.enter_at_work-requires
enter_at_work-requires g c =
    let r = c.requires.1.1 in let e = c.in-Ok.ensures in
    λ κs lives. (
      lives.0,
      (
        lives.1,
        (
          lifted_work c.args.job.now.turns.now c.args.job.now.program.now c.args.clerk.now c.lift_parts.new.clerk r.0 e.same.0 e.same.1 e.same.2 (ap (λ (l : List (ℕ × Option Part)). length l) e.left ∙ lifted_length c.args.clerk.now.parts),
          (
            subst HasFewDuties (sym e.same.1) r.1.1.0,
            lifted_can c.args.job.now.turns.now.1 c.args.clerk.now c.lift_parts.new.clerk c.args.entry g.h c.in-Ok.parts.items e.same.1 e.parts r.1.1.1,
          ),
        ),
      ),
    )

pub returns-clause-entered : goal.returns-clause-entered
returns-clause-entered g c =
    let r = c.requires.1.1 in let e = c.in-Ok.ensures in
    kept_on c.args.job.now.turns.now.1 c.args.clerk.now c.lift_parts.new.clerk c.enter_at_work.new.clerk c.args.entry g.h c.args.places.now r.1.0 r.1.1.1 e.same.1 e.left c.enter_at_work.result c.enter_at_work.ensures.entered

pub returns-clause-resumed : goal.returns-clause-resumed
returns-clause-resumed g c =
    let e = c.in-Ok.ensures in
    subst (λ (v : OcrView). IfOk c.enter_at_work.result (λ r. r.items ≡ wakes c.args.job.now.turns.now.1.limit c.args.entry v.parts)) e.same.1 c.enter_at_work.ensures.resumed
