use Rattle.std.proofs.Common.{[], ◌∷◌, refl}
use Rattle.ocr_worker_access.proofs.Accessed.{access_called, access_keeps, access_runs, access_taken, can_access}
use Rattle.ocr_worker_access.proofs.Readied.{entered_none, lifted_duties}
use Rattle.ocr_worker_access.proofs.shared.enter_access.Goals as goal

pub enter_at_work-requires : goal.enter_at_work-requires
enter_at_work-requires g c = λ κs lives.
    let r = c.requires.1.1 in let a = c.args in (
      lives.0,
      (
        lives.1,
        (
          r.0,
          (
            lifted_duties a.job.now.turns.now.1 a.edt g.s.0 g.s.1 a.clerk.now (a.block ∷ []) [] a.parts.items r.1.0 r.1.1.0,
            can_access a.job.now.turns.now a.job.now.program.now a.edt a.block g.s.0 g.s.1 a.clerk.now a.parts.items r.0 r.1.0 r.1.1.0 a.call a.value r.1.1.1.0 r.1.1.1.1 c.answer_with.result c.none.result c.answer_with.ensures c.none.ensures,
          ),
        ),
      ),
    )

pub give_faces-requires-clause-taken : goal.give_faces-requires-clause-taken
give_faces-requires-clause-taken g c =
    let r = c.requires.1.1 in let a = c.args in
    access_taken a.job.now.turns.now a.job.now.program.now a.edt a.block g.s.0 g.s.1 a.clerk.now a.parts.items r.0 r.1.0 r.1.1.0 a.call a.value r.1.1.1.0 r.1.1.1.1 c.answer_with.result c.none.result c.answer_with.ensures c.none.ensures
    c.enter_at_work.new.clerk c.in_ok-enter_at_work.ensures.entered

pub give_faces-requires-clause-keeps : goal.give_faces-requires-clause-keeps
give_faces-requires-clause-keeps g c =
    let r = c.requires.1.1 in let a = c.args in
    access_keeps a.job.now.turns.now a.job.now.program.now a.edt a.block g.s.0 g.s.1 a.clerk.now a.parts.items r.0 r.1.0 r.1.1.0 a.call a.value r.1.1.1.0 r.1.1.1.1 c.answer_with.result c.none.result c.answer_with.ensures c.none.ensures
    c.enter_at_work.new.clerk c.in_ok-enter_at_work.ensures.entered c.block.inside.0 c.block.view_is

pub returns-clause-runs : goal.returns-clause-runs
returns-clause-runs g c =
    let r = c.requires.1.1 in let a = c.args in
    access_runs a.job.now.turns.now a.job.now.program.now a.edt a.block g.s.0 g.s.1 a.clerk.now a.parts.items r.0 r.1.0 r.1.1.0 a.call a.value r.1.1.1.0 r.1.1.1.1 c.answer_with.result c.none.result c.answer_with.ensures c.none.ensures
    c.enter_at_work.new.clerk c.in_ok-enter_at_work.ensures.entered c.give_faces.new.clerk c.give_faces.ensures.view c.give_faces.ensures.hand

pub returns-clause-called : goal.returns-clause-called
returns-clause-called g c =
    let r = c.requires.1.1 in let a = c.args in
    access_called a.job.now.turns.now a.job.now.program.now a.edt a.block g.s.0 g.s.1 a.clerk.now a.parts.items r.0 r.1.0 r.1.1.0 a.call a.value r.1.1.1.0 r.1.1.1.1 c.answer_with.result c.none.result c.answer_with.ensures c.none.ensures
    c.enter_at_work.new.clerk c.in_ok-enter_at_work.ensures.entered c.give_faces.new.clerk c.give_faces.ensures.view c.give_faces.ensures.hand

pub returns-clause-readied : goal.returns-clause-readied
returns-clause-readied g c = entered_none c.args.job.now.turns.now.1 c.args.clerk.now c.args.clerk.now c.enter_at_work.new.clerk c.give_faces.new.clerk _ _ _ refl c.in_ok-enter_at_work.ensures.entered c.give_faces.ensures.view
