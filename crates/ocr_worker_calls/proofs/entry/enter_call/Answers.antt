use Rattle.std.proofs.Common.{◌≡◌, ◌++◌, ℕ, List, [], sym, subst}
use Rattle.ocr_body_meaning.specs.Holds.{private_of}
use Rattle.ocr_machine_history.specs.declared.entry.Entry.TheVariants.{Call}
use Rattle.ocr_worker_machine.specs.Ocr.{wakes}
use Rattle.ocr_worker_clerk.specs.Push.{ReadiesNone}
use Rattle.ocr_worker_clerk.specs.Work.{EntersAs}
use Rattle.ocr_worker_clerk.proofs.Push.{entered_readies}
use Rattle.ocr_worker_access.specs.Calls.{faces_of}
use Rattle.ocr_worker_access.specs.Access.{AreOthers, HasEntered, IsCalled, holds_at, made_by, places_made}
use Rattle.ocr_worker_access.proofs.Called.{can_call, others_are}
use Rattle.ocr_worker_access.proofs.Entered.{call_done, call_leaves, ok_both, ok_then}
use Rattle.ocr_worker_access.proofs.Readied.{lifted_duties}
use Rattle.ocr_worker_calls.proofs.entry.enter_call.Goals as goal

pub enter_at_work-requires : goal.enter_at_work-requires
enter_at_work-requires g c = λ κs lives.
    let r = c.requires.1.1 in (
      lives.0,
      (
        lives.1,
        (
          r.0,
          (
            lifted_duties c.args.job.now.turns.now.1 c.args.edt g.s.0 g.s.1 c.args.clerk.now _ _ c.args.parts.items r.1.0 r.1.1.0,
            can_call c.args.job.now.turns.now c.args.job.now.program.now c.args.edt g.s.0 g.s.1 c.args.clerk.now c.args.home c.args.call c.args.answer (private_of c.args.call (holds_at g.s.1)) c.args.writes c.args.parts.items
                r.0 r.1.0 r.1.1.1.1.0 r.1.1.0 r.1.1.1.0 r.1.1.1.1.1.0 r.1.1.1.1.1.1.0 r.1.1.1.1.1.1.1.0 r.1.1.1.1.1.1.1.1,
          ),
        ),
      ),
    )

pub returns-clause-readied : goal.returns-clause-readied
returns-clause-readied g c =
    let t = c.args.job.now.turns.now.1 in let new = c.enter_at_work.new.clerk in
    let e = Call c.args.edt c.args.home c.args.call c.args.answer c.args.writes in
    ok_then c.enter_at_work.result (EntersAs t c.args.clerk.now new e (record { members = []; parts = c.args.parts.items })) (ReadiesNone c.args.clerk.now new) c.enter_at_work.ensures.entered
    (entered_readies t c.args.clerk.now new e (record { members = []; parts = c.args.parts.items }))

pub returns-clause-entered : goal.returns-clause-entered
returns-clause-entered g c =
    let r = c.requires.1.1 in let t = c.args.job.now.turns.now.1 in
    let e = Call c.args.edt c.args.home c.args.call c.args.answer c.args.writes in
    let can = can_call c.args.job.now.turns.now c.args.job.now.program.now c.args.edt g.s.0 g.s.1 c.args.clerk.now c.args.home c.args.call c.args.answer (private_of c.args.call (holds_at g.s.1)) c.args.writes c.args.parts.items
    r.0 r.1.0 r.1.1.1.1.0 r.1.1.0 r.1.1.1.0 r.1.1.1.1.1.0 r.1.1.1.1.1.1.0 r.1.1.1.1.1.1.1.0 r.1.1.1.1.1.1.1.1 in
    ok_both c.enter_at_work.result (EntersAs t c.args.clerk.now c.enter_at_work.new.clerk e (record { members = []; parts = c.args.parts.items })) (λ v. v.items ≡ wakes t.limit e c.args.clerk.now.view.parts)
    (λ v. HasEntered t c.args.edt g.s.0 c.enter_at_work.new.clerk (faces_of t.limit c.args.home c.args.call ++ places_made t.limit c.args.call c.args.answer) (made_by t.limit e c.args.clerk.now.view.parts) v.items)
    c.enter_at_work.ensures.entered c.enter_at_work.ensures.resumed
    (λ v done is. subst (λ (rs : List ℕ). HasEntered t c.args.edt g.s.0 c.enter_at_work.new.clerk (faces_of t.limit c.args.home c.args.call ++ places_made t.limit c.args.call c.args.answer) (made_by t.limit e c.args.clerk.now.view.parts) rs) (sym is)
    (call_leaves c.args.job.now.turns.now c.args.edt g.s.0 g.s.1 c.args.clerk.now c.enter_at_work.new.clerk c.args.home c.args.call c.args.answer c.args.writes c.args.parts.items r.1.0 r.1.1.0 can done))

pub returns-clause-called : goal.returns-clause-called
returns-clause-called g c =
    let r = c.requires.1.1 in let t = c.args.job.now.turns.now.1 in
    let e = Call c.args.edt c.args.home c.args.call c.args.answer c.args.writes in
    let can = can_call c.args.job.now.turns.now c.args.job.now.program.now c.args.edt g.s.0 g.s.1 c.args.clerk.now c.args.home c.args.call c.args.answer (private_of c.args.call (holds_at g.s.1)) c.args.writes c.args.parts.items
    r.0 r.1.0 r.1.1.1.1.0 r.1.1.0 r.1.1.1.0 r.1.1.1.1.1.0 r.1.1.1.1.1.1.0 r.1.1.1.1.1.1.1.0 r.1.1.1.1.1.1.1.1 in
    ok_then c.enter_at_work.result (EntersAs t c.args.clerk.now c.enter_at_work.new.clerk e (record { members = []; parts = c.args.parts.items })) (IsCalled c.args.edt c.args.call c.args.answer g.s.1 c.enter_at_work.new.clerk) c.enter_at_work.ensures.entered
    (λ done. call_done c.args.job.now.turns.now c.args.edt g.s.0 g.s.1 c.args.clerk.now c.enter_at_work.new.clerk c.args.home c.args.call c.args.answer c.args.writes c.args.parts.items r.1.0 r.1.1.0 can done)

pub returns-clause-others : goal.returns-clause-others
returns-clause-others g c =
    let r = c.requires.1.1 in let t = c.args.job.now.turns.now.1 in
    let e = Call c.args.edt c.args.home c.args.call c.args.answer c.args.writes in
    ok_then c.enter_at_work.result (EntersAs t c.args.clerk.now c.enter_at_work.new.clerk e (record { members = []; parts = c.args.parts.items })) (AreOthers t c.args.edt (faces_of t.limit c.args.home c.args.call ++ places_made t.limit c.args.call c.args.answer)) c.enter_at_work.ensures.entered
    (λ done. others_are c.args.job.now.turns.now c.args.job.now.program.now c.args.edt g.s.0 g.s.1 c.args.clerk.now c.args.home c.args.call c.args.answer (private_of c.args.call (holds_at g.s.1)) c.args.writes c.args.parts.items
    r.0 r.1.0 r.1.1.1.1.0 r.1.1.0 r.1.1.1.0 r.1.1.1.1.1.0 r.1.1.1.1.1.1.0 r.1.1.1.1.1.1.1.0 r.1.1.1.1.1.1.1.1)
