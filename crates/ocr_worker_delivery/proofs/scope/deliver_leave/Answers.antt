use Rattle.std.proofs.Common.{◌≡◌, ◌∷◌, [], ℕ, List, length, Option, refl, ap, sym, ◌∙◌, subst}
use mathlib.Core.Option.{some}
use lib.ListN.{get_elem?}
use Rattle.ocr_guid.specs.declared.Code.TheVariants as code
use Rattle.ocr_machine_history.specs.declared.entry.What.{What}
use Rattle.ocr_machine_parts.specs.declared.part.Part.{Part}
use Rattle.ocr_worker_clerk.specs.Work.{HasAllAtHand, HasFewDuties, KeepsLoose}
use Rattle.ocr_worker_clerk.proofs.Units.{took_duties}
use Rattle.ocr_worker_clerk.proofs.Whole.{lifted_length, lifted_work}
use Rattle.ocr_worker_delivery.proofs.Faced.{can_face, faced, faced_delivers, faced_idle, faced_readied, kept, loose, took_all, took_once}
use Rattle.ocr_worker_delivery.proofs.Left.{answers_scope, leaves_none, left_code, may_leave, names_scope}
use Rattle.ocr_worker_delivery.proofs.scope.deliver_leave.Goals as goal

pub take_scope-requires-clause-owes : goal.take_scope-requires-clause-owes
take_scope-requires-clause-owes g c =
    let m = c.args.message in let owed = c.requires.owed in
    (owed.0, m.place, m.index, subst (λ (x : What). get_elem? c.args.clerk.now.view.owed owed.0 ≡ some (m.place, m.index, x)) c.scope_of-scope.ensures owed.1)

pub lift_parts-requires-clause-hand : goal.lift_parts-requires-clause-hand
lift_parts-requires-clause-hand g c =
    subst (λ (n : ℕ). HasAllAtHand c.take_scope.new.clerk (n ∷ [])) (sym c.scope.view_is)
    (took_all c.args.clerk.now c.take_scope.new.clerk c.scope_of-scope.result c.requires.idle c.in_ok-take_scope.ensures.took)

pub lift_parts-requires-clause-once : goal.lift_parts-requires-clause-once
lift_parts-requires-clause-once g c = took_once c.args.clerk.now c.take_scope.new.clerk c.scope_of-scope.result c.requires.idle c.in_ok-take_scope.ensures.took

pub enter_at_work-requires : goal.enter_at_work-requires
enter_at_work-requires g c =
    let a = c.args in let r = c.scope_of-scope.result in let e = c.in_ok-take_scope.ensures in let l = c.in-Ok.ensures in
    λ κs lives. (
      lives.0,
      (
        lives.1,
        (
          lifted_work a.job.now.turns.now a.job.now.program.now c.take_scope.new.clerk c.lift_parts.new.clerk e.work l.same.0 l.same.1 l.same.2 (ap (λ (ps : List (ℕ × Option Part)). length ps) l.left ∙ lifted_length c.take_scope.new.clerk.parts),
          (
            subst HasFewDuties (sym l.same.1) (took_duties a.clerk.now c.take_scope.new.clerk _ c.requires.idle e.took),
            can_face a.clerk.now c.take_scope.new.clerk r c.requires.idle e.took a.job.now.turns.now a.job.now.program.now a.message e.work c.requires.owed e.within left_code (names_scope a.clerk.now c.take_scope.new.clerk r c.requires.idle e.took a.job.now.turns.now a.job.now.program.now a.message e.work c.requires.owed e.within c.scope_of-scope.ensures) (leaves_none a.clerk.now c.take_scope.new.clerk r c.requires.idle e.took a.job.now.turns.now a.job.now.program.now a.message e.work c.requires.owed e.within c.scope_of-scope.ensures) (may_leave a.clerk.now c.take_scope.new.clerk r c.requires.idle e.took a.job.now.turns.now a.job.now.program.now a.message e.work c.requires.owed e.within c.scope_of-scope.ensures) c.lift_parts.new.clerk c.in-Ok.parts.items code.Done l.same.1 l.parts refl,
          ),
        ),
      ),
    )

pub give_all-requires-clause-keeps : goal.give_all-requires-clause-keeps
give_all-requires-clause-keeps g c =
    let a = c.args in let r = c.scope_of-scope.result in let e = c.in_ok-take_scope.ensures in let l = c.in-Ok.ensures in
    subst (λ (n : ℕ). KeepsLoose a.job.now.turns.now.1 (n ∷ []) c.enter_at_work.new.clerk) (sym c.scope.view_is)
    (loose a.clerk.now c.take_scope.new.clerk r c.requires.idle e.took a.job.now.turns.now a.job.now.program.now a.message e.work c.requires.owed e.within left_code (names_scope a.clerk.now c.take_scope.new.clerk r c.requires.idle e.took a.job.now.turns.now a.job.now.program.now a.message e.work c.requires.owed e.within c.scope_of-scope.ensures) (leaves_none a.clerk.now c.take_scope.new.clerk r c.requires.idle e.took a.job.now.turns.now a.job.now.program.now a.message e.work c.requires.owed e.within c.scope_of-scope.ensures) (may_leave a.clerk.now c.take_scope.new.clerk r c.requires.idle e.took a.job.now.turns.now a.job.now.program.now a.message e.work c.requires.owed e.within c.scope_of-scope.ensures) c.lift_parts.new.clerk c.enter_at_work.new.clerk c.in-Ok.parts.items code.Done l.same.1 l.left l.parts refl c.in_ok-enter_at_work.ensures.entered)

pub returns-clause-idle : goal.returns-clause-idle
returns-clause-idle g c =
    let a = c.args in let r = c.scope_of-scope.result in let e = c.in_ok-take_scope.ensures in let l = c.in-Ok.ensures in
    faced_idle a.clerk.now c.take_scope.new.clerk r c.requires.idle e.took a.job.now.turns.now a.job.now.program.now a.message e.work c.requires.owed e.within left_code (names_scope a.clerk.now c.take_scope.new.clerk r c.requires.idle e.took a.job.now.turns.now a.job.now.program.now a.message e.work c.requires.owed e.within c.scope_of-scope.ensures) (leaves_none a.clerk.now c.take_scope.new.clerk r c.requires.idle e.took a.job.now.turns.now a.job.now.program.now a.message e.work c.requires.owed e.within c.scope_of-scope.ensures) (may_leave a.clerk.now c.take_scope.new.clerk r c.requires.idle e.took a.job.now.turns.now a.job.now.program.now a.message e.work c.requires.owed e.within c.scope_of-scope.ensures) c.lift_parts.new.clerk c.enter_at_work.new.clerk c.in-Ok.parts.items code.Done l.same.1 l.left l.parts refl c.in_ok-enter_at_work.ensures.entered c.give_all.new.clerk c.give_all.ensures.view c.give_all.ensures.hand

pub returns-clause-delivered : goal.returns-clause-delivered
returns-clause-delivered g c =
    let a = c.args in let r = c.scope_of-scope.result in let e = c.in_ok-take_scope.ensures in let l = c.in-Ok.ensures in
    let it = kept a.clerk.now c.take_scope.new.clerk r c.requires.idle e.took a.job.now.turns.now a.job.now.program.now a.message e.work c.requires.owed e.within left_code (names_scope a.clerk.now c.take_scope.new.clerk r c.requires.idle e.took a.job.now.turns.now a.job.now.program.now a.message e.work c.requires.owed e.within c.scope_of-scope.ensures) (leaves_none a.clerk.now c.take_scope.new.clerk r c.requires.idle e.took a.job.now.turns.now a.job.now.program.now a.message e.work c.requires.owed e.within c.scope_of-scope.ensures) (may_leave a.clerk.now c.take_scope.new.clerk r c.requires.idle e.took a.job.now.turns.now a.job.now.program.now a.message e.work c.requires.owed e.within c.scope_of-scope.ensures) c.lift_parts.new.clerk c.enter_at_work.new.clerk c.in-Ok.parts.items code.Done l.same.1 l.left l.parts refl c.in_ok-enter_at_work.ensures.entered in
    faced_delivers a.clerk.now c.take_scope.new.clerk r c.requires.idle e.took a.job.now.turns.now a.job.now.program.now a.message e.work c.requires.owed e.within left_code (names_scope a.clerk.now c.take_scope.new.clerk r c.requires.idle e.took a.job.now.turns.now a.job.now.program.now a.message e.work c.requires.owed e.within c.scope_of-scope.ensures) (leaves_none a.clerk.now c.take_scope.new.clerk r c.requires.idle e.took a.job.now.turns.now a.job.now.program.now a.message e.work c.requires.owed e.within c.scope_of-scope.ensures) (may_leave a.clerk.now c.take_scope.new.clerk r c.requires.idle e.took a.job.now.turns.now a.job.now.program.now a.message e.work c.requires.owed e.within c.scope_of-scope.ensures) c.lift_parts.new.clerk c.enter_at_work.new.clerk c.in-Ok.parts.items code.Done l.same.1 l.left l.parts refl c.in_ok-enter_at_work.ensures.entered c.give_all.new.clerk c.give_all.ensures.view c.give_all.ensures.hand
    (answers_scope a.clerk.now c.take_scope.new.clerk r c.requires.idle e.took a.job.now.turns.now a.job.now.program.now a.message e.work c.requires.owed e.within c.scope_of-scope.ensures c.in-Ok.parts.items it.sent it.step.sends_are (faced a.clerk.now c.take_scope.new.clerk r c.requires.idle e.took a.job.now.turns.now a.job.now.program.now a.message e.work c.requires.owed e.within left_code (names_scope a.clerk.now c.take_scope.new.clerk r c.requires.idle e.took a.job.now.turns.now a.job.now.program.now a.message e.work c.requires.owed e.within c.scope_of-scope.ensures) (leaves_none a.clerk.now c.take_scope.new.clerk r c.requires.idle e.took a.job.now.turns.now a.job.now.program.now a.message e.work c.requires.owed e.within c.scope_of-scope.ensures) (may_leave a.clerk.now c.take_scope.new.clerk r c.requires.idle e.took a.job.now.turns.now a.job.now.program.now a.message e.work c.requires.owed e.within c.scope_of-scope.ensures) c.lift_parts.new.clerk c.enter_at_work.new.clerk c.in-Ok.parts.items code.Done l.same.1 l.left l.parts refl c.in_ok-enter_at_work.ensures.entered e.sees))

pub returns-clause-readied : goal.returns-clause-readied
returns-clause-readied g c =
    let a = c.args in let r = c.scope_of-scope.result in let e = c.in_ok-take_scope.ensures in let l = c.in-Ok.ensures in
    faced_readied a.clerk.now c.take_scope.new.clerk r c.requires.idle e.took a.job.now.turns.now a.job.now.program.now a.message e.work c.requires.owed e.within left_code (names_scope a.clerk.now c.take_scope.new.clerk r c.requires.idle e.took a.job.now.turns.now a.job.now.program.now a.message e.work c.requires.owed e.within c.scope_of-scope.ensures) (leaves_none a.clerk.now c.take_scope.new.clerk r c.requires.idle e.took a.job.now.turns.now a.job.now.program.now a.message e.work c.requires.owed e.within c.scope_of-scope.ensures) (may_leave a.clerk.now c.take_scope.new.clerk r c.requires.idle e.took a.job.now.turns.now a.job.now.program.now a.message e.work c.requires.owed e.within c.scope_of-scope.ensures) c.lift_parts.new.clerk c.enter_at_work.new.clerk c.in-Ok.parts.items code.Done l.same.1 l.left l.parts refl c.in_ok-enter_at_work.ensures.entered c.give_all.new.clerk c.give_all.ensures.view c.give_all.ensures.hand
