use Rattle.std.proofs.Common.{◌≡◌, ◌∷◌, [], ℕ, List, length, Option, ap, sym, ◌∙◌, subst}
use mathlib.Core.Option.{some}
use lib.ListN.{get_elem?}
use Rattle.ocr_machine_history.specs.declared.entry.What.{What}
use Rattle.ocr_machine_parts.specs.declared.part.Part.{Part}
use Rattle.ocr_worker_clerk.specs.Work.{HasAllAtHand, HasFewDuties, KeepsLoose}
use Rattle.ocr_worker_clerk.proofs.Units.{took_duties}
use Rattle.ocr_worker_clerk.proofs.Whole.{lifted_length, lifted_work}
use Rattle.ocr_worker_delivery.proofs.Faced.{can_face, faced, faced_delivers, faced_idle, faced_readied, kept, loose, took_all, took_once}
use Rattle.ocr_worker_delivery.proofs.Satisfied.{answers_event, coded_by, event_code, may_satisfy, names_event, sets_none}
use Rattle.ocr_worker_delivery.proofs.event.deliver_satisfaction.Goals as goal

pub take_event-requires-clause-owes : goal.take_event-requires-clause-owes
take_event-requires-clause-owes g c =
    let r = c.event_of-slot.result in let m = c.args.message in let owed = c.requires.owed in
    (r.1, r.2, (owed.0, m.place, m.index, subst (λ (x : What). get_elem? c.args.clerk.now.view.owed owed.0 ≡ some (m.place, m.index, x)) c.event_of-slot.ensures owed.1))

pub lift_parts-requires-clause-hand : goal.lift_parts-requires-clause-hand
lift_parts-requires-clause-hand g c =
    subst (λ (n : ℕ). HasAllAtHand c.take_event.new.clerk (n ∷ [])) (sym c.event.view_is)
    (took_all c.args.clerk.now c.take_event.new.clerk c.event_of-slot.result.0 c.requires.idle c.in_ok-take_event.ensures.took)

pub lift_parts-requires-clause-once : goal.lift_parts-requires-clause-once
lift_parts-requires-clause-once g c = took_once c.args.clerk.now c.take_event.new.clerk c.event_of-slot.result.0 c.requires.idle c.in_ok-take_event.ensures.took

pub enter_at_work-requires : goal.enter_at_work-requires
enter_at_work-requires g c =
    let a = c.args in let r = c.event_of-slot.result in let e = c.in_ok-take_event.ensures in let l = c.in-Ok.ensures in
    let coded = coded_by c.delivery_code-code.result c.limit.result a.job.now.turns.now.1.limit r.0 r.2 c.deref.result.now c.in-Ok.parts.items c.delivery_code-code.ensures c.limit.ensures c.deref.ensures.value in
    λ κs lives. (
      lives.0,
      (
        lives.1,
        (
          lifted_work a.job.now.turns.now a.job.now.program.now c.take_event.new.clerk c.lift_parts.new.clerk e.work l.same.0 l.same.1 l.same.2 (ap (λ (ps : List (ℕ × Option Part)). length ps) l.left ∙ lifted_length c.take_event.new.clerk.parts),
          (
            subst HasFewDuties (sym l.same.1) (took_duties a.clerk.now c.take_event.new.clerk _ c.requires.idle e.took),
            can_face a.clerk.now c.take_event.new.clerk r.0 c.requires.idle e.took a.job.now.turns.now a.job.now.program.now a.message e.work c.requires.owed e.within (event_code a.job.now.turns.now.1.limit r.0 r.2) (names_event a.clerk.now c.take_event.new.clerk r.0 c.requires.idle e.took a.job.now.turns.now a.job.now.program.now a.message e.work c.requires.owed e.within r.1 r.2 c.event_of-slot.ensures) (sets_none a.clerk.now c.take_event.new.clerk r.0 c.requires.idle e.took a.job.now.turns.now a.job.now.program.now a.message e.work c.requires.owed e.within r.1 r.2 c.event_of-slot.ensures) (may_satisfy a.clerk.now c.take_event.new.clerk r.0 c.requires.idle e.took a.job.now.turns.now a.job.now.program.now a.message e.work c.requires.owed e.within r.1 r.2 c.event_of-slot.ensures) c.lift_parts.new.clerk c.in-Ok.parts.items c.delivery_code-code.result l.same.1 l.parts coded,
          ),
        ),
      ),
    )

pub give_all-requires-clause-keeps : goal.give_all-requires-clause-keeps
give_all-requires-clause-keeps g c =
    let a = c.args in let r = c.event_of-slot.result in let e = c.in_ok-take_event.ensures in let l = c.in-Ok.ensures in
    let coded = coded_by c.delivery_code-code.result c.limit.result a.job.now.turns.now.1.limit r.0 r.2 c.deref.result.now c.in-Ok.parts.items c.delivery_code-code.ensures c.limit.ensures c.deref.ensures.value in
    subst (λ (n : ℕ). KeepsLoose a.job.now.turns.now.1 (n ∷ []) c.enter_at_work.new.clerk) (sym c.event.view_is)
    (loose a.clerk.now c.take_event.new.clerk r.0 c.requires.idle e.took a.job.now.turns.now a.job.now.program.now a.message e.work c.requires.owed e.within (event_code a.job.now.turns.now.1.limit r.0 r.2) (names_event a.clerk.now c.take_event.new.clerk r.0 c.requires.idle e.took a.job.now.turns.now a.job.now.program.now a.message e.work c.requires.owed e.within r.1 r.2 c.event_of-slot.ensures) (sets_none a.clerk.now c.take_event.new.clerk r.0 c.requires.idle e.took a.job.now.turns.now a.job.now.program.now a.message e.work c.requires.owed e.within r.1 r.2 c.event_of-slot.ensures) (may_satisfy a.clerk.now c.take_event.new.clerk r.0 c.requires.idle e.took a.job.now.turns.now a.job.now.program.now a.message e.work c.requires.owed e.within r.1 r.2 c.event_of-slot.ensures) c.lift_parts.new.clerk c.enter_at_work.new.clerk c.in-Ok.parts.items c.delivery_code-code.result l.same.1 l.left l.parts coded c.in_ok-enter_at_work.ensures.entered)

pub returns-clause-idle : goal.returns-clause-idle
returns-clause-idle g c =
    let a = c.args in let r = c.event_of-slot.result in let e = c.in_ok-take_event.ensures in let l = c.in-Ok.ensures in
    let coded = coded_by c.delivery_code-code.result c.limit.result a.job.now.turns.now.1.limit r.0 r.2 c.deref.result.now c.in-Ok.parts.items c.delivery_code-code.ensures c.limit.ensures c.deref.ensures.value in
    faced_idle a.clerk.now c.take_event.new.clerk r.0 c.requires.idle e.took a.job.now.turns.now a.job.now.program.now a.message e.work c.requires.owed e.within (event_code a.job.now.turns.now.1.limit r.0 r.2) (names_event a.clerk.now c.take_event.new.clerk r.0 c.requires.idle e.took a.job.now.turns.now a.job.now.program.now a.message e.work c.requires.owed e.within r.1 r.2 c.event_of-slot.ensures) (sets_none a.clerk.now c.take_event.new.clerk r.0 c.requires.idle e.took a.job.now.turns.now a.job.now.program.now a.message e.work c.requires.owed e.within r.1 r.2 c.event_of-slot.ensures) (may_satisfy a.clerk.now c.take_event.new.clerk r.0 c.requires.idle e.took a.job.now.turns.now a.job.now.program.now a.message e.work c.requires.owed e.within r.1 r.2 c.event_of-slot.ensures) c.lift_parts.new.clerk c.enter_at_work.new.clerk c.in-Ok.parts.items c.delivery_code-code.result l.same.1 l.left l.parts coded c.in_ok-enter_at_work.ensures.entered c.give_all.new.clerk c.give_all.ensures.view c.give_all.ensures.hand

pub returns-clause-delivered : goal.returns-clause-delivered
returns-clause-delivered g c =
    let a = c.args in let r = c.event_of-slot.result in let e = c.in_ok-take_event.ensures in let l = c.in-Ok.ensures in
    let coded = coded_by c.delivery_code-code.result c.limit.result a.job.now.turns.now.1.limit r.0 r.2 c.deref.result.now c.in-Ok.parts.items c.delivery_code-code.ensures c.limit.ensures c.deref.ensures.value in
    let it = kept a.clerk.now c.take_event.new.clerk r.0 c.requires.idle e.took a.job.now.turns.now a.job.now.program.now a.message e.work c.requires.owed e.within (event_code a.job.now.turns.now.1.limit r.0 r.2) (names_event a.clerk.now c.take_event.new.clerk r.0 c.requires.idle e.took a.job.now.turns.now a.job.now.program.now a.message e.work c.requires.owed e.within r.1 r.2 c.event_of-slot.ensures) (sets_none a.clerk.now c.take_event.new.clerk r.0 c.requires.idle e.took a.job.now.turns.now a.job.now.program.now a.message e.work c.requires.owed e.within r.1 r.2 c.event_of-slot.ensures) (may_satisfy a.clerk.now c.take_event.new.clerk r.0 c.requires.idle e.took a.job.now.turns.now a.job.now.program.now a.message e.work c.requires.owed e.within r.1 r.2 c.event_of-slot.ensures) c.lift_parts.new.clerk c.enter_at_work.new.clerk c.in-Ok.parts.items c.delivery_code-code.result l.same.1 l.left l.parts coded c.in_ok-enter_at_work.ensures.entered in
    faced_delivers a.clerk.now c.take_event.new.clerk r.0 c.requires.idle e.took a.job.now.turns.now a.job.now.program.now a.message e.work c.requires.owed e.within (event_code a.job.now.turns.now.1.limit r.0 r.2) (names_event a.clerk.now c.take_event.new.clerk r.0 c.requires.idle e.took a.job.now.turns.now a.job.now.program.now a.message e.work c.requires.owed e.within r.1 r.2 c.event_of-slot.ensures) (sets_none a.clerk.now c.take_event.new.clerk r.0 c.requires.idle e.took a.job.now.turns.now a.job.now.program.now a.message e.work c.requires.owed e.within r.1 r.2 c.event_of-slot.ensures) (may_satisfy a.clerk.now c.take_event.new.clerk r.0 c.requires.idle e.took a.job.now.turns.now a.job.now.program.now a.message e.work c.requires.owed e.within r.1 r.2 c.event_of-slot.ensures) c.lift_parts.new.clerk c.enter_at_work.new.clerk c.in-Ok.parts.items c.delivery_code-code.result l.same.1 l.left l.parts coded c.in_ok-enter_at_work.ensures.entered c.give_all.new.clerk c.give_all.ensures.view c.give_all.ensures.hand
    (answers_event a.clerk.now c.take_event.new.clerk r.0 c.requires.idle e.took a.job.now.turns.now a.job.now.program.now a.message e.work c.requires.owed e.within r.1 r.2 c.event_of-slot.ensures c.in-Ok.parts.items it.sent it.step.sends_are (faced a.clerk.now c.take_event.new.clerk r.0 c.requires.idle e.took a.job.now.turns.now a.job.now.program.now a.message e.work c.requires.owed e.within (event_code a.job.now.turns.now.1.limit r.0 r.2) (names_event a.clerk.now c.take_event.new.clerk r.0 c.requires.idle e.took a.job.now.turns.now a.job.now.program.now a.message e.work c.requires.owed e.within r.1 r.2 c.event_of-slot.ensures) (sets_none a.clerk.now c.take_event.new.clerk r.0 c.requires.idle e.took a.job.now.turns.now a.job.now.program.now a.message e.work c.requires.owed e.within r.1 r.2 c.event_of-slot.ensures) (may_satisfy a.clerk.now c.take_event.new.clerk r.0 c.requires.idle e.took a.job.now.turns.now a.job.now.program.now a.message e.work c.requires.owed e.within r.1 r.2 c.event_of-slot.ensures) c.lift_parts.new.clerk c.enter_at_work.new.clerk c.in-Ok.parts.items c.delivery_code-code.result l.same.1 l.left l.parts coded c.in_ok-enter_at_work.ensures.entered e.sees))

pub returns-clause-readied : goal.returns-clause-readied
returns-clause-readied g c =
    let a = c.args in let r = c.event_of-slot.result in let e = c.in_ok-take_event.ensures in let l = c.in-Ok.ensures in
    let coded = coded_by c.delivery_code-code.result c.limit.result a.job.now.turns.now.1.limit r.0 r.2 c.deref.result.now c.in-Ok.parts.items c.delivery_code-code.ensures c.limit.ensures c.deref.ensures.value in
    faced_readied a.clerk.now c.take_event.new.clerk r.0 c.requires.idle e.took a.job.now.turns.now a.job.now.program.now a.message e.work c.requires.owed e.within (event_code a.job.now.turns.now.1.limit r.0 r.2) (names_event a.clerk.now c.take_event.new.clerk r.0 c.requires.idle e.took a.job.now.turns.now a.job.now.program.now a.message e.work c.requires.owed e.within r.1 r.2 c.event_of-slot.ensures) (sets_none a.clerk.now c.take_event.new.clerk r.0 c.requires.idle e.took a.job.now.turns.now a.job.now.program.now a.message e.work c.requires.owed e.within r.1 r.2 c.event_of-slot.ensures) (may_satisfy a.clerk.now c.take_event.new.clerk r.0 c.requires.idle e.took a.job.now.turns.now a.job.now.program.now a.message e.work c.requires.owed e.within r.1 r.2 c.event_of-slot.ensures) c.lift_parts.new.clerk c.enter_at_work.new.clerk c.in-Ok.parts.items c.delivery_code-code.result l.same.1 l.left l.parts coded c.in_ok-enter_at_work.ensures.entered c.give_all.new.clerk c.give_all.ensures.view c.give_all.ensures.hand
