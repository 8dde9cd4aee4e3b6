use Rattle.std.proofs.Common.{◌≡◌, ◌∙◌, ◌+◌, ◌∷◌, [], ℕ, List, refl, sym, subst}
use Rattle.ocr_machine_parts.specs.Progress.{core_after}
use Rattle.ocr_datablock.specs.Lent.{after_list_writes}
use Rattle.ocr_machine_history.specs.declared.entry.Entry.TheVariants.{Free}
use Rattle.ocr_worker_machine.specs.Ocr.{wakes}
use Rattle.ocr_worker_clerk.specs.Work.{Took}
use Rattle.ocr_worker_clerk.proofs.Push.{pushes_ok}
use Rattle.ocr_worker_access.specs.Access.{AreOthers, HasEntered, Runs, first_in, held_at}
use Rattle.ocr_edt.specs.Phases.{without}
use Rattle.ocr_worker_body.specs.Body.{HasReturned}
use Rattle.ocr_worker_body.specs.Start.{StepsCore}
use Rattle.ocr_worker_body.proofs.Freed.{can_then, duties_then, entered_then, has_then, held_then, others_then, place_then, readied_then, returned_then, room_then, work_then}
use Rattle.ocr_worker_body.proofs.Returns.{ok_three}
use Rattle.ocr_worker_body.proofs.frees.free.Goals as goal

pub close_memory-requires : goal.close_memory-requires
close_memory-requires g c =
    let a = c.args in let r = c.requires.1.1 in
    let steps = subst (λ (n : ℕ). StepsCore n (core_after after_list_writes a.block) a.clerk.now c.list_writes.new.clerk) (λ i. c.limit.ensures i + c.edt.view_is i) c.list_writes.ensures.core in
    record { work = work_then a.job.now.turns.now a.job.now.program.now a.edt a.block g.b a.clerk.now c.list_writes.new.clerk r.0 r.1.0.0 r.1.0.1 r.1.1 steps }

pub take_part-requires-clause-work : goal.take_part-requires-clause-work
take_part-requires-clause-work g c =
    let a = c.args in let r = c.requires.1.1 in
    let steps = subst (λ (n : ℕ). StepsCore n (core_after after_list_writes a.block) a.clerk.now c.list_writes.new.clerk) (λ i. c.limit.ensures i + c.edt.view_is i) c.list_writes.ensures.core in
    work_then a.job.now.turns.now a.job.now.program.now a.edt a.block g.b a.clerk.now c.list_writes.new.clerk r.0 r.1.0.0 r.1.0.1 r.1.1 steps

pub take_part-requires-clause-place : goal.take_part-requires-clause-place
take_part-requires-clause-place g c =
    let a = c.args in let r = c.requires.1.1 in
    let steps = subst (λ (n : ℕ). StepsCore n (core_after after_list_writes a.block) a.clerk.now c.list_writes.new.clerk) (λ i. c.limit.ensures i + c.edt.view_is i) c.list_writes.ensures.core in
    place_then a.job.now.turns.now a.job.now.program.now a.edt a.block g.b a.clerk.now c.list_writes.new.clerk r.0 r.1.0.0 r.1.0.1 r.1.1 steps c.block.inside.0 c.block.view_is

pub take_part-requires-clause-room : goal.take_part-requires-clause-room
take_part-requires-clause-room g c =
    let a = c.args in let r = c.requires.1.1 in
    let steps = subst (λ (n : ℕ). StepsCore n (core_after after_list_writes a.block) a.clerk.now c.list_writes.new.clerk) (λ i. c.limit.ensures i + c.edt.view_is i) c.list_writes.ensures.core in
    room_then a.job.now.turns.now a.job.now.program.now a.edt a.block g.b a.clerk.now c.list_writes.new.clerk r.0 r.1.0.0 r.1.0.1 r.1.1 steps

pub enter_kept-requires : goal.enter_kept-requires
enter_kept-requires g c κs within =
    let a = c.args in let r = c.requires.1.1 in let t = c.in_ok-take_part.ensures in
    let steps = subst (λ (n : ℕ). StepsCore n (core_after after_list_writes a.block) a.clerk.now c.list_writes.new.clerk) (λ i. c.limit.ensures i + c.edt.view_is i) c.list_writes.ensures.core in
    let took = subst (λ (n : ℕ). Took c.list_writes.new.clerk c.take_part.new.clerk (n ∷ [])) c.block.view_is t.took in (
      within.0,
      (
        within.1,
        (
          t.work,
          (
            has_then a.job.now.turns.now a.job.now.program.now a.edt a.block g.b a.clerk.now c.list_writes.new.clerk r.0 r.1.0.0 r.1.0.1 r.1.1 steps c.take_part.new.clerk t.work took c.in-Ok.writes ((c.limit.result + c.edt.inside.0) ∷ c.block.inside.0 ∷ []) (λ i. (c.limit.ensures i + c.edt.view_is i) ∷ c.block.view_is i ∷ []),
            (duties_then a.job.now.turns.now a.job.now.program.now a.edt a.block g.b a.clerk.now c.list_writes.new.clerk r.0 r.1.0.0 r.1.0.1 r.1.1 steps c.take_part.new.clerk t.work took c.in-Ok.writes, can_then a.job.now.turns.now a.job.now.program.now a.edt a.block g.b a.clerk.now c.list_writes.new.clerk r.0 r.1.0.0 r.1.0.1 r.1.1 steps c.take_part.new.clerk t.work took c.in-Ok.writes c.in-Ok.ensures.writes),
          ),
        ),
      ),
    )

pub conclude-requires : goal.conclude-requires
conclude-requires g c κs within =
    let a = c.args in let r = c.requires.1.1 in let t = c.in_ok-take_part.ensures in let e = c.in_ok-resumed.ensures in
    let steps = subst (λ (n : ℕ). StepsCore n (core_after after_list_writes a.block) a.clerk.now c.list_writes.new.clerk) (λ i. c.limit.ensures i + c.edt.view_is i) c.list_writes.ensures.core in
    let took = subst (λ (n : ℕ). Took c.list_writes.new.clerk c.take_part.new.clerk (n ∷ [])) c.block.view_is t.took in
    let entered = entered_then a.job.now.turns.now a.job.now.program.now a.edt a.block g.b a.clerk.now c.list_writes.new.clerk r.0 r.1.0.0 r.1.0.1 r.1.1 steps c.take_part.new.clerk t.work took c.in-Ok.writes c.enter_kept.new.clerk e.entered in
    let others = others_then a.job.now.turns.now a.job.now.program.now a.edt a.block g.b a.clerk.now c.list_writes.new.clerk r.0 r.1.0.0 r.1.0.1 r.1.1 steps c.take_part.new.clerk t.work took c.in-Ok.writes in (
      within.0,
      (
        within.1,
        (
          (refl, refl),
          (
            e.work,
            (
              subst (λ (rs : List ℕ). HasEntered a.job.now.turns.now.1 a.edt g.b c.enter_kept.new.clerk (c.block.inside.0 ∷ []) [] rs) (sym (c.deref.ensures.value ∙ e.resumed))
                  (subst (λ (n : ℕ). HasEntered a.job.now.turns.now.1 a.edt g.b c.enter_kept.new.clerk (n ∷ []) [] (wakes a.job.now.turns.now.1.limit (Free a.edt a.block c.in-Ok.writes) c.take_part.new.clerk.view.parts)) (sym c.block.view_is) entered),
              subst (λ (n : ℕ). AreOthers a.job.now.turns.now.1 a.edt (n ∷ [])) (sym c.block.view_is) others,
            ),
          ),
        ),
      ),
    )

pub returns-clause-returned : goal.returns-clause-returned
returns-clause-returned g c =
    let a = c.args in let r = c.requires.1.1 in let t = c.in_ok-take_part.ensures in let e = c.in_ok-resumed.ensures in
    let T = a.job.now.turns.now in let new = c.conclude.new.clerk in let mid = c.enter_kept.new.clerk in
    let steps = subst (λ (n : ℕ). StepsCore n (core_after after_list_writes a.block) a.clerk.now c.list_writes.new.clerk) (λ i. c.limit.ensures i + c.edt.view_is i) c.list_writes.ensures.core in
    let took = subst (λ (n : ℕ). Took c.list_writes.new.clerk c.take_part.new.clerk (n ∷ [])) c.block.view_is t.took in
    ok_three c.conclude.result (Runs T.1 a.edt g.b new) (new.view.log ≡ mid.view.log) (first_in new.parts ≡ first_in mid.parts) ((n : ℕ) → HasReturned T.1 a.edt g.b n a.clerk.now → HasReturned T.1 a.edt g.b n new) c.conclude.ensures.runs c.conclude.ensures.log c.conclude.ensures.core
    (λ runs log core. returned_then a.job.now.turns.now a.job.now.program.now a.edt a.block g.b a.clerk.now c.list_writes.new.clerk r.0 r.1.0.0 r.1.0.1 r.1.1 steps c.take_part.new.clerk t.work took c.in-Ok.writes mid e.entered new runs log core)

pub returns-clause-held : goal.returns-clause-held
returns-clause-held g c =
    let a = c.args in let r = c.requires.1.1 in let t = c.in_ok-take_part.ensures in let e = c.in_ok-resumed.ensures in
    let T = a.job.now.turns.now in let new = c.conclude.new.clerk in let mid = c.enter_kept.new.clerk in
    let steps = subst (λ (n : ℕ). StepsCore n (core_after after_list_writes a.block) a.clerk.now c.list_writes.new.clerk) (λ i. c.limit.ensures i + c.edt.view_is i) c.list_writes.ensures.core in
    let took = subst (λ (n : ℕ). Took c.list_writes.new.clerk c.take_part.new.clerk (n ∷ [])) c.block.view_is t.took in
    ok_three c.conclude.result (Runs T.1 a.edt g.b new) (new.view.log ≡ mid.view.log) (first_in new.parts ≡ first_in mid.parts) (held_at new ≡ without a.block (held_at a.clerk.now)) c.conclude.ensures.runs c.conclude.ensures.log c.conclude.ensures.core
    (λ runs log core. held_then a.job.now.turns.now a.job.now.program.now a.edt a.block g.b a.clerk.now c.list_writes.new.clerk r.0 r.1.0.0 r.1.0.1 r.1.1 steps c.take_part.new.clerk t.work took c.in-Ok.writes mid e.entered new runs log core)

pub returns-clause-pushed : goal.returns-clause-pushed
returns-clause-pushed g c =
    let a = c.args in let r = c.requires.1.1 in let t = c.in_ok-take_part.ensures in let e = c.in_ok-resumed.ensures in
    let new = c.conclude.new.clerk in let mid = c.enter_kept.new.clerk in
    let steps = subst (λ (n : ℕ). StepsCore n (core_after after_list_writes a.block) a.clerk.now c.list_writes.new.clerk) (λ i. c.limit.ensures i + c.edt.view_is i) c.list_writes.ensures.core in
    let took = subst (λ (n : ℕ). Took c.list_writes.new.clerk c.take_part.new.clerk (n ∷ [])) c.block.view_is t.took in
    pushes_ok c.conclude.result a.clerk.now mid new a.hand.now c.conclude.new.hand (readied_then a.job.now.turns.now a.job.now.program.now a.edt a.block g.b a.clerk.now c.list_writes.new.clerk r.0 r.1.0.0 r.1.0.1 r.1.1 steps c.take_part.new.clerk t.work took c.in-Ok.writes mid e.entered) c.conclude.ensures.pushed
