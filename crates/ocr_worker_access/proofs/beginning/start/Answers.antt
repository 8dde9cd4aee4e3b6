use Rattle.std.proofs.Common.{◌≡◌, ◌+◌, ◌∷◌, [], ℕ, List, length, refl, ap, sym, subst, arith}
use Rattle.ocr_machine_history.specs.declared.entry.Entry.TheVariants.{Start}
use Rattle.ocr_machine_history.specs.declared.entry.What.{What}
use Rattle.ocr_worker_machine.specs.Clerks.{IsStep}
use Rattle.ocr_worker_clerk.specs.Work.{HasFewDuties, KeepsFaces, in_hand}
use Rattle.ocr_worker_clerk.proofs.Units.{taken_duties}
use Rattle.ocr_worker_access.proofs.Back.{has_taken, keeps_faces}
use Rattle.ocr_worker_access.proofs.Readied.{entered_none}
use Rattle.ocr_worker_access.proofs.Started.{begun, begun_leaves, can_put, face_within, started_at_hand, started_can, started_kept, started_step, started_work}
use Rattle.ocr_worker_access.proofs.beginning.start.Goals as goal

pub put_started-requires : goal.put_started-requires
put_started-requires g c =
    let r = c.requires.1.1 in let table = c.args.job.now.turns.now in
    record { can = can_put table c.args.job.now.program.now c.args.edt c.args.payloads.now c.args.clerk.now r.1.0 r.1.1 (c.limit.result + c.edt.inside.0) (λ i. c.limit.ensures i + c.edt.view_is i) }

pub enter_at_hand-requires : goal.enter_at_hand-requires
enter_at_hand-requires g c κs within =
    let r = c.requires.1.1 in let table = c.args.job.now.turns.now in let program = c.args.job.now.program.now in let edt = c.args.edt in let paid = c.args.payloads.now in let old = c.args.clerk.now in
    let mid = c.put_started.new.clerk in let place = c.limit.result + c.edt.inside.0 in
    let at : place ≡ table.1.limit + edt = λ i. c.limit.ensures i + c.edt.view_is i in
    let same = c.in-Ok.ensures.same in let put = c.in-Ok.ensures.started in
    let none = c.new.ensures.items in (
      within.0,
      (
        within.1,
        (
          started_work table program edt paid old mid g.h r.1.0 r.1.1 r.0 place at same put,
          (
            started_at_hand table program edt paid old mid g.h r.1.0 r.1.1 r.0 place at same put,
            (
              started_can table program edt paid old mid g.h r.1.0 r.1.1 r.0 place at same put,
              (
                subst (λ (l : List What). IsStep table.1.limit (Start edt) g.h.members g.h.parts (in_hand mid.parts) l) (sym none) (started_step table program edt paid old mid g.h r.1.0 r.1.1 r.0 place at same put),
                (
                  (let l = ap (λ (l : List What). length l) none in omega (arith, l)),
                  (subst HasFewDuties (sym same.1) (taken_duties table.1 edt old r.1.1.taken), refl),
                ),
              ),
            ),
          ),
        ),
      ),
    )

pub give_faces-requires-clause-taken : goal.give_faces-requires-clause-taken
give_faces-requires-clause-taken g c =
    let r = c.requires.1.1 in let table = c.args.job.now.turns.now in let program = c.args.job.now.program.now in let edt = c.args.edt in let paid = c.args.payloads.now in let old = c.args.clerk.now in let new = c.enter_at_hand.new.clerk in
    let at : c.limit.result + c.edt.inside.0 ≡ table.1.limit + edt = λ i. c.limit.ensures i + c.edt.view_is i in
    let kept = started_kept table program edt paid old c.put_started.new.clerk g.h r.1.0 r.1.1 r.0 (c.limit.result + c.edt.inside.0) at c.in-Ok.ensures.same c.in-Ok.ensures.started new c.in_ok-enter_at_hand.ensures.entered in
    has_taken table.1 edt _ new (edt ∷ []) (begun_leaves table program edt paid old new g.h r.1.0 r.1.1 r.0 kept)

pub give_faces-requires-clause-keeps : goal.give_faces-requires-clause-keeps
give_faces-requires-clause-keeps g c =
    let r = c.requires.1.1 in let table = c.args.job.now.turns.now in let program = c.args.job.now.program.now in let edt = c.args.edt in let paid = c.args.payloads.now in let old = c.args.clerk.now in let new = c.enter_at_hand.new.clerk in
    let at : c.limit.result + c.edt.inside.0 ≡ table.1.limit + edt = λ i. c.limit.ensures i + c.edt.view_is i in
    let kept = started_kept table program edt paid old c.put_started.new.clerk g.h r.1.0 r.1.1 r.0 (c.limit.result + c.edt.inside.0) at c.in-Ok.ensures.same c.in-Ok.ensures.started new c.in_ok-enter_at_hand.ensures.entered in
    subst (λ (ns : List ℕ). KeepsFaces table.1 edt ns new) (sym (ap (λ (n : ℕ). n ∷ []) c.edt.view_is))
    (keeps_faces table.1 edt _ new (edt ∷ []) (begun_leaves table program edt paid old new g.h r.1.0 r.1.1 r.0 kept) (face_within table program edt paid old new g.h r.1.0 r.1.1 r.0 kept))

pub returns-clause-begun : goal.returns-clause-begun
returns-clause-begun g c =
    let r = c.requires.1.1 in let table = c.args.job.now.turns.now in let program = c.args.job.now.program.now in let edt = c.args.edt in let paid = c.args.payloads.now in let old = c.args.clerk.now in let new = c.enter_at_hand.new.clerk in
    let at : c.limit.result + c.edt.inside.0 ≡ table.1.limit + edt = λ i. c.limit.ensures i + c.edt.view_is i in
    let kept = started_kept table program edt paid old c.put_started.new.clerk g.h r.1.0 r.1.1 r.0 (c.limit.result + c.edt.inside.0) at c.in-Ok.ensures.same c.in-Ok.ensures.started new c.in_ok-enter_at_hand.ensures.entered in
    begun table program edt paid old new g.h r.1.0 r.1.1 r.0 kept c.give_faces.new.clerk c.give_faces.ensures.view c.give_faces.ensures.hand

pub returns-clause-readied : goal.returns-clause-readied
returns-clause-readied g c = entered_none c.args.job.now.turns.now.1 c.args.clerk.now c.put_started.new.clerk c.enter_at_hand.new.clerk c.give_faces.new.clerk (Start c.args.edt) g.h _ c.in-Ok.ensures.same.1 c.in_ok-enter_at_hand.ensures.entered c.give_faces.ensures.view
