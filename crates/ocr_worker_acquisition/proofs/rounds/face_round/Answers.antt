use Rattle.std.proofs.Common.{◌∙◌, ◌∷◌, [], ℕ, List, Option, Some, None, ap, subst, sym}
use Rattle.ocr_worker_machine.specs.Clerks.{OcrView}
use Rattle.ocr_worker_clerk.specs.Entry.{OcrKnown}
use Rattle.ocr_worker_clerk.specs.Work.{CanRun, Took}
use Rattle.ocr_worker_clerk.proofs.Push.{took_readies}
use Rattle.ocr_worker_acquisition.specs.Rounds.{PlansNext}
use Rattle.ocr_worker_acquisition.proofs.Faces.{after_wants, can_run, faced, none_is}
use Rattle.ocr_worker_acquisition.proofs.Holds.{core_can, take_ready}
use Rattle.ocr_worker_acquisition.proofs.rounds.face_round.Goals as goal

pub read_face-requires-clause-face : goal.read_face-requires-clause-face
read_face-requires-clause-face g c =
    let table = c.args.job.now.turns.now in let program = c.args.job.now.program.now in let e = c.in_ok-take_part.ensures in
    let old = c.args.clerk.now in let new = c.take_part.new.clerk in
    let took : Took old new (c.args.edt ∷ []) = subst (λ (n : ℕ). Took old new (n ∷ [])) c.edt.view_is e.took in
    let ready = take_ready table program c.args.edt c.args.edt old new (core_can table program c.args.edt old c.requires.work c.requires.holds.holds) e.work took e.sees in
    faced table.1 c.args.edt old new c.requires.holds took ready.0 ready.1

pub returns-in-Some-clause-after : goal.returns-in-Some-clause-after
returns-in-Some-clause-after g c =
    let table = c.args.job.now.turns.now in let e = c.in_ok-payloads.ensures in let known = c.read_face.new.clerk in let payloads = c.as_slice-known.result.now in
    let plans : PlansNext table.1 c.args.edt payloads (Some c.in-Some.block) known = subst (λ (o : Option ℕ). PlansNext table.1 c.args.edt payloads o known) c.in-Some.is c.in_ok-next.ensures.next in
    after_wants table c.args.job.now.program.now c.args.edt c.in-Some.block payloads known c.plan_next.new.clerk c.give_faces.new.clerk e.work e.sees plans c.in_ok-next.ensures.same c.give_faces.ensures.table c.give_faces.ensures.view c.give_faces.ensures.hand

pub returns-clause-after : goal.returns-clause-after
returns-clause-after g c =
    let table = c.args.job.now.turns.now in let e = c.in_ok-payloads.ensures in let known = c.read_face.new.clerk in let payloads = c.as_slice-known.result.now in
    let plans : PlansNext table.1 c.args.edt payloads None known =
    subst (λ (o : Option ℕ). PlansNext table.1 c.args.edt payloads o known) (none_is c.in_ok-next.next (λ x is. c.in_default.not-Some x is)) c.in_ok-next.ensures.next in
    subst (λ (x : OcrKnown). CanRun table.1 c.args.edt c.in_ok-payloads.payloads.items x) (sym c.in_ok-next.ensures.same)
    (subst (λ (l : List ℕ). CanRun table.1 c.args.edt l known) c.as_slice-known.ensures
    (can_run table c.args.job.now.program.now c.args.edt payloads known e.work e.sees plans))

pub returns-in-Some-clause-readied : goal.returns-in-Some-clause-readied
returns-in-Some-clause-readied g c =
    ap (λ (v : OcrView). v.debts.readied) c.give_faces.ensures.view
    ∙ (ap (λ (k : OcrKnown). k.view.debts.readied) c.in_ok-next.ensures.same
    ∙ (c.in_ok-payloads.ensures.readied ∙ took_readies c.args.clerk.now c.take_part.new.clerk _ c.in_ok-take_part.ensures.took))

pub returns-clause-readied : goal.returns-clause-readied
returns-clause-readied g c =
    ap (λ (k : OcrKnown). k.view.debts.readied) c.in_ok-next.ensures.same
    ∙ (c.in_ok-payloads.ensures.readied ∙ took_readies c.args.clerk.now c.take_part.new.clerk _ c.in_ok-take_part.ensures.took)
