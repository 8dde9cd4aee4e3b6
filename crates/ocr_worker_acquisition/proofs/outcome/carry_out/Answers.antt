use Rattle.std.proofs.Common.{◌+◌, ◌∷◌, [], ◌∙◌, Bool, ap, sym}
use Rattle.ocr_machine_parts.specs.declared.part.Part.TheVariants as part
use Rattle.ocr_turns_rule.specs.Sums.{keys}
use Rattle.ocr_worker_clerk.proofs.Whole.{lifted_work}
use Rattle.ocr_worker_acquisition.specs.Block.{pair_of}
use Rattle.ocr_worker_acquisition.proofs.Carries.{meets_now, ready_at_place}
use Rattle.ocr_worker_acquisition.proofs.Takes.{taken_on_still}
use Rattle.ocr_worker_acquisition.proofs.outcome.carry_out.Goals as goal

pub enter_act-requires : goal.enter_act-requires
enter_act-requires g c =
    let r = c.requires.1.1 in let job = c.args.job.now in let t = job.turns.now.1 in let old = c.args.clerk.now in let new = c.put_ready.new.clerk in let e = c.in-Ok.ensures in
    let carries = r.1.1.1 in
    let work = lifted_work job.turns.now job.program.now old new r.0 e.same.0 e.same.1 e.same.2 e.same.3 in
    let taken = taken_on_still t c.args.edt old new old.view.parts carries.can.knows.three.taken e.same.1 in
    let ready = ready_at_place old.parts new.parts (c.limit.result + c.edt.inside.0) (t.limit + c.args.edt) c.args.edt c.args.payloads.now (λ i. c.limit.ensures i + c.edt.view_is i) e.ready in
    let meets = meets_now t c.args.edt c.args.block c.args.first c.args.payloads.now c.args.act g.h old new _ r.1.0 r.1.1.0 carries e.same.1 ready
    (ap (λ (b : Bool). (t.limit + c.args.edt) ∷ keys (pair_of b c.args.edt c.args.block part.Vacant part.Vacant)) c.if-first.true ∙ (λ i. (sym c.limit.ensures i + sym c.edt.view_is i) ∷ sym c.block.view_is i ∷ sym c.edt-then-first.view_is i ∷ [])) in
    λ κs lives. (lives.0, (lives.1, (work, (taken, meets))))

pub enter_act-requires-2 : goal.enter_act-requires-2
enter_act-requires-2 g c =
    let r = c.requires.1.1 in let job = c.args.job.now in let t = job.turns.now.1 in let old = c.args.clerk.now in let new = c.put_ready.new.clerk in let e = c.in-Ok.ensures in
    let carries = r.1.1.1 in
    let work = lifted_work job.turns.now job.program.now old new r.0 e.same.0 e.same.1 e.same.2 e.same.3 in
    let taken = taken_on_still t c.args.edt old new old.view.parts carries.can.knows.three.taken e.same.1 in
    let ready = ready_at_place old.parts new.parts (c.limit.result + c.edt.inside.0) (t.limit + c.args.edt) c.args.edt c.args.payloads.now (λ i. c.limit.ensures i + c.edt.view_is i) e.ready in
    let meets = meets_now t c.args.edt c.args.block c.args.first c.args.payloads.now c.args.act g.h old new _ r.1.0 r.1.1.0 carries e.same.1 ready
    (ap (λ (b : Bool). (t.limit + c.args.edt) ∷ keys (pair_of b c.args.edt c.args.block part.Vacant part.Vacant)) c.if-first.false ∙ (λ i. (sym c.limit.ensures i + sym c.edt.view_is i) ∷ sym c.edt-2.view_is i ∷ sym c.block-2.view_is i ∷ [])) in
    λ κs lives. (lives.0, (lives.1, (work, (taken, meets))))
