use Rattle.std.specs.Prelude.{IfErr, IfOk}
use Rattle.std.proofs.Common.{Result, ◌≡◌, ◌⊎◌, ℕ, refl, subst}
use Rattle.ocr_body_meaning.specs.Behaviour.{Stops}
use Rattle.ocr_body_meaning.specs.Body.{says}
use Rattle.ocr_body_meaning.specs.Laws.{IsSaid}
use Rattle.ocr_body_meaning.specs.declared.call.BodyStop.{BodyStop}
use Rattle.ocr_body_meaning.specs.declared.call.BodyStop.TheVariants as stop
use Rattle.ocr_worker_clerk.proofs.Push.{then_none}
use Rattle.ocr_worker_access.specs.Served.{own_log}
use Rattle.ocr_worker_body.specs.Body.{HasReturned}
use Rattle.ocr_worker_body.proofs.Desks.{on_ok_then}
use Rattle.ocr_worker_body.proofs.body.end_body.Goals as goal

pub stop_body-requires : goal.stop_body-requires
stop_body-requires g c κs within =
    let a = c.args in let r = c.requires.1.1 in
    let cause = subst (λ (e : Result ℕ BodyStop). IfErr e (λ s. (s ≡ stop.NoMemory) ⊎ (IsSaid s × (says g.b (own_log a.clerk.now.view.log a.edt) ≡ Stops s)))) c.in-Err.is r.1.1.1 in
    (within.0, (within.1, (r.0, (r.1.0, cause))))

pub free_all-requires : goal.free_all-requires
free_all-requires g c κs within =
    let a = c.args in let r = c.requires.1.1 in
    let returned = subst (λ (e : Result ℕ BodyStop). IfOk e (λ n. HasReturned a.job.now.turns.now.1 a.edt g.b n a.clerk.now)) c.in-Ok.is r.1.1.0 in
    (within.0, (within.1, (r.0, (c.in-Ok.returned, returned))))

pub finish-requires : goal.finish-requires
finish-requires g c κs within =
    let a = c.args in let r = c.requires.1.1 in let f = c.in_ok-free_all.ensures in
    let returned = subst (λ (e : Result ℕ BodyStop). IfOk e (λ n. HasReturned a.job.now.turns.now.1 a.edt g.b n a.clerk.now)) c.in-Ok.is r.1.1.0 in
    (within.0, (within.1, (refl, (f.work, (f.returned _ returned, f.free)))))

pub returns-clause-pushed : goal.returns-clause-pushed
returns-clause-pushed g c =
    on_ok_then c.finish.result _ _ (then_none c.args.clerk.now c.free_all.new.clerk c.finish.new.clerk c.args.hand.now c.free_all.new.hand c.in_ok-free_all.ensures.pushed) c.finish.ensures.readied
