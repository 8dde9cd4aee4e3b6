use Rattle.std.proofs.Common.{◌+◌, refl}
use Rattle.ocr_worker_access.specs.declared.access.Found.TheVariants as found
use Rattle.ocr_worker_access.proofs.Found.{load_found}
use Rattle.ocr_worker_access.proofs.Kept.{fit_found}
use Rattle.ocr_worker_access.proofs.loads.load.Goals as goal

pub find_load-requires : goal.find_load-requires
find_load-requires g c =
    let r = c.requires.1.1 in let a = c.args in
    fit_found a.job.now.turns.now a.job.now.program.now a.edt (c.limit.result + c.edt.inside.0) g.b a.clerk.now c.core_at.result.now r.0 r.1.0 (λ i. c.limit.ensures i + c.edt.view_is i) c.core_at.ensures

pub load_shared-requires : goal.load_shared-requires
load_shared-requires g c = λ κs lives.
    let r = c.requires.1.1 in let a = c.args in
    let entered = load_found a.clerk.now (c.limit.result + c.edt.inside.0) a.block a.word c.core_at.result.now c.find_load.result found.Entered c.core_at.ensures c.find_load.ensures c.in-Entered.is in
    (lives.0, (lives.1, (refl, (r.0, (r.1.0, (entered, r.1.1 entered))))))
