use Rattle.std.proofs.Common.{◌+◌, refl}
use Rattle.ocr_worker_access.specs.declared.access.Found.TheVariants as found
use Rattle.ocr_worker_access.proofs.Found.{store_found}
use Rattle.ocr_worker_access.proofs.stores.store.Goals as goal

pub store_lent-requires : goal.store_lent-requires
store_lent-requires g c = λ κs lives.
    let r = c.requires.1.1 in let a = c.args in
    let silent = store_found a.clerk.now (c.limit.result + c.edt.inside.0) a.block a.word c.core_at.result.now c.find_store.result _ c.core_at.ensures c.find_store.ensures.found c.in-Silent.is in
    (lives.0, (lives.1, (r.0, (r.1.0, (_, silent)))))

pub store_shared-requires : goal.store_shared-requires
store_shared-requires g c = λ κs lives.
    let r = c.requires.1.1 in let a = c.args in
    let entered = store_found a.clerk.now (c.limit.result + c.edt.inside.0) a.block a.word c.core_at.result.now c.find_store.result found.Entered c.core_at.ensures c.find_store.ensures.found c.in-Entered.is in
    (lives.0, (lives.1, (refl, (r.0, (r.1.0, (entered, r.1.1 entered))))))
