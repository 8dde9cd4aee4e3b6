use Rattle.std.proofs.Common.{◌≡◌, ◌+◌, ◌∙◌, sym}
use Rattle.ocr_machine_parts.specs.declared.part.Part.TheVariants as part
use Rattle.ocr_machine_parts.specs.Kinds.{on_core}
use Rattle.ocr_machine_parts.specs.Progress.{core_after}
use Rattle.ocr_datablock.specs.Lent as lent
use Rattle.ocr_worker_access.proofs.Kept.{fit_own}
use Rattle.ocr_worker_access.proofs.Stored.{core_found, not_refused, storable_lifted, stored_at, stored_runs}
use Rattle.ocr_worker_access.proofs.stores.store_lent.Goals as goal

pub lift-part-requires : goal.lift-part-requires
lift-part-requires g c =
    let r = c.requires.1.1 in let a = c.args in
    (part.Core r.1.0.core, core_found (c.limit.result + c.edt.inside.0) (a.job.now.turns.now.1.limit + a.edt) r.1.0.core a.clerk.now.parts (λ i. c.limit.ensures i + c.edt.view_is i) r.1.0.hand)

pub store_in-requires : goal.store_in-requires
store_in-requires g c =
    let r = c.requires.1.1 in let a = c.args in
    storable_lifted a.job.now.turns.now.1 a.edt a.block a.word (c.limit.result + c.edt.inside.0) g.b a.clerk.now c.lift-part.result r.1.0 (λ i. c.limit.ensures i + c.edt.view_is i) c.lift-part.ensures.part r.1.1
    (fit_own a.job.now.turns.now a.job.now.program.now a.edt g.b a.clerk.now r.0 r.1.0)

pub returns-clause-runs : goal.returns-clause-runs
returns-clause-runs g c =
    let r = c.requires.1.1 in let a = c.args in
    stored_runs a.job.now.turns.now.1 a.edt a.block a.word (c.limit.result + c.edt.inside.0) g.b a.clerk.now c.lift-part.result r.1.0 (λ i. c.limit.ensures i + c.edt.view_is i) c.lift-part.ensures.part r.1.1
    (fit_own a.job.now.turns.now a.job.now.program.now a.edt g.b a.clerk.now r.0 r.1.0)
    a.value c.lift-part.new.self c.put.new.self c.store_in.new.part c.lift-part.ensures.parts c.put.ensures.parts (c.put.ensures.rest.1 ∙ c.lift-part.ensures.rest.1)
    (not_refused c.store_in.result (c.store_in.new.part ≡ on_core c.lift-part.result (core_after (λ loan. lent.after_store loan a.word a.value) a.block)) (sym c.is_err.ensures.value ∙ c.if-is_err.false) c.store_in.ensures)

pub returns-clause-holds : goal.returns-clause-holds
returns-clause-holds g c =
    let r = c.requires.1.1 in let a = c.args in
    stored_at a.job.now.turns.now.1 a.edt a.block a.word (c.limit.result + c.edt.inside.0) g.b a.clerk.now c.lift-part.result r.1.0 (λ i. c.limit.ensures i + c.edt.view_is i) c.lift-part.ensures.part r.1.1
    (fit_own a.job.now.turns.now a.job.now.program.now a.edt g.b a.clerk.now r.0 r.1.0)
    a.value c.lift-part.new.self c.put.new.self c.store_in.new.part c.lift-part.ensures.parts c.put.ensures.parts (c.put.ensures.rest.1 ∙ c.lift-part.ensures.rest.1)
    (not_refused c.store_in.result (c.store_in.new.part ≡ on_core c.lift-part.result (core_after (λ loan. lent.after_store loan a.word a.value) a.block)) (sym c.is_err.ensures.value ∙ c.if-is_err.false) c.store_in.ensures)
