use Rattle.std.proofs.Common.{◌+◌, ◌∷◌, [], ℕ, subst}
use Rattle.ocr_worker_clerk.specs.Work.{Took}
use Rattle.ocr_worker_acquisition.proofs.Holds.{holds_first}
use Rattle.ocr_worker_clerk.proofs.Push.{readies_ok, took_readies}
use Rattle.ocr_worker_acquisition.proofs.acquisition.wake.Goals as goal

pub rounds-requires-clause-holds : goal.rounds-requires-clause-holds
rounds-requires-clause-holds g c =
    let table = c.args.job.now.turns.now in let r = c.requires in let e = c.in_ok-take_part.ensures in
    let old = c.args.clerk.now in let new = c.take_part.new.clerk in
    let took : Took old new ((table.1.limit + c.args.edt) ∷ []) = subst (λ (p : ℕ). Took old new (p ∷ [])) (λ i. c.limit.ensures i + c.edt.view_is i) e.took in
    holds_first table c.args.job.now.program.now c.args.edt old new r.work r.taken r.bare.0 r.bare.1 r.ready e.work took e.sees

pub returns-clause-readied : goal.returns-clause-readied
returns-clause-readied g c =
    readies_ok c.rounds.result c.args.clerk.now c.take_part.new.clerk c.rounds.new.clerk (took_readies c.args.clerk.now c.take_part.new.clerk _ c.in_ok-take_part.ensures.took) c.rounds.ensures.readied
