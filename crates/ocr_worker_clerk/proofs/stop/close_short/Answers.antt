use Rattle.std.proofs.Common.{◌<◌, ℕ, length, reverse, sym, subst}
use Rattle.ocr_body_meaning.specs.declared.call.Call as body
use Rattle.ocr_machine_parts.specs.Legal.{IsCreating}
use Rattle.ocr_worker_machine.specs.Clerks.{Knows, of_terms}
use Rattle.ocr_worker_clerk.specs.Number.{object_count}
use Rattle.ocr_worker_clerk.proofs.Ends.{short_own, short_stands, short_stops}
use Rattle.ocr_worker_clerk.proofs.stop.close_short.Goals as goal

pub close_telling-requires-clause-may : goal.close_telling-requires-clause-may
close_telling-requires-clause-may g c = short_stops c.args.job.now.turns.now.1 c.args.clerk.now.view c.args.edt c.args.call.now c.requires.creating

pub close_telling-requires-clause-stand : goal.close_telling-requires-clause-stand
close_telling-requires-clause-stand g c =
    let t = c.args.job.now.turns.now.1 in let v = c.args.clerk.now.view in
    short_stands t v c.edt.inside.0 c.of.result
    (subst (λ (n : ℕ). Knows t v (λ J. IsCreating (of_terms t) (reverse J) n c.of.result.value)) (sym c.edt.view_is)
    (subst (λ (x : body.Call). Knows t v (λ J. IsCreating (of_terms t) (reverse J) c.args.edt x)) (sym c.of.ensures) c.requires.creating))

pub close_telling-requires-clause-own : goal.close_telling-requires-clause-own
close_telling-requires-clause-own g c = short_own c.args.job.now.turns.now.1 c.args.worker c.args.clerk.now.view c.edt.inside.0 c.of.result
    (subst (λ (x : body.Call). length c.args.clerk.now.view.drawn < object_count x) (sym c.of.ensures) c.requires.few) c.requires.reached
