use Rattle.std.proofs.Common.{◌+◌, ◌∙◌, ℕ, ap, sym}
use Rattle.ocr_machine_parts.specs.declared.part.Part.TheVariants as part
use Rattle.ocr_machine_parts.specs.Progress.{made_ready}
use Rattle.ocr_machine_parts.specs.Kinds.{next_in, progress_in}
use Rattle.ocr_machine_parts.specs.Readiness.{plan_from}
use Rattle.ocr_turns_rule.specs.Sums.{find}
use Rattle.ocr_worker_acquisition.specs.Rounds.{name_in}
use Rattle.ocr_worker_acquisition.proofs.Faces.{core_found_is, core_there, face_found_is, face_there}
use Rattle.ocr_worker_acquisition.proofs.rounds.plan_next.Goals as goal

pub part-requires : goal.part-requires
part-requires g c =
    let t = c.args.job.now.turns.now.1 in let m = c.requires.knows.face in
    (part.Core m.core, (λ i. find (c.limit.ensures i + c.edt.view_is i) c.args.clerk.now.parts) ∙ core_there t c.args.edt c.args.clerk.now m)

pub part-requires-2 : goal.part-requires-2
part-requires-2 g c =
    let t = c.args.job.now.turns.now.1 in let m = c.requires.knows.face in
    (part.Edt m.slots, ap (λ (n : ℕ). find n c.args.clerk.now.parts) c.edt.view_is ∙ face_there t c.args.edt c.args.clerk.now m)

pub returns-clause-next : goal.returns-clause-next
returns-clause-next g c =
    let t = c.args.job.now.turns.now.1 in let k = c.requires.knows in let old = c.args.clerk.now in
    let slots = face_found_is t c.args.edt old k.face c.part-2.result.now c.in-Core-Edt.slots (ap (λ (n : ℕ). find n old.parts) (sym c.edt.view_is) ∙ c.part-2.ensures) c.in-Core-Edt.is-1 in
    let core = c.get.ensures ∙ core_found_is t c.args.edt old k.face c.part.result.now c.in-Core-Edt.core ((λ i. find (sym c.limit.ensures i + sym c.edt.view_is i) old.parts) ∙ c.part.ensures) c.in-Core-Edt.is-0 in
    record {
      knows = k;
      next_is = c.block_in.ensures ∙ ap name_in (c.in-Ok.ensures ∙ (λ i. next_in (progress_in (made_ready (plan_from (slots i) c.args.payloads.now) (core i).edt))));
    }
