use Rattle.std.proofs.Common.{◌+◌, ◌∙◌, ℕ, ap, sym}
use Rattle.ocr_machine_parts.specs.declared.part.Part.TheVariants as part
use Rattle.ocr_turns_rule.specs.Sums.{find}
use Rattle.ocr_worker_acquisition.proofs.Takes.{can_act, core_found, face_found, other_found, stands_at, wants_other}
use Rattle.ocr_worker_acquisition.proofs.block.decide.Goals as goal

pub part-core-requires : goal.part-core-requires
part-core-requires g c =
    let t = c.args.job.now.turns.now.1 in let m = c.requires.knows.three in
    (part.Core m.core, (λ i. find (c.limit.ensures i + c.edt.view_is i) c.args.clerk.now.parts) ∙ core_found t c.args.edt c.args.block c.args.first c.args.clerk.now m c.requires.apart c.requires.block)

pub part-face-requires : goal.part-face-requires
part-face-requires g c =
    let t = c.args.job.now.turns.now.1 in let m = c.requires.knows.three in
    (m.face, ap (λ (n : ℕ). find n c.args.clerk.now.parts) c.edt.view_is ∙ face_found t c.args.edt c.args.block c.args.first c.args.clerk.now m c.requires.apart c.requires.block)

pub part-other-requires : goal.part-other-requires
part-other-requires g c =
    let t = c.args.job.now.turns.now.1 in let m = c.requires.knows.three in
    (m.other, ap (λ (n : ℕ). find n c.args.clerk.now.parts) c.block.view_is ∙ other_found t c.args.edt c.args.block c.args.first c.args.clerk.now m c.requires.apart c.requires.block)

pub act_at-requires : goal.act_at-requires
act_at-requires g c =
    let t = c.args.job.now.turns.now.1 in let k = c.requires.knows in
    stands_at t c.args.edt c.args.block c.args.first c.args.payloads.now c.args.clerk.now k c.requires.apart c.requires.block c.part-core.result.now c.part-face.result.now c.part-other.result.now
    ((λ i. find (sym c.limit.ensures i + sym c.edt.view_is i) c.args.clerk.now.parts) ∙ c.part-core.ensures)
    (ap (λ (n : ℕ). find n c.args.clerk.now.parts) (sym c.edt.view_is) ∙ c.part-face.ensures)
    (ap (λ (n : ℕ). find n c.args.clerk.now.parts) (sym c.block.view_is) ∙ c.part-other.ensures)
    c.requires.work.of_table.1 c.requires.work.is_open c.requires.ready

pub returns-clause-act : goal.returns-clause-act
returns-clause-act g c =
    let t = c.args.job.now.turns.now.1 in let k = c.requires.knows in
    can_act t c.args.edt c.args.block c.args.first c.args.payloads.now c.args.clerk.now k c.requires.apart c.requires.block c.part-core.result.now c.part-face.result.now c.part-other.result.now
    ((λ i. find (sym c.limit.ensures i + sym c.edt.view_is i) c.args.clerk.now.parts) ∙ c.part-core.ensures)
    (ap (λ (n : ℕ). find n c.args.clerk.now.parts) (sym c.edt.view_is) ∙ c.part-face.ensures)
    (ap (λ (n : ℕ). find n c.args.clerk.now.parts) (sym c.block.view_is) ∙ c.part-other.ensures)
    c.in-Ok.act c.in-Ok.ensures.act

pub returns-clause-other : goal.returns-clause-other
returns-clause-other g c =
    let t = c.args.job.now.turns.now.1 in let k = c.requires.knows in
    wants_other t c.args.edt c.args.block c.args.first c.args.payloads.now c.args.clerk.now k c.requires.apart c.requires.block c.part-core.result.now c.part-face.result.now c.part-other.result.now
    ((λ i. find (sym c.limit.ensures i + sym c.edt.view_is i) c.args.clerk.now.parts) ∙ c.part-core.ensures)
    (ap (λ (n : ℕ). find n c.args.clerk.now.parts) (sym c.edt.view_is) ∙ c.part-face.ensures)
    (ap (λ (n : ℕ). find n c.args.clerk.now.parts) (sym c.block.view_is) ∙ c.part-other.ensures)
    c.requires.wants c.in-Ok.act c.in-Ok.ensures.other
