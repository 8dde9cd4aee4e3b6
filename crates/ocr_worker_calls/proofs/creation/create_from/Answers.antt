use Rattle.std.proofs.Common.{◌∷◌, [], sym, subst, arith}
use Rattle.ocr_turns_rule.proofs.Totals.{one_here}
use Rattle.ocr_worker_clerk.specs.Entry.{OcrKnown}
use Rattle.ocr_worker_clerk.specs.Work.{Took}
use Rattle.ocr_worker_calls.proofs.Created.{at_template, place_found}
use Rattle.ocr_worker_calls.proofs.creation.create_from.Goals as goal

pub template_for-requires : goal.template_for-requires
template_for-requires g c =
    let r = c.requires.1.1 in let a = c.args in let t = a.job.now.turns.now.1 in
    let took = subst (λ (k : OcrKnown). Took k c.take_part.new.clerk (a.bare.now.template ∷ [])) (sym r.0) c.in_ok-take_part.ensures.took in
    place_found t a.edt g.s.1 c.take_part.new.clerk (a.bare.now.template ∷ []) [] a.bare.now.template (at_template t a.edt g.s.0 g.s.1 c.take_part.new.clerk a.bare.now.template r.1.1.0 took)
    (let o = one_here a.bare.now.template in omega (arith, o))
