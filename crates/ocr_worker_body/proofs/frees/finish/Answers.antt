use Rattle.std.proofs.Common.{◌≡◌, ◌∙◌, ◌+◌, ◌∷◌, [], ℕ, List, true, false, refl, ap, sym, subst}
use Rattle.ocr_machine_parts.specs.Taken.{is_within}
use Rattle.ocr_worker_clerk.specs.Entry.{OcrKnown}
use Rattle.ocr_worker_clerk.specs.Work.{Took}
use Rattle.ocr_worker_clerk.proofs.Push.{readies_ok, took_readies}
use Rattle.ocr_worker_access.specs.Access.{HasTaken, held_at, returned_faces}
use Rattle.ocr_worker_body.specs.Body.{HasReturned}
use Rattle.ocr_worker_body.proofs.Returns.{end_says, faces_none, faces_one, taken_none, taken_one}
use Rattle.ocr_worker_body.proofs.frees.finish.Goals as goal

pub end-requires : goal.end-requires
end-requires g c κs within =
    let a = c.args in let r = c.requires.1.1 in let t = a.job.now.turns.now.1 in let b = g.s.0 in let e = c.in_ok-take_part.ensures in
    let on : is_within t.limit a.returned ≡ true = sym (λ i. is_within (c.limit-limit.ensures i) (c.returned.view_is i)) ∙ (sym c.is_object.ensures ∙ c.if-is_object.true) in
    let ret = subst (λ (k : OcrKnown). HasReturned t a.edt b a.returned k) (sym r.0) r.1.1.0 in
    let took = subst (λ (k : OcrKnown). Took k c.take_part.new.clerk (a.returned ∷ [])) (sym r.0) (subst (λ (n : ℕ). Took a.clerk.now c.take_part.new.clerk (n ∷ [])) c.returned.view_is e.took) in (
      within.0,
      (
        within.1,
        (
          refl,
          (
            e.work,
            (
              ret.runs,
              (
                taken_one t a.edt a.returned b g.s.1 c.take_part.new.clerk ret.runs on took,
                (
                  (λ i. (c.limit-limit.ensures i + c.edt.view_is i) ∷ c.returned.view_is i ∷ []) ∙ ap (λ (l : List ℕ). (t.limit + a.edt) ∷ l) (sym (faces_one t.limit a.returned on)),
                  (end_says t a.edt a.returned b g.s.1 ret, ap held_at r.0 ∙ r.1.1.1),
                ),
              ),
            ),
          ),
        ),
      ),
    )

pub end-requires-2 : goal.end-requires-2
end-requires-2 g c κs within =
    let a = c.args in let r = c.requires.1.1 in let t = a.job.now.turns.now.1 in let b = g.s.0 in
    let off : is_within t.limit a.returned ≡ false = sym (λ i. is_within (c.limit-limit.ensures i) (c.returned.view_is i)) ∙ (sym c.is_object.ensures ∙ c.if-is_object.false) in
    let ret = subst (λ (k : OcrKnown). HasReturned t a.edt b a.returned k) (sym r.0) r.1.1.0 in (
      within.0,
      (
        within.1,
        (
          refl,
          (
            r.1.0,
            (
              ret.runs,
              (
                subst (λ (k : OcrKnown). HasTaken t a.edt g.s.1 k (returned_faces t.limit a.returned)) r.0 (taken_none t a.edt a.returned b g.s.1 ret.runs off),
                (
                  (λ i. (c.limit-limit.ensures i + c.edt.view_is i) ∷ []) ∙ ap (λ (l : List ℕ). (t.limit + a.edt) ∷ l) (sym (faces_none t.limit a.returned off)),
                  (end_says t a.edt a.returned b g.s.1 ret, ap held_at r.0 ∙ r.1.1.1),
                ),
              ),
            ),
          ),
        ),
      ),
    )

pub returns-then-is_object-clause-readied : goal.returns-then-is_object-clause-readied
returns-then-is_object-clause-readied g c = readies_ok c.end.result c.args.clerk.now c.take_part.new.clerk c.end.new.clerk (took_readies c.args.clerk.now c.take_part.new.clerk _ c.in_ok-take_part.ensures.took) c.end.ensures.readied
