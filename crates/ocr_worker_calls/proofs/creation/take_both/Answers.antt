use Rattle.std.proofs.Common.{◌∙◌, ◌+◌, ◌∷◌, [], ℕ, List, refl, ap, sym, subst, arith}
use Rattle.ocr_body_meaning.specs.Behaviour.{IsNextWith}
use Rattle.ocr_body_meaning.specs.Body.{says}
use Rattle.ocr_body_meaning.specs.Holds.{private_of}
use Rattle.ocr_body_meaning.specs.declared.call.Call as body
use Rattle.ocr_machine_history.specs.declared.entry.Entry.{Entry}
use Rattle.ocr_machine_parts.specs.Legal.{IsCreating}
use Rattle.ocr_machine_parts.specs.Taken.{face_in}
use Rattle.ocr_turns_rule.specs.Sums.{find}
use Rattle.ocr_worker_machine.specs.Clerks.{Knows, OcrView, of_terms}
use Rattle.ocr_worker_clerk.specs.Work.{Took, in_hand}
use Rattle.ocr_worker_clerk.proofs.Push.{took_readies}
use Rattle.ocr_worker_access.specs.Access.{HasLifted, holds_at}
use Rattle.ocr_worker_access.specs.Served.{own_log}
use Rattle.std.specs.Prelude.{reverse}
use Rattle.ocr_worker_calls.specs.Creation.{call_of}
use Rattle.ocr_worker_calls.proofs.Coded.{creating_now}
use Rattle.ocr_worker_calls.proofs.Created.{as_lifted, at_drawn, at_length, at_more, faces_are, found_more, suits_done, template_face, to_lifted, work_lifted}
use Rattle.ocr_worker_calls.proofs.Makes.{plain_next}
use Rattle.ocr_worker_calls.proofs.creation.take_both.Goals as goal

pub draw_number-requires-clause-creating : goal.draw_number-requires-clause-creating
draw_number-requires-clause-creating g c =
    let r = c.requires.1.1 in let a = c.args in let t = a.job.now.turns.now.1 in let suits = r.1.1.1.1.1.1 in let within = r.1.1.1.1.0 in let is = r.1.1.1.0 in
    let next = plain_next (call_of a.bare.now) _ _ (subst (λ (k : body.Call). IsNextWith k (private_of k (holds_at g.s.1)) (says g.s.0 (own_log g.s.1.view.log a.edt))) is r.1.1.0) in
    let lift = subst (λ (ns : List ℕ). HasLifted t a.edt g.s.1 (as_lifted a.clerk.now) ns [] (in_hand a.clerk.now.parts)) (sym (faces_are t.limit a.bare.now within)) (to_lifted t a.edt g.s.1 a.clerk.now (a.bare.now.template ∷ []) [] r.1.1.1.1.1.0) in
    let done = suits_done a.edt (face_in t.limit (in_hand a.clerk.now.parts)) a.bare.now suits.0 suits.1 (template_face t.limit a.bare.now.template a.clerk.now.parts suits.0 within suits.2) suits.3 in
    let knows = creating_now a.job.now.turns.now a.job.now.program.now a.edt g.s.0 g.s.1 (as_lifted a.clerk.now) 0 (call_of a.bare.now) (in_hand a.clerk.now.parts) (work_lifted a.job.now.turns.now a.job.now.program.now a.clerk.now r.0) r.1.0 lift next refl done in
    subst (λ (k : body.Call). Knows t a.clerk.now.view (λ (J : List Entry). IsCreating (of_terms t) (reverse J) a.edt k)) (sym is) knows

pub take_part-requires-clause-room : goal.take_part-requires-clause-room
take_part-requires-clause-room g c =
    let r = c.requires.1.1 in let a = c.args in let t = a.job.now.turns.now.1 in let e = c.in_ok-new.ensures in
    let one = at_drawn t a.edt g.s.1 a.clerk.now c.draw_number.new.clerk (a.bare.now.template ∷ []) c.in_ok-new.new r.1.1.1.1.1.0 e.number.2 e.hand.0.1 e.hand.1 in
    let l = at_length t a.edt g.s.1 c.draw_number.new.clerk (a.bare.now.template ∷ []) (c.in_ok-new.new ∷ []) one in omega (arith, l)

pub take_part-requires-2-clause-room : goal.take_part-requires-2-clause-room
take_part-requires-2-clause-room g c =
    let r = c.requires.1.1 in let a = c.args in let t = a.job.now.turns.now.1 in let e = c.in_ok-new.ensures in
    let one = at_drawn t a.edt g.s.1 a.clerk.now c.draw_number.new.clerk (a.bare.now.template ∷ []) c.in_ok-new.new r.1.1.1.1.1.0 e.number.2 e.hand.0.1 e.hand.1 in
    let two = at_more t a.edt g.s.1 c.draw_number.new.clerk c.take_part.new.clerk (a.bare.now.template ∷ []) (c.in_ok-new.new ∷ []) c.in_ok-new.new one c.in_ok-take_part.ensures.took in
    let l = at_length t a.edt g.s.1 c.take_part.new.clerk (a.bare.now.template ∷ c.in_ok-new.new ∷ []) (c.in_ok-new.new ∷ []) two in omega (arith, l)

pub returns-clause-hand : goal.returns-clause-hand
returns-clause-hand g c =
    let r = c.requires.1.1 in let a = c.args in let t = a.job.now.turns.now.1 in let e = c.in_ok-new.ensures in let n = c.in_ok-new.new in
    let one = at_drawn t a.edt g.s.1 a.clerk.now c.draw_number.new.clerk (a.bare.now.template ∷ []) n r.1.1.1.1.1.0 e.number.2 e.hand.0.1 e.hand.1 in
    let two = at_more t a.edt g.s.1 c.draw_number.new.clerk c.take_part.new.clerk (a.bare.now.template ∷ []) (n ∷ []) n one c.in_ok-take_part.ensures.took in
    at_more t a.edt g.s.1 c.take_part.new.clerk c.take_part-2.new.clerk (a.bare.now.template ∷ n ∷ []) (n ∷ []) (t.limit + n) two
    (subst (λ (k : ℕ). Took c.take_part.new.clerk c.take_part-2.new.clerk ((k + n) ∷ [])) c.limit.ensures c.in_ok-take_part-2.ensures.took)

pub returns-clause-readied : goal.returns-clause-readied
returns-clause-readied g c =
    took_readies c.take_part.new.clerk c.take_part-2.new.clerk _ c.in_ok-take_part-2.ensures.took
    ∙ (took_readies c.draw_number.new.clerk c.take_part.new.clerk _ c.in_ok-take_part.ensures.took ∙ ap (λ (v : OcrView). v.debts.readied) c.in_ok-new.ensures.number.2)

pub returns-clause-found : goal.returns-clause-found
returns-clause-found g c =
    let r = c.requires.1.1 in let a = c.args in let e = c.in_ok-new.ensures in let suits = r.1.1.1.1.1.1 in
    let zero = ap (find a.bare.now.template) e.hand.0.1 ∙ suits.2 in
    let one = found_more a.bare.now.template _ c.draw_number.new.clerk c.take_part.new.clerk _ c.in_ok-take_part.ensures.took zero in
    found_more a.bare.now.template _ c.take_part.new.clerk c.take_part-2.new.clerk _ c.in_ok-take_part-2.ensures.took one ∙ sym suits.2
