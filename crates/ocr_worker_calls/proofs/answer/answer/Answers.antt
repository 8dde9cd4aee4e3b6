use Rattle.std.proofs.Common.{◌∙◌, ◌&&◌, [], ap, sym}
use Rattle.std.proofs.lemmas.List.{append-nil}
use Rattle.ocr_guid.specs.Code.{number_of}
use Rattle.ocr_guid.specs.declared.Code.{Code}
use Rattle.ocr_body_meaning.specs.Call.{is_creation}
use Rattle.ocr_body_meaning.specs.Holds.{is_done}
use Rattle.ocr_worker_machine.specs.Clerks.{OcrView}
use Rattle.ocr_worker_access.specs.Calls.{faces_of}
use Rattle.ocr_worker_calls.proofs.Answered.{lifted_plain, places_plain, plain_is}
use Rattle.ocr_worker_calls.proofs.answer.answer.Goals as goal

pub make-requires : goal.make-requires
make-requires g c = λ κs lives.
    let r = c.requires.1.1 in (
      lives.0,
      (
        lives.1,
        (
          r.0,
          (r.1.0, (r.1.1.0, (sym c.makes_object.ensures ∙ c.if-makes_object.true, (r.1.1.1.0, (r.1.1.1.1.0, (r.1.1.1.1.1.0, r.1.1.1.1.1.1)))))),
        ),
      ),
    )

pub returns-clause-lifted : goal.returns-clause-lifted
returns-clause-lifted g c =
    let r = c.requires.1.1 in let t = c.args.job.now.turns.now.1 in let call = c.args.asked.now.call in
    lifted_plain t c.args.edt g.g.1 c.args.clerk.now call c.plain_answer.result (faces_of t.limit c.args.asked.now.home call) c.args.asked.now.parts.items (ap (λ (k : Code). is_creation call && is_done k) c.plain_answer.ensures.code ∙ (sym c.makes_object.ensures ∙ c.if-makes_object.false)) r.1.1.1.1.0

pub returns-clause-places : goal.returns-clause-places
returns-clause-places g c =
    let t = c.args.job.now.turns.now.1 in let call = c.args.asked.now.call in
    places_plain t.limit call c.plain_answer.result c.args.asked.now.places.items (ap (λ (k : Code). is_creation call && is_done k) c.plain_answer.ensures.code ∙ (sym c.makes_object.ensures ∙ c.if-makes_object.false))

pub returns-clause-more : goal.returns-clause-more
returns-clause-more g c = ([], sym (append-nil c.args.asked.now.parts.items))

pub returns-clause-answer : goal.returns-clause-answer
returns-clause-answer g c =
    let r = c.requires.1.1 in let call = c.args.asked.now.call in let e = c.plain_answer.ensures in
    plain_is c.args.clerk.now.view call c.plain_answer.result (ap (λ (k : Code). is_creation call && is_done k) e.code ∙ (sym c.makes_object.ensures ∙ c.if-makes_object.false)) (ap (λ (v : OcrView). v.drawn) r.1.1.1.1.0.view) e.refused (λ off. e.number off ∙ ap number_of (sym e.code)) e.plain.0 e.plain.1
