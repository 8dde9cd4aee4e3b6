use Rattle.std.proofs.Common.{◌≡◌, ◌≤◌, ◌∙◌, ◌+◌, ◌∷◌, ◌++◌, [], ℕ, List, length, ap, sym, subst, arith}
use Rattle.ocr_body_meaning.specs.Behaviour.{IsNext, IsNextWith}
use Rattle.ocr_body_meaning.specs.Body.{says}
use Rattle.ocr_body_meaning.specs.Holds.{private_of}
use Rattle.ocr_body_meaning.specs.declared.call.Call as body
use Rattle.ocr_machine_parts.specs.Codes.{code_of}
use Rattle.ocr_machine_parts.specs.Taken.{face_in}
use Rattle.ocr_worker_machine.specs.Clerks.{OcrView}
use Rattle.ocr_worker_clerk.specs.Entry.{OcrKnown}
use Rattle.ocr_worker_clerk.proofs.Push.{none_then}
use Rattle.ocr_worker_access.specs.Calls.{IsAnswer, IsCoded, drawn_for, faces_of}
use Rattle.ocr_worker_access.specs.Access.{HasLifted, IsCalled, Runs, holds_at, home_at, places_made}
use Rattle.ocr_worker_access.specs.Served.{own_log}
use Rattle.ocr_worker_access.proofs.Asked.{faces_few}
use Rattle.ocr_worker_calls.proofs.Coded.{covers}
use Rattle.ocr_worker_calls.proofs.Makes.{call_few, code_more, plain_next}
use Rattle.ocr_worker_calls.proofs.call.make_from.Goals as goal

pub ask-requires : goal.ask-requires
ask-requires g c = λ κs within.
    let r = c.requires.1.1 in let t = c.args.job.now.turns.now.1 in let call = c.args.call.now in
    let runs = subst (λ (k : OcrKnown). Runs t c.args.edt g.s.0 k) r.0 r.1.1.0 in
    let next = subst (λ (k : OcrKnown). IsNextWith call (private_of call (holds_at g.s.1)) (says g.s.0 (own_log k.view.log c.args.edt))) r.0 r.1.1.1.0 in (
      within.0,
      (
        within.1,
        (r.1.0, (runs, call_few c.args.job.now.turns.now c.args.job.now.program.now c.args.clerk.now c.args.edt g.s.0 call (private_of call (holds_at g.s.1)) r.1.0 runs next)),
      ),
    )

pub answer-requires : goal.answer-requires
answer-requires g c = λ κs within.
    let r = c.requires.1.1 in let t = c.args.job.now.turns.now.1 in let L = t.limit in let call = c.args.call.now in
    let e = c.in_ok-asked.ensures in let asked = c.in_ok-asked.asked in let mid = c.ask.new.clerk in
    let runs = subst (λ (k : OcrKnown). Runs t c.args.edt g.s.0 k) r.0 r.1.1.0 in
    let next = subst (λ (k : OcrKnown). IsNextWith call (private_of call (holds_at g.s.1)) (says g.s.0 (own_log k.view.log c.args.edt))) r.0 r.1.1.1.0 in
    let lifted : HasLifted t c.args.edt g.s.1 mid (faces_of L asked.home call) [] asked.parts.items = subst (λ (k : OcrKnown). HasLifted t c.args.edt k mid (faces_of L asked.home call) [] asked.parts.items) (sym r.0) e.lifted in
    let few : length asked.places.items ≤ 35 = (
    let wants = call_few c.args.job.now.turns.now c.args.job.now.program.now c.args.clerk.now c.args.edt g.s.0 call (private_of call (holds_at g.s.1)) r.1.0 runs next in
    let faces = faces_few L asked.home call wants in let long = ap (λ (l : List ℕ). length l) e.places in omega (arith, faces, long)
    ) in (
      within.0,
      (
        within.1,
        (
          e.work,
          (
            r.1.1.0,
            (
              subst (λ (k : body.Call). IsNext k (says g.s.0 (own_log g.s.1.view.log c.args.edt))) (sym e.call) (plain_next call (private_of call (holds_at g.s.1)) (says g.s.0 (own_log g.s.1.view.log c.args.edt)) r.1.1.1.0),
              (
                few,
                (
                  subst (λ (k : body.Call). HasLifted t c.args.edt g.s.1 mid (faces_of L asked.home k) [] asked.parts.items) (sym e.call) lifted,
                  (
                    e.places ∙ ap (λ (k : body.Call). (L + c.args.edt) ∷ faces_of L asked.home k) (sym e.call),
                    e.code ∙ ap (λ (k : body.Call). code_of c.args.edt (face_in L asked.parts.items) k) (sym e.call),
                  ),
                ),
              ),
            ),
          ),
        ),
      ),
    )

pub enter_asked-requires : goal.enter_asked-requires
enter_asked-requires g c = λ κs within.
    let r = c.requires.1.1 in let t = c.args.job.now.turns.now.1 in let L = t.limit in let call = c.args.call.now in
    let e = c.in_ok-asked.ensures in let asked = c.in_ok-asked.asked in let mid = c.ask.new.clerk in
    let f = c.in_ok-given.ensures in let given = c.in_ok-given.given in let now = c.answer.new.asked in let new = c.answer.new.clerk in
    let same : now.call ≡ call = f.same.0 ∙ e.call in
    let lifted : HasLifted t c.args.edt g.s.1 mid (faces_of L asked.home call) [] asked.parts.items = subst (λ (k : OcrKnown). HasLifted t c.args.edt k mid (faces_of L asked.home call) [] asked.parts.items) (sym r.0) e.lifted in
    let more = code_more L c.args.edt asked.home call asked.parts.items now.parts.items
    (covers c.args.job.now.turns.now c.args.job.now.program.now c.args.edt g.s.0 g.s.1 mid asked.home call asked.parts.items e.work r.1.1.0 lifted) f.more in (
      within.0,
      (
        within.1,
        (
          f.work,
          (
            r.1.1.0,
            (
              subst (λ (h : ℕ). HasLifted t c.args.edt g.s.1 new (faces_of L h now.call ++ places_made L now.call given) (drawn_for now.call given) now.parts.items) (sym f.same.1)
                  (subst (λ (k : body.Call). HasLifted t c.args.edt g.s.1 new (faces_of L asked.home k ++ places_made L k given) (drawn_for k given) now.parts.items) (sym f.same.0) f.lifted),
              (
                f.places
                    ∙ (ap (λ (l : List ℕ). l ++ places_made L asked.call given) (e.places ∙ ap (λ (k : body.Call). (L + c.args.edt) ∷ faces_of L asked.home k) (sym e.call))
                    ∙ (ap (λ (k : body.Call). (L + c.args.edt) ∷ (faces_of L asked.home k ++ places_made L k given)) (sym f.same.0)
                    ∙ ap (λ (h : ℕ). (L + c.args.edt) ∷ (faces_of L h now.call ++ places_made L now.call given)) (sym f.same.1))),
                (
                  subst (λ (k : body.Call). IsNextWith k (private_of k (holds_at g.s.1)) (says g.s.0 (own_log g.s.1.view.log c.args.edt))) (sym same) r.1.1.1.0,
                  (
                    f.same.1 ∙ (e.home ∙ (λ i. home_at (sym r.0 i) (sym same i))),
                    (
                      subst IsCoded (sym same) r.1.1.1.1,
                      (
                        subst (λ (k : body.Call). IsAnswer new.view k given) (sym f.same.0) f.answer,
                        f.code ∙ (e.code ∙ (sym more ∙ ap (λ (k : body.Call). code_of c.args.edt (face_in L now.parts.items) k) (sym same))),
                      ),
                    ),
                  ),
                ),
              ),
            ),
          ),
        ),
      ),
    )

pub returns-clause-pushed : goal.returns-clause-pushed
returns-clause-pushed g c =
    let kept = ap (λ (v : OcrView). v.debts.readied) c.in_ok-given.ensures.lifted.view ∙ ap (λ (k : OcrKnown). k.view.debts.readied) c.requires.1.1.0 in
    none_then c.args.clerk.now c.answer.new.clerk c.enter_asked.new.clerk c.args.hand.now c.enter_asked.new.hand kept c.in_ok-enter_asked.ensures.pushed

pub returns-clause-called : goal.returns-clause-called
returns-clause-called g c =
    let f = c.in_ok-given.ensures in let e = c.in_ok-asked.ensures in
    subst (λ (k : body.Call). IsCalled c.args.edt k c.in_ok-given.given g.s.1 c.enter_asked.new.clerk) (f.same.0 ∙ e.call) c.in_ok-enter_asked.ensures.called
