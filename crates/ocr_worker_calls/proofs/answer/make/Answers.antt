use Rattle.std.proofs.Common.{◌++◌, ◌∙◌, ◌&&◌, ℕ, List, length, drop, ap, sym, subst, arith}
use Rattle.ocr_guid.specs.declared.Code.{Code}
use Rattle.ocr_body_meaning.specs.Call.{is_creation}
use Rattle.ocr_body_meaning.specs.Holds.{is_done}
use Rattle.ocr_worker_machine.specs.Clerks.{OcrView}
use Rattle.ocr_worker_access.specs.Calls.{drawn_for, faces_of}
use Rattle.ocr_worker_access.specs.Access.{HasLifted, new_places, places_made}
use Rattle.ocr_worker_calls.proofs.Answered.{answer_kept, done_one, lifted_drawn, made_places, makes_done, makes_one}
use Rattle.ocr_worker_calls.proofs.Coded.{creating_now}
use Rattle.ocr_worker_calls.proofs.answer.make.Goals as goal

pub draw_all-requires-clause-unused : goal.draw_all-requires-clause-unused
draw_all-requires-clause-unused g c = let r = c.requires.1.1 in ap (λ (v : OcrView). v.drawn) r.1.1.1.1.1.0.view

pub draw_all-requires-clause-creating : goal.draw_all-requires-clause-creating
draw_all-requires-clause-creating g c =
    let r = c.requires.1.1 in let a = c.args.asked.now in
    creating_now c.args.job.now.turns.now c.args.job.now.program.now c.args.edt g.g.0 g.g.1 c.args.clerk.now a.home a.call a.parts.items r.0 r.1.0 r.1.1.1.1.1.0 r.1.1.0 (makes_one a.call a.code r.1.1.1.0) (sym r.1.1.1.1.1.1.1 ∙ done_one a.call a.code r.1.1.1.0)

pub take_made-requires : goal.take_made-requires
take_made-requires g c = λ κs within.
    let r = c.requires.1.1 in let a = c.args.asked.now in let t = c.args.job.now.turns.now.1 in
    let e = c.in_ok-given.ensures in let given = c.in_ok-given.given in let drew = e.drew in (
      within.0,
      (
        within.1,
        (
          e.work,
          (
            ap (λ (k : Code). is_creation a.call && is_done k) e.code ∙ r.1.1.1.0,
            (
              drew.some,
              (
                drew.within,
                (
                  drew.answer,
                  (
                    (let long = ap (λ (l : List ℕ). length l) r.1.1.1.1.1.1.0 in omega (arith, long)),
                    (
                      r.1.1.1.1.0,
                      lifted_drawn t c.args.edt g.g.1 c.args.clerk.now c.draw_all.new.clerk (faces_of t.limit a.home a.call) a.places.items (drawn_for a.call given) a.parts.items r.1.1.1.1.1.0 drew.view drew.hand.1 drew.sees r.1.1.1.1.1.1.0,
                    ),
                  ),
                ),
              ),
            ),
          ),
        ),
      ),
    )

pub returns-clause-answer : goal.returns-clause-answer
returns-clause-answer g c = answer_kept c.draw_all.new.clerk.view c.take_made.new.clerk.view c.args.asked.now.call c.in_ok-given.given c.in_ok-take_made.ensures.drawn c.in_ok-given.ensures.drew.answer

pub returns-clause-lifted : goal.returns-clause-lifted
returns-clause-lifted g c =
    let r = c.requires.1.1 in let a = c.args.asked.now in let t = c.args.job.now.turns.now.1 in let given = c.in_ok-given.given in
    let new = c.take_made.new.clerk in let ps = c.take_made.new.asked.parts.items in let f = c.in_ok-take_made.ensures in
    subst (λ (l : List ℕ). HasLifted t c.args.edt g.g.1 new (l ++ places_made t.limit a.call given) (drawn_for a.call given) ps) (ap (drop 1) r.1.1.1.1.1.1.0)
    (subst (λ (l : List ℕ). HasLifted t c.args.edt g.g.1 new (drop 1 a.places.items ++ l) (drawn_for a.call given) ps) (made_places t.limit a.call given (makes_done a.call given.code (ap (λ (k : Code). is_creation a.call && is_done k) c.in_ok-given.ensures.code ∙ r.1.1.1.0)))
    (subst (λ (ns : List ℕ). HasLifted t c.args.edt g.g.1 new (drop 1 a.places.items ++ new_places t.limit a.call given) ns ps) (ap (λ (v : OcrView). v.drawn) c.in_ok-given.ensures.drew.view) f.lifted))

pub returns-clause-places : goal.returns-clause-places
returns-clause-places g c =
    let r = c.requires.1.1 in let a = c.args.asked.now in let t = c.args.job.now.turns.now.1 in let given = c.in_ok-given.given in
    c.in_ok-take_made.ensures.places ∙ ap (λ (l : List ℕ). a.places.items ++ l) (made_places t.limit a.call given (makes_done a.call given.code (ap (λ (k : Code). is_creation a.call && is_done k) c.in_ok-given.ensures.code ∙ r.1.1.1.0)))
