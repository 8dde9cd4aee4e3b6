use Rattle.std.proofs.Common.{◌≡◌, Option, refl, ap, sym, subst}
use Rattle.std.specs.Prelude.{IfNone, List, ℕ}
use Rattle.ocr_body_meaning.specs.Behaviour.{IsNextWith}
use Rattle.ocr_body_meaning.specs.Body.{says}
use Rattle.ocr_body_meaning.specs.Holds.{Holds, private_of}
use Rattle.ocr_body_meaning.specs.declared.call.Answer.{Answer}
use Rattle.ocr_worker_machine.specs.Clerks.{OcrView}
use Rattle.ocr_machine_parts.specs.declared.part.Part.{Part}
use Rattle.ocr_machine_parts.specs.Bodies.{holds_in}
use Rattle.ocr_worker_clerk.specs.Push.{PushesReady}
use Rattle.ocr_worker_clerk.proofs.Push.{pushes_then}
use Rattle.ocr_worker_access.specs.Access.{first_in, holds_at}
use Rattle.ocr_worker_access.specs.Served.{own_log}
use Rattle.ocr_worker_access.proofs.Entered.{ok_then}
use Rattle.ocr_worker_calls.proofs.Created.{called_same, runs_same}
use Rattle.ocr_worker_calls.proofs.choice.make_edt.Goals as goal

pub make_from-requires : goal.make_from-requires
make_from-requires g c κs within =
    let r = c.requires.1.1 in let a = c.args in let new = c.create_bare.new.clerk in
    let same = subst (λ (o : Option Answer). IfNone o ((new.view ≡ a.clerk.now.view) × (new.parts ≡ a.clerk.now.parts))) c.in_default.is c.in_ok-answer.ensures.none in
    let holds : holds_at new ≡ holds_at a.clerk.now = ap (λ (l : List (ℕ × Option Part)). holds_in (first_in l)) same.1 in
    let log = ap (λ (v : OcrView). own_log v.log a.edt) same.0 in (
      within.0,
      (
        within.1,
        (
          refl,
          (
            c.in_ok-answer.ensures.work,
            (
              runs_same a.job.now.turns.now.1 a.edt g.b a.clerk.now new r.1.0 same.0 same.1,
              (subst (λ (h : Holds). IsNextWith a.call.now (private_of a.call.now h) (says g.b (own_log new.view.log a.edt))) (sym holds) (subst (λ l. IsNextWith a.call.now (private_of a.call.now (holds_at a.clerk.now)) (says g.b l)) (sym log) r.1.1.0), r.1.1.1),
            ),
          ),
        ),
      ),
    )

pub returns-clause-pushed : goal.returns-clause-pushed
returns-clause-pushed g c =
    let a = c.args in let mid = c.create_bare.new in
    ok_then c.make_from.result (PushesReady mid.clerk c.make_from.new.clerk mid.hand c.make_from.new.hand) (PushesReady a.clerk.now c.make_from.new.clerk a.hand.now c.make_from.new.hand) c.make_from.ensures.pushed
    (pushes_then a.clerk.now mid.clerk c.make_from.new.clerk a.hand.now mid.hand c.make_from.new.hand c.in_ok-answer.ensures.pushed)

pub returns-clause-called : goal.returns-clause-called
returns-clause-called g c =
    let a = c.args in let new = c.create_bare.new.clerk in
    let same = subst (λ (o : Option Answer). IfNone o ((new.view ≡ a.clerk.now.view) × (new.parts ≡ a.clerk.now.parts))) c.in_default.is c.in_ok-answer.ensures.none in
    let holds : holds_at new ≡ holds_at a.clerk.now = ap (λ (l : List (ℕ × Option Part)). holds_in (first_in l)) same.1 in
    called_same c.make_from.result a.edt a.call.now a.clerk.now new c.make_from.new.clerk (ap (λ (v : OcrView). v.log) same.0) holds c.make_from.ensures.called
