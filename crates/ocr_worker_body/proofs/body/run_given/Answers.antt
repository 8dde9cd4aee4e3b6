use Rattle.std.specs.Prelude.{OnOk}
use Rattle.std.proofs.Common.{◌≡◌, ◌∙◌, Option, None, is_some, ap, sym, subst, refl}
use Rattle.std.proofs.lemmas.Result.{IfOk-weaker}
use Rattle.ocr_base.specs.Count.{Rose}
use Rattle.ocr_steal.specs.declared.hand.Hand.{Hand}
use Rattle.ocr_body_steps.specs.Api.{StoppedBy}
use Rattle.ocr_body_meaning.specs.Behaviour.{Behaviour, Ends}
use Rattle.ocr_worker_clerk.specs.Entry.{OcrKnown}
use Rattle.ocr_worker_clerk.specs.Push.{PushesReady}
use Rattle.ocr_worker_clerk.specs.Work.{Stays}
use Rattle.ocr_worker_clerk.proofs.Push.{pushes_then}
use Rattle.ocr_worker_access.specs.Access.{holds_at}
use Rattle.ocr_worker_body.specs.Given.{body_given}
use Rattle.ocr_worker_body.specs.Body.{EndsNow, PushesSince}
use Rattle.ocr_worker_body.proofs.Returns.{ends_after}
use Rattle.ocr_worker_body.proofs.Desks.{body_cause, err_then, holds_on, on_ok_then, pushed_so, said_now, walked}
use Rattle.ocr_worker_body.proofs.body.run_given.Goals as goal

pub returns-in-Some-clause-hand : goal.returns-in-Some-clause-hand
returns-in-Some-clause-hand g c = let e = c.walk-ending.ensures in pushed_so _ _ _ _ ((λ i. (e.kept i).3.now) ∙ c.of-pushed.ensures) (c.in-Some.hand-1-own.given.1 (λ i. (sym e.kept i).3.ghost_name)) e.ready.2

pub end_body-requires : goal.end_body-requires
end_body-requires g c κs within =
    let J = c.args.job.now in let e = c.walk-ending.ensures in let d = c.walk-ending.new.api in let body = c.requires.1.1.0 in
    let own = body_given d.job.now.program.now d.given.now in
    let edts : d.edt ≡ c.args.edt = λ i. (e.kept i).4 in
    let at = walked d.over d.job.now.turns.now J.turns.now d.job.now.program.now J.program.now d.worker d.edt c.args.edt own g.b d.clerk.now d.closings c.in_default.is
    (λ i. (e.kept i).0.now.turns.now) (λ i. (e.kept i).0.now.program.now) edts (e.serves ∙ sym body) e.ready.0 in
    let said = said_now d.over g.b (body_given J.program.now c.args.given.now) d.edt c.args.edt d.clerk.now d.last.value c.in_default.is (sym body) edts in
    let holds = holds_on d.over d.clerk.now (ap is_some c.in_default.is) in (
      within.0,
      (
        within.1,
        (
          at.work,
          (
            at.runs.serves,
            (
              IfOk-weaker c.walk-ending.result _ _ (λ r ok. record { holds = holds_at d.clerk.now; runs = at.runs; ends = sym said ∙ (ok ∙ ap (Ends r) holds); left = λ h some. refl }) e.ok,
              err_then c.walk-ending.result _ _ (λ stop err. body_cause J.turns.now J.program.now c.args.edt g.b d.clerk.now 0 d.closings stop at refl (subst (λ (x : Behaviour). StoppedBy x (Rose 0 d.closings) stop) said err)) e.err,
            ),
          ),
        ),
      ),
    )

pub returns-clause-ended : goal.returns-clause-ended
returns-clause-ended g c =
    let e = c.walk-ending.ensures in let d = c.walk-ending.new.api in let a = c.args in
    let began : d.given.now.begun.value ≡ a.clerk.now = (λ i. (e.kept i).2.now) ∙ c.requires.1.1.1.1.begun in
    let stays = subst (λ (k : OcrKnown). Stays k d.clerk.now) began e.ready.1 in
    let last : c.clerk-2-1.given.0 ≡ c.end_body.new.clerk = c.clerk-2-1.given.1 (λ i. (sym e.kept i).2.ghost_name) in
    subst (λ (k : OcrKnown). OnOk c.end_body.result (EndsNow a.edt a.clerk.now k)) (sym last)
    (on_ok_then c.end_body.result (EndsNow a.edt d.clerk.now c.end_body.new.clerk) _ (ends_after a.edt a.clerk.now d.clerk.now c.end_body.new.clerk stays) c.end_body.ensures.ended)

-- what was pushed in the body, where the run was not found ended
since_begun : {A : Type 0} (o : Option A) (begun old mid : OcrKnown) (start before between : Hand) → o ≡ None → begun ≡ old → start ≡ before → PushesSince o begun mid start between → PushesReady old mid before between
since_begun {A} o begun old mid start before between none began first since =
    subst (λ (h : Hand). PushesReady old mid h between) first (subst (λ (k : OcrKnown). PushesReady k mid start between) began (subst (λ (p : Option A). PushesSince p begun mid start between) none since))

pub returns-clause-pushed : goal.returns-clause-pushed
returns-clause-pushed g c =
    let e = c.walk-ending.ensures in let d = c.walk-ending.new.api in let a = c.args in
    let began : d.given.now.begun.value ≡ a.clerk.now = (λ i. (e.kept i).2.now) ∙ c.requires.1.1.1.1.begun in
    let first : d.pushed.value ≡ a.hand.now = (λ i. (e.kept i).3.now) ∙ c.of-pushed.ensures in
    let since = since_begun d.over d.given.now.begun.value a.clerk.now d.clerk.now d.pushed.value a.hand.now d.hand.now c.in_default.is began first e.ready.3 in
    let last : c.clerk-2-1.given.0 ≡ c.end_body.new.clerk = c.clerk-2-1.given.1 (λ i. (sym e.kept i).2.ghost_name) in
    let left : c.hand-2-1.given.0 ≡ c.end_body.new.hand = c.hand-2-1.given.1 (λ i. (sym e.kept i).3.ghost_name) in
    subst (λ (k : OcrKnown). OnOk c.end_body.result (PushesReady a.clerk.now k a.hand.now c.hand-2-1.given.0)) (sym last)
    (subst (λ (h : Hand). OnOk c.end_body.result (PushesReady a.clerk.now c.end_body.new.clerk a.hand.now h)) (sym left)
    (on_ok_then c.end_body.result _ _ (pushes_then a.clerk.now d.clerk.now c.end_body.new.clerk a.hand.now d.hand.now c.end_body.new.hand since) c.end_body.ensures.pushed))
