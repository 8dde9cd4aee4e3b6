use Rattle.std.specs.Prelude.{IfOk}
use Rattle.std.proofs.Common.{refl, subst, sym}
use Rattle.ocr_body_meaning.specs.Behaviour.{IsNextWith}
use Rattle.ocr_body_meaning.specs.Body.{says}
use Rattle.ocr_body_meaning.specs.Holds.{private_of}
use Rattle.ocr_body_meaning.specs.declared.call.Call as body
use Rattle.ocr_worker_access.specs.Access.{IsCalled, holds_at}
use Rattle.ocr_worker_access.specs.Served.{own_log}
use Rattle.ocr_worker_clerk.specs.Push.{PushesReady, ReadiesNone}
use Rattle.ocr_worker_clerk.proofs.Push.{pushes_none}
use Rattle.ocr_worker_access.proofs.Entered.{ok_then}
use Rattle.ocr_worker_calls.proofs.choice.make_call.Goals as goal

pub print-requires : goal.print-requires
print-requires g c = λ κs within.
    let r = c.requires.1.1 in (
      within.0,
      (
        within.1,
        (
          r.0,
          (
            r.1.0,
            subst (λ (k : body.Call). IsNextWith k (private_of k (holds_at c.args.clerk.now)) (says g.b (own_log c.args.clerk.now.view.log c.args.edt))) c.in-Print.is r.1.1.0,
          ),
        ),
      ),
    )

pub make_from-requires : goal.make_from-requires
make_from-requires g c = λ κs within.
    let r = c.requires.1.1 in (within.0, (within.1, (refl, (r.0, (r.1.0, (r.1.1.0, r.1.1.1))))))

pub returns-in-Print-clause-called : goal.returns-in-Print-clause-called
returns-in-Print-clause-called g c =
    subst (λ (k : body.Call). IfOk c.print.result (λ a. IsCalled c.args.edt k a c.args.clerk.now c.print.new.clerk)) (sym c.in-Print.is) c.print.ensures.called

pub returns-in-Print-clause-pushed : goal.returns-in-Print-clause-pushed
returns-in-Print-clause-pushed g c =
    ok_then c.print.result (ReadiesNone c.args.clerk.now c.print.new.clerk) (PushesReady c.args.clerk.now c.print.new.clerk c.args.hand.now c.args.hand.now) c.print.ensures.readied (pushes_none c.args.clerk.now c.print.new.clerk c.args.hand.now)
