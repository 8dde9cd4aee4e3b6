use Rattle.std.proofs.Common.{◌≡◌, ◌∷◌, [], ℕ, inr, refl, sym, subst}
use Rattle.std.specs.Prelude.{OnOk}
use Rattle.ocr_body_steps.specs.Api.{answer_with}
use Rattle.ocr_body_meaning.specs.Behaviour.{IsNextWith}
use Rattle.ocr_body_meaning.specs.Body.{says}
use Rattle.ocr_body_meaning.specs.Holds.{Entered, store_of}
use Rattle.ocr_body_meaning.specs.declared.call.Call.TheVariants as call
use Rattle.ocr_worker_clerk.specs.Entry.{OcrKnown}
use Rattle.ocr_worker_clerk.proofs.Push.{readies_ok}
use Rattle.ocr_worker_access.specs.Access.{HasLifted, IsCalled, Runs, holds_at}
use Rattle.ocr_worker_access.specs.Served.{own_log}
use Rattle.ocr_worker_access.proofs.stores.store_shared.Goals as goal

pub lift_shared-requires : goal.lift_shared-requires
lift_shared-requires g c = λ κs lives. let r = c.requires.1.1 in (lives.0, (lives.1, (r.1.0, (r.1.1.0, (c.args.word, inr r.1.1.1.0)))))

pub enter_access-requires : goal.enter_access-requires
enter_access-requires g c = λ κs lives.
    let r = c.requires.1.1 in let a = c.args in let l = c.in_ok-parts.ensures in (
      lives.0,
      (
        lives.1,
        (
          l.work,
          (
            subst (λ (o : OcrKnown). Runs a.job.now.turns.now.1 a.edt g.s.0 o) (sym r.0) r.1.1.0,
            (
              subst (λ (o : OcrKnown). HasLifted a.job.now.turns.now.1 a.edt o c.lift_shared.new.clerk (a.block ∷ []) [] c.in_ok-parts.parts.items) (sym r.0) l.lifted,
              (
                subst (λ (n : ℕ). IsNextWith (call.Store n a.word a.value) [] (says g.s.0 (own_log g.s.1.view.log a.edt))) (sym c.block.view_is)
                    (subst (λ (o : OcrKnown). IsNextWith (call.Store a.block a.word a.value) [] (says g.s.0 (own_log o.view.log a.edt))) (sym r.0) r.1.1.1.1),
                (
                  c.block.view_is,
                  subst (λ (n : ℕ). store_of (holds_at g.s.1 n) a.word ≡ Entered) (sym c.block.view_is) (subst (λ (o : OcrKnown). store_of (holds_at o a.block) a.word ≡ Entered) (sym r.0) r.1.1.1.0),
                  refl,
                ),
              ),
            ),
          ),
        ),
      ),
    )

pub returns-clause-called : goal.returns-clause-called
returns-clause-called g c =
    let r = c.requires.1.1 in
    subst (λ (n : ℕ). OnOk c.enter_access.result (IsCalled c.args.edt (call.Store n c.args.word c.args.value) (answer_with 0) c.args.clerk.now c.enter_access.new.clerk)) c.block.view_is
    (subst (λ (o : OcrKnown). OnOk c.enter_access.result (IsCalled c.args.edt (call.Store c.block.inside.0 c.args.word c.args.value) (answer_with 0) o c.enter_access.new.clerk)) r.0 c.enter_access.ensures.called)

pub returns-clause-readied : goal.returns-clause-readied
returns-clause-readied g c = readies_ok c.enter_access.result c.args.clerk.now c.lift_shared.new.clerk c.enter_access.new.clerk c.in_ok-parts.ensures.readied c.enter_access.ensures.readied
