use Rattle.std.proofs.Common.{◌≡◌, ◌∷◌, [], ℕ, List, ap, inl, sym, subst, ◌∙◌}
use Rattle.ocr_body_steps.specs.Api.{answer_with}
use Rattle.ocr_body_meaning.specs.Behaviour.{IsNextWith}
use Rattle.ocr_body_meaning.specs.Body.{says}
use Rattle.ocr_body_meaning.specs.Holds.{Entered, load_of}
use Rattle.ocr_body_meaning.specs.declared.call.Call.TheVariants as call
use Rattle.ocr_machine_parts.specs.declared.part.Part.{Part}
use Rattle.ocr_worker_access.specs.Accesses.{HasWord, second_in, word_at}
use Rattle.ocr_worker_clerk.specs.Entry.{OcrKnown}
use Rattle.ocr_worker_access.specs.Access.{HasLifted, IsCalled, Runs, holds_at}
use Rattle.ocr_worker_access.specs.Served.{own_log}
use Rattle.ocr_worker_access.proofs.loads.load_shared.Goals as goal

pub lift_shared-requires : goal.lift_shared-requires
lift_shared-requires g c = λ κs lives. let r = c.requires.1.1 in (lives.0, (lives.1, (r.1.0, (r.1.1.0, (c.args.word, inl r.1.1.1.0)))))

pub shared_word-value-requires : goal.shared_word-value-requires
shared_word-value-requires g c = subst (λ (ps : List (ℕ × Part)). HasWord c.args.word (second_in ps)) (sym c.deref.ensures.value) (c.in_ok-parts.ensures.words c.args.word (inl c.requires.1.1.1.1.1.0))

pub enter_access-requires : goal.enter_access-requires
enter_access-requires g c = λ κs lives.
    let r = c.requires.1.1 in let a = c.args in let l = c.in_ok-parts.ensures in (
      lives.0,
      (
        lives.1,
        (
          l.work,
          (
            subst (λ (o : OcrKnown). Runs a.job.now.turns.now.1 a.edt g.s.0 o) (sym r.0) r.1.1.0,
            (
              subst (λ (o : OcrKnown). HasLifted a.job.now.turns.now.1 a.edt o c.lift_shared.new.clerk (a.block ∷ []) [] c.in_ok-parts.parts.items) (sym r.0) l.lifted,
              (
                subst (λ (n : ℕ). IsNextWith (call.Load n a.word) [] (says g.s.0 (own_log g.s.1.view.log a.edt))) (sym c.block.view_is)
                    (subst (λ (o : OcrKnown). IsNextWith (call.Load a.block a.word) [] (says g.s.0 (own_log o.view.log a.edt))) (sym r.0) r.1.1.1.1),
                (
                  c.block.view_is,
                  subst (λ (n : ℕ). load_of (holds_at g.s.1 n) a.word ≡ Entered) (sym c.block.view_is) (subst (λ (o : OcrKnown). load_of (holds_at o a.block) a.word ≡ Entered) (sym r.0) r.1.1.1.0),
                  c.shared_word-value.ensures ∙ ap (λ (ps : List (ℕ × Part)). word_at a.word (second_in ps)) c.deref.ensures.value,
                ),
              ),
            ),
          ),
        ),
      ),
    )

pub returns-clause-called : goal.returns-clause-called
returns-clause-called g c =
    let r = c.requires.1.1 in
    subst (λ (n : ℕ). IsCalled c.args.edt (call.Load n c.args.word) (answer_with c.shared_word-value.result) c.args.clerk.now c.enter_access.new.clerk) c.block.view_is
    (subst (λ (o : OcrKnown). IsCalled c.args.edt (call.Load c.block.inside.0 c.args.word) (answer_with c.shared_word-value.result) o c.enter_access.new.clerk) r.0 c.in_ok-enter_access.ensures.called)
