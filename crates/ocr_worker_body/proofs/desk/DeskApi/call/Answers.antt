use Rattle.std.proofs.Common.{◌∙◌, ◌∷◌, refl, ap, sym, arith}
use Rattle.ocr_body_meaning.specs.Holds.{after_call}
use Rattle.ocr_worker_clerk.specs.Entry.{OcrKnown}
use Rattle.ocr_worker_clerk.proofs.Goes.{stays_both}
use Rattle.ocr_worker_access.specs.Served.{own_log}
use Rattle.ocr_worker_access.proofs.Settled.{pushed_both}
use Rattle.ocr_worker_body.specs.Given.{body_given}
use Rattle.ocr_worker_body.proofs.Desks.{holds_on, next_on, ready_on, ready_still, risen, since_then, state_on}
use Rattle.ocr_worker_body.proofs.desk.DeskApi.call.Goals as goal

pub answer-requires : goal.answer-requires
answer-requires g c κs within =
    let d = c.args.self.now in let T = d.job.now.turns.now in let P = d.job.now.program.now in let b = body_given P d.given.now in
    let off = sym c.is_some.ensures ∙ c.if-is_some.false in
    let at = ready_on d.over T P d.worker d.edt b d.clerk.now d.closings off c.requires.ready.0 in
    (within.0, (within.1, (refl, (at.work, (at.runs, (c.requires.plain, next_on d.over d.edt b d.clerk.now d.last.value c.args.call.now off c.requires.next))))))

pub returns-then-is_some-clause-refused : goal.returns-then-is_some-clause-refused
returns-then-is_some-clause-refused g c = risen c.args.self.now.closings c.raised-self.result c.raised-self.ensures

pub returns-in-Err-clause-refused : goal.returns-in-Err-clause-refused
returns-in-Err-clause-refused g c = risen c.args.self.now.closings c.raised-self-in-Err.result c.raised-self-in-Err.ensures

pub returns-in-Ok-clause-serves : goal.returns-in-Ok-clause-serves
returns-in-Ok-clause-serves g c =
    let d = c.args.self.now in let T = d.job.now.turns.now in let P = d.job.now.program.now in let b = body_given P d.given.now in
    let off = sym c.is_some.ensures ∙ c.if-is_some.false in
    let at = ready_on d.over T P d.worker d.edt b d.clerk.now d.closings off c.requires.ready.0 in
    let e = c.in-Ok.ensures in let r = c.requires.ready in
    record {
      ready = (
        ready_still d.over T P d.worker d.edt b c.answer.new.clerk d.closings off (record { work = e.work; runs = e.runs; unclosed = at.unclosed }),
        stays_both d.given.now.begun.value d.clerk.now c.answer.new.clerk r.1 e.stays,
        pushed_both d.pushed.value d.hand.now c.answer.new.hand r.2 e.hand,
        since_then d.over d.given.now.begun.value d.clerk.now c.answer.new.clerk d.pushed.value d.hand.now c.answer.new.hand r.3 e.pushed,
      );
      serves = refl;
      kept = refl;
      later = omega arith;
    }

pub returns-in-Ok-clause-ok : goal.returns-in-Ok-clause-ok
returns-in-Ok-clause-ok g c =
    let d = c.args.self.now in let T = d.job.now.turns.now in let P = d.job.now.program.now in let b = body_given P d.given.now in
    let off = sym c.is_some.ensures ∙ c.if-is_some.false in
    let at = ready_on d.over T P d.worker d.edt b d.clerk.now d.closings off c.requires.ready.0 in
    ap (λ (k : OcrKnown). own_log k.view.log d.edt) (state_on d.over c.answer.new.clerk d.last.value off)
    ∙ (c.in-Ok.ensures.called.log ∙ ap (λ (k : OcrKnown). record { call = c.args.call.now; answer = c.in-Ok.answer } ∷ own_log k.view.log d.edt) (sym (state_on d.over d.clerk.now d.last.value off)))

pub returns-in-Ok-clause-holds : goal.returns-in-Ok-clause-holds
returns-in-Ok-clause-holds g c =
    let d = c.args.self.now in let T = d.job.now.turns.now in let P = d.job.now.program.now in let b = body_given P d.given.now in
    let off = sym c.is_some.ensures ∙ c.if-is_some.false in
    let at = ready_on d.over T P d.worker d.edt b d.clerk.now d.closings off c.requires.ready.0 in
    holds_on d.over c.answer.new.clerk off ∙ (c.in-Ok.ensures.called.holds ∙ ap (after_call c.args.call.now c.in-Ok.answer) (sym (holds_on d.over d.clerk.now off)))

pub returns-in-Err-clause-serves : goal.returns-in-Err-clause-serves
returns-in-Err-clause-serves g c =
    let d = c.args.self.now in let T = d.job.now.turns.now in let P = d.job.now.program.now in let b = body_given P d.given.now in
    let off = sym c.is_some.ensures ∙ c.if-is_some.false in
    let at = ready_on d.over T P d.worker d.edt b d.clerk.now d.closings off c.requires.ready.0 in
    let e = c.in-Err.ensures in let r = c.requires.ready in let none = at.unclosed in
    record {
      ready = (e.gone, stays_both d.given.now.begun.value d.clerk.now c.answer.new.clerk r.1 e.stays, pushed_both d.pushed.value d.hand.now c.answer.new.hand r.2 e.hand, tt);
      serves = refl;
      kept = refl;
      later = omega (arith, none);
    }
