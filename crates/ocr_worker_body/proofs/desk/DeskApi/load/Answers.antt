use Rattle.std.proofs.Common.{ℕ, ◌∙◌, refl, sym, subst}
use Rattle.ocr_base.specs.Count.{Rose}
use Rattle.ocr_body_meaning.specs.Holds.{Holds, load_of}
use Rattle.ocr_body_steps.specs.Api.{IsAccessStop}
use Rattle.ocr_body_meaning.specs.declared.call.BodyStop.TheVariants as stop
use Rattle.ocr_worker_access.specs.Access.{holds_at}
use Rattle.ocr_worker_body.specs.Given.{body_given}
use Rattle.ocr_worker_body.proofs.Desks.{access_closed, fit_over, holds_on, load_on, load_over, raised_rose, ready_on}
use Rattle.ocr_worker_body.proofs.desk.DeskApi.load.Goals as goal

pub load_word-requires : goal.load_word-requires
load_word-requires g c κs within =
    let d = c.args.self.now in let T = d.job.now.turns.now in let P = d.job.now.program.now in let b = body_given P d.given.now in
    let off = sym c.is_some.ensures ∙ c.if-is_some.false in
    let at = ready_on d.over T P d.worker d.edt b d.clerk.now d.closings off c.requires.ready.0 in
    (within.0, (within.1, (refl, (at.work, (at.runs, load_on d.over d.edt c.args.block c.args.word b d.clerk.now d.last.value off c.requires.next)))))

pub returns-then-is_some-clause-refused : goal.returns-then-is_some-clause-refused
returns-then-is_some-clause-refused g c = load_over c.args.self.now.over c.args.self.now.clerk.now c.args.block c.args.word _ (sym c.is_some.ensures ∙ c.if-is_some.true)

pub returns-in-Err-Over-clause-refused : goal.returns-in-Err-Over-clause-refused
returns-in-Err-Over-clause-refused g c =
    let d = c.args.self.now in
    let off = sym c.is_some.ensures ∙ c.if-is_some.false in
    let rose = Rose d.closings c.raised-self.result in
    subst (λ (h : Holds). IsAccessStop (load_of (h c.args.block) c.args.word) rose stop.Closed) (sym (holds_on d.over d.clerk.now off))
    (access_closed (load_of (holds_at d.clerk.now c.args.block) c.args.word) rose (fit_over ℕ c.in-Err-Over.field-0 c.in-Err-Over.over _ c.in-Err-Over.field-0-is c.in-Err-Over.ensures.fit) (raised_rose d.closings c.raised-self.result c.raised-self.ensures))
