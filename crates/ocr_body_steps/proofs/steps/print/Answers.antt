use Rattle.std.proofs.Common.{◌∙◌, ap, sym}
use Rattle.ocr_body_meaning.specs.Holds.{Holds}
use Rattle.ocr_body_steps.specs.Local.{state_of}
use Rattle.ocr_body_steps.proofs.StoppedSteps.{says_more, print_holds}
use Rattle.ocr_body_steps.proofs.steps.print.Goals as goal

pub returns-in-Ok-clause-ok : goal.returns-in-Ok-clause-ok
returns-in-Ok-clause-ok g c = λ k was.
    says_more (g.A.Api.serves c.args.api.now) _ _ _ _ _ _ c.in-Ok.ensures.ok was
    ∙ ap (λ (h : Holds). k (state_of c.args.frame.now.names.now h c.args.local.now)) (sym (c.in-Ok.ensures.holds ∙ print_holds c.args.value c.in-Ok.field-0 _))
