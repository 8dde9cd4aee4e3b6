use Rattle.std.proofs.Common.{◌≡◌, ◌∙◌, ap, sym, Option, ℕ}
use Rattle.ocr_guid.specs.Code.{number_of}
use Rattle.ocr_body_meaning.specs.Holds.{after_call}
use Rattle.ocr_body_meaning.specs.Meaning.{with_variable, state_after_answer}
use Rattle.ocr_body_meaning.specs.declared.call.Answer.{Answer}
use Rattle.ocr_body_code.specs.Code.{name_at}
use Rattle.ocr_body_steps.specs.Given.{output_at}
use Rattle.ocr_body_steps.specs.Local.{state_of}
use Rattle.ocr_body_steps.proofs.StoppedSteps.{coded_value}
use Rattle.ocr_body_steps.proofs.steps.ask.Goals as goal

pub returns-in-Some-clause-ok : goal.returns-in-Some-clause-ok
returns-in-Some-clause-ok g c =
    let names = c.args.frame.now.names.now in
    let made = c.args.call.now in
    let before = state_of names (g.A.Api.holds c.args.api.now) c.args.local.now in
    let code : c.number-local.result ≡ number_of c.in-Ok.answer.code = c.number-local.ensures ∙ ap (λ (a : Answer). number_of a.code) c.answer.view_is in
    let held : g.A.Api.holds c.call.new.self ≡ after_call made c.in-Ok.answer before.holds = c.in-Ok.ensures.holds in
    let state : state_of names (g.A.Api.holds c.call.new.self) c.assign.new.local ≡ state_after_answer made (output_at names c.args.output) c.in-Ok.answer before =
    c.assign.ensures.state
    ∙ (λ i. with_variable (name_at names c.in-Some.place) ((c.answer.view_is i).output) (record { fuel = before.fuel; code = code i; variables = before.variables; holds = held i }))
    ∙ ap (λ (o : Option ℕ). state_after_answer made (output_at names o) c.in-Ok.answer before) (sym c.in-Some.is) in
    coded_value (g.A.Api.serves c.args.api.now) _ _ made (output_at names c.args.output) c.in-Ok.answer before _ _ c.in-Ok.ensures.ok (ap (λ (a : Answer). a.value) c.answer.view_is) state

pub returns-in_default-clause-ok : goal.returns-in_default-clause-ok
returns-in_default-clause-ok g c =
    let names = c.args.frame.now.names.now in
    let made = c.args.call.now in
    let before = state_of names (g.A.Api.holds c.args.api.now) c.args.local.now in
    let code : c.number-local.result ≡ number_of c.in-Ok.answer.code = c.number-local.ensures ∙ ap (λ (a : Answer). number_of a.code) c.answer.view_is in
    let held : g.A.Api.holds c.call.new.self ≡ after_call made c.in-Ok.answer before.holds = c.in-Ok.ensures.holds in
    let state : state_of names (g.A.Api.holds c.call.new.self) (record c.args.local.now { code = c.number-local.result }) ≡ state_after_answer made (output_at names c.args.output) c.in-Ok.answer before =
    (λ i. record { fuel = before.fuel; code = code i; variables = before.variables; holds = held i })
    ∙ ap (λ (o : Option ℕ). state_after_answer made (output_at names o) c.in-Ok.answer before) (sym c.in_default.is) in
    coded_value (g.A.Api.serves c.args.api.now) _ _ made (output_at names c.args.output) c.in-Ok.answer before _ _ c.in-Ok.ensures.ok (ap (λ (a : Answer). a.value) c.answer.view_is) state
