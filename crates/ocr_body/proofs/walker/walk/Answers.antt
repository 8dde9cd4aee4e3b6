use Rattle.std.proofs.Common.{◌≡◌, ◌∙◌, refl}
use Rattle.ocr_body_meaning.specs.Behaviour.{Ends}
use Rattle.ocr_body_code.specs.Checked.{checked_tree}
use Rattle.ocr_body_code.specs.Code.{statements_in}
use Rattle.ocr_program_tree.specs.Functions.{statements_at}
use Rattle.ocr_body_meaning.specs.declared.call.BodyStop.TheVariants as stop
use Rattle.ocr_body.proofs.Start.{starts, state_is_fresh}
use Rattle.ocr_body.proofs.Turns.{flowed_on}
use Rattle.ocr_body.proofs.walker.walk.Goals as goal

pub exec_all-requires-clause-begins : goal.exec_all-requires-clause-begins
exec_all-requires-clause-begins g c =
    let body : statements_in c.deref.result.now c.deref-2.result.now ≡ statements_at (checked_tree c.args.program.now) c.args.function =
    (λ i. statements_in (c.deref.ensures.value i) (c.deref-2.ensures.value i)) ∙ c.function-code.ensures.body in (
      λ st. Ends 0 st.holds,
      starts _ _ (checked_tree c.args.program.now) c.args.function c.args.params.now c.args.deps.now (g.A.Api.holds c.args.api.now) c.args.fuel _ _ c.requires.serves c.requires.fresh body
          (state_is_fresh c.deref.result.now (g.A.Api.holds c.args.api.now) (record { fuel = c.args.fuel; code = 0; values = c.in_ok-values.values; stop = stop.NoMemory; returned = 0 }) c.args.fuel _ refl refl c.in_ok-values.ensures),
    )

pub returns-in-Next-clause-ok : goal.returns-in-Next-clause-ok
returns-in-Next-clause-ok g c =
    let body : statements_in c.deref.result.now c.deref-2.result.now ≡ statements_at (checked_tree c.args.program.now) c.args.function =
    (λ i. statements_in (c.deref.ensures.value i) (c.deref-2.ensures.value i)) ∙ c.function-code.ensures.body in
    flowed_on _ _ _ _ _ _ c.in-Next.is c.in-Ok.ensures.ok (λ st. Ends 0 st.holds)
    (starts _ _ (checked_tree c.args.program.now) c.args.function c.args.params.now c.args.deps.now (g.A.Api.holds c.args.api.now) c.args.fuel _ _ c.requires.serves c.requires.fresh body
    (state_is_fresh c.deref.result.now (g.A.Api.holds c.args.api.now) (record { fuel = c.args.fuel; code = 0; values = c.in_ok-values.values; stop = stop.NoMemory; returned = 0 }) c.args.fuel _ refl refl c.in_ok-values.ensures))
