use Rattle.std.proofs.Common.{◌≡◌, ◌∙◌, ap, sym, refl, Option, ℕ}
use Rattle.ocr_program_tree.specs.Tree.{names_in}
use Rattle.ocr_body_meaning.specs.Meaning.{Value}
use Rattle.ocr_body_code.specs.Code.{arguments_at}
use Rattle.ocr_body_steps.specs.Given.{IsFirst, given_of, output_at, way_step}
use Rattle.ocr_body_steps.specs.Local.{state_of, frame_of, numbers_of}
use Rattle.ocr_body_steps.specs.Steps.{made_part, way_part}
use Rattle.ocr_body_steps.proofs.Made.{stands, wanted, made_alike}
use Rattle.ocr_body_steps.proofs.Alike.{begins_alike, has_alike}
use Rattle.ocr_body_steps.proofs.calls.make_named.Goals as goal

pub go-requires-clause-begins : goal.go-requires-clause-begins
go-requires-clause-begins g c =
    let names = c.args.frame.now.names.now in
    let numbers = numbers_of c.args.frame.now in
    let f = frame_of c.args.frame.now in
    let xs = arguments_at names c.args._args.now in
    let st = state_of names (g.A.Api.holds c.args.api.now) c.args.local.now in
    let first : IsFirst numbers names (names_in xs) c.args.named = c.requires.first in
    let alike : (k : Value) → made_part c.args.frame.now c.args.name c.args._args.now c.args.given.now (g.A.Api.holds c.args.api.now) c.args.local.now k
    ≡ way_part c.args.frame.now c.way_of.result c.in-Ok.call c.output_of.result (g.A.Api.holds c.args.api.now) c.args.local.now k =
    λ k. made_alike numbers names f c.args.name xs (given_of c.args.given.now) c.args.named c.in-Ok.call c.way_of.result first
    (c.in-Ok.ensures f xs (wanted numbers names f xs c.args.named c.args.name c.number_of.result refl c.requires.named first c.number_of.ensures) (stands numbers names (names_in xs) c.args.named first ∙ sym c.is_some.ensures))
    c.way_of.ensures.step st k
    ∙ ap (λ (o : Option ℕ). way_step c.way_of.result c.in-Ok.call (output_at names o) st k) (sym c.output_of.ensures) in
    begins_alike _ _ _ alike c.requires.begins

pub returns-clause-ok : goal.returns-clause-ok
returns-clause-ok g c =
    let names = c.args.frame.now.names.now in
    let numbers = numbers_of c.args.frame.now in
    let f = frame_of c.args.frame.now in
    let xs = arguments_at names c.args._args.now in
    let st = state_of names (g.A.Api.holds c.args.api.now) c.args.local.now in
    let first : IsFirst numbers names (names_in xs) c.args.named = c.requires.first in
    let alike : (k : Value) → made_part c.args.frame.now c.args.name c.args._args.now c.args.given.now (g.A.Api.holds c.args.api.now) c.args.local.now k
    ≡ way_part c.args.frame.now c.way_of.result c.in-Ok.call c.output_of.result (g.A.Api.holds c.args.api.now) c.args.local.now k =
    λ k. made_alike numbers names f c.args.name xs (given_of c.args.given.now) c.args.named c.in-Ok.call c.way_of.result first
    (c.in-Ok.ensures f xs (wanted numbers names f xs c.args.named c.args.name c.number_of.result refl c.requires.named first c.number_of.ensures) (stands numbers names (names_in xs) c.args.named first ∙ sym c.is_some.ensures))
    c.way_of.ensures.step st k
    ∙ ap (λ (o : Option ℕ). way_step c.way_of.result c.in-Ok.call (output_at names o) st k) (sym c.output_of.ensures) in
    has_alike _ _ _ _ _ _ alike c.go.ensures.ok
