use Rattle.std.proofs.Common.{ap}
use Rattle.ocr_body_meaning.specs.declared.call.Answer.{Answer}
use Rattle.ocr_machine_parts.specs.Effects.{with_named, new_output, new_scope}
use Rattle.ocr_machine_parts.specs.Parts.{Parts}
use Rattle.ocr_machine_effects.specs.AtHand.{state}
use Rattle.ocr_machine_effects.proofs.Places.{follow, still_face}
use Rattle.ocr_machine.proofs.creation.create_beside.Goals as goal

pub create_scope-requires : goal.create_scope-requires
create_scope-requires c = λ some. still_face c.args.parts.now c.create_output.new.parts _ c.args.answer.now.scope c.in_ok-create_output.ensures (c.requires.scope some)

pub returns : goal.returns
returns c =
    let a : Answer = c.args.answer.now in
    follow c.args.parts.now c.create_output.new.parts c.create_scope.new.parts (with_named (state c.args.parts.now) a.output new_output)
    (λ (f : Parts). with_named f a.scope (new_scope c.args.home a)) (rw (ap (λ (b : Answer). b.output) c.answer.view_is) at c.in_ok-create_output.ensures) c.create_scope.ensures
