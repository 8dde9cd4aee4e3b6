use Rattle.std.proofs.Common.{◌≡◌, ◌==◌, false, arith}
use Rattle.std.proofs.lemmas.Grind.{common_steps}
use Rattle.ocr_machine_parts.specs.Effects.{new_output}
use Rattle.ocr_machine_effects.proofs.Places.{named_made}
use Rattle.ocr_machine.proofs.creation.create_output.Goals as goal

pub returns-in_ok-create_event : goal.returns-in_ok-create_event
returns-in_ok-create_event c =
    let some : (c.args.output == 0) ≡ false = grind (arith, common_steps, c.if-output-ne0.true) in
    named_made c.args.parts.now c.create_event.new.parts c.args.output new_output some c.in_ok-create_event.ensures
