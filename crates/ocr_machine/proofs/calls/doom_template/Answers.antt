use Rattle.ocr_machine_parts.specs.Effects.{doomed_template}
use Rattle.std.proofs.Common.{refl}
use Rattle.ocr_machine_effects.proofs.Places.{template_step}
use Rattle.ocr_machine.proofs.calls.doom_template.Goals as goal

pub returns : goal.returns
returns c = template_step c.args.parts.now c.put_face.new.self c.args.template c.template-made.result _ doomed_template c.put_face.ensures c.template-made.ensures refl
