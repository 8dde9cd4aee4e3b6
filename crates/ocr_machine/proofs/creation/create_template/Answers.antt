use Rattle.std.proofs.Common.{refl}
use Rattle.ocr_machine_effects.proofs.Places.{face_made}
use Rattle.ocr_machine.proofs.creation.create_template.Goals as goal

pub returns : goal.returns
returns c = rw c.put_face.ensures (face_made c.args.parts.now c.args.template _ c.requires refl)
