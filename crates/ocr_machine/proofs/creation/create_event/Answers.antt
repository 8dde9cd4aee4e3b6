use Rattle.std.proofs.Common.{refl}
use Rattle.ocr_machine_effects.proofs.Places.{face_made}
use Rattle.ocr_machine.proofs.creation.create_event.Goals as goal

pub returns : goal.returns
returns c = rw (c.put_face.ensures, c.in_ok-made.ensures, c.event_of-state.ensures) (face_made c.args.parts.now c.args.event _ c.requires.face refl)
