use Rattle.std.proofs.Common.{refl}
use Rattle.ocr_machine_parts.specs.declared.part.Part.TheVariants as part
use Rattle.ocr_machine_effects.proofs.Places.{edt_made, into}
use Rattle.ocr_machine.proofs.creation.create_edt.Goals as goal

pub returns : goal.returns
returns c =
    into c.args.parts.now c.put_core.new.self _ _
    (edt_made c.args.parts.now c.put_core.new.self c.args.identity.edt (part.Edt c.in_ok-slots.slots) (part.Core c.in_ok-core.core) (rw (c.put_core.ensures, c.put_face.ensures, c.edt.view_is) refl) c.requires.face c.requires.core refl refl)
    (rw (c.in_ok-slots.ensures, c.in_ok-core.ensures, c.as_slice.ensures, c.meant_count-count.ensures) refl)
