use Rattle.std.proofs.Common.{ap, refl, ◌/◌}
use Rattle.ocr_datablock.specs.Block.{State}
use Rattle.ocr_machine_parts.specs.declared.part.Part.TheVariants as part
use Rattle.ocr_machine_parts.specs.Effects.{creating_core}
use Rattle.ocr_machine_parts.specs.Progress.{with_face, with_core}
use Rattle.ocr_machine_parts.specs.Kinds.{on_core}
use Rattle.ocr_machine_parts.specs.Parts.{Parts}
use Rattle.ocr_machine_effects.specs.AtHand.{state}
use Rattle.ocr_machine_effects.proofs.Places.{core_step, face_then, into}
use Rattle.ocr_machine.proofs.creation.create_block.Goals as goal

pub returns : goal.returns
returns c =
    let h = c.args.parts.now in
    let f : Parts = state h in
    let t = c.args.edt in
    let size = c.args.length / 8 in
    let after = with_core f t (on_core (f.core t) (creating_core c.args.flags c.args.block size)) in
    into h c.put_face.new.self _ _
    (face_then h c.put_core.new.self c.put_face.new.self after c.args.block (part.Block c.in_ok-state.state)
    (core_step h c.take_core-core.new.self c.put_core.new.self t c.take_core-core.result c.hold_made.new.core (creating_core c.args.flags c.args.block size) c.take_core-core.ensures.left c.put_core.ensures c.take_core-core.ensures.was c.in_ok-hold_made.ensures)
    c.put_face.ensures c.requires.face refl)
    (ap (λ (st : State). with_face after c.args.block (part.Block st)) (rw (c.in_ok-state.ensures, c.in_ok-made.ensures, c.creator.ensures) refl))
