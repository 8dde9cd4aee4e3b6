use Rattle.std.proofs.Common.{ap, ◌∙◌, List}
use Rattle.ocr_acquire.specs.declared.Mode.{Mode}
use Rattle.ocr_slots.specs.declared.Slot.{Slot}
use Rattle.ocr_slots.specs.Steps.{after_link}
use Rattle.ocr_machine_parts.specs.Calls.{mode_named}
use Rattle.ocr_machine_effects.proofs.Places.{links_step}
use Rattle.ocr_machine.proofs.calls.link_at.Goals as goal

pub returns-clause-parts : goal.returns-clause-parts
returns-clause-parts c =
    links_step c.args.parts.now c.take_slots-slots.new.self c.put_face.new.self c.args.edt c.take_slots-slots.result c.link.new.self (λ (slots : List Slot). after_link slots c.args.slot (mode_named c.args.mode))
    c.take_slots-slots.ensures.left c.put_face.ensures c.take_slots-slots.ensures.was
    (c.link.ensures.state ∙ ap (λ (m : Mode). after_link c.take_slots-slots.result c.args.slot m) c.named_mode.ensures)
