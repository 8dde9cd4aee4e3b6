use Rattle.std.proofs.Common.{◌≡◌, ◌∙◌}
use Rattle.ocr_machine_parts.specs.Kinds.{home_on}
use Rattle.ocr_machine_effects.specs.AtHand.{state}
use Rattle.ocr_machine.proofs.Accepted.{slots_most, deps_given, own_home, room, block_dooms, block_live, template_there, event_there}
use Rattle.ocr_machine.proofs.calls.call_step.Goals as goal

pub make_edt-requires-clause-slots : goal.make_edt-requires-clause-slots
make_edt-requires-clause-slots c = slots_most _ _ _ _ _ _ _ _ _ _ _ _ (rw c.in-EdtCreate.is at c.requires.accepted)

pub make_edt-requires-clause-deps : goal.make_edt-requires-clause-deps
make_edt-requires-clause-deps c = deps_given _ _ _ _ _ _ _ _ _ _ _ _ (rw c.in-EdtCreate.is at c.requires.accepted)

pub make_edt-requires-clause-room : goal.make_edt-requires-clause-room
make_edt-requires-clause-room c = room _ _ _ _ _ _ _ _ _ _ _ _ (rw c.in-EdtCreate.is at c.requires.accepted)

pub returns-in_ok-messages-in-AddDependence-clause-parts : goal.returns-in_ok-messages-in-AddDependence-clause-parts
returns-in_ok-messages-in-AddDependence-clause-parts c = rw c.in-AddDependence.is c.in_ok-messages-in-AddDependence.ensures.parts

pub returns-in_ok-messages-in-Satisfy-clause-parts : goal.returns-in_ok-messages-in-Satisfy-clause-parts
returns-in_ok-messages-in-Satisfy-clause-parts c = rw c.in-Satisfy.is c.in_ok-messages-in-Satisfy.ensures.parts

pub returns-in_ok-messages-in-EdtCreate-clause-parts : goal.returns-in_ok-messages-in-EdtCreate-clause-parts
returns-in_ok-messages-in-EdtCreate-clause-parts c =
    let own : c.args.home ≡ home_on ((state c.args.parts.now).core c.args.edt) = own_home _ _ _ _ _ _ _ _ _ _ _ _ (rw c.in-EdtCreate.is at c.requires.accepted) in
    rw (c.in-EdtCreate.is, ← own) c.in_ok-messages-in-EdtCreate.ensures.parts

pub returns-in_ok-messages-in-EdtCreate-clause-messages : goal.returns-in_ok-messages-in-EdtCreate-clause-messages
returns-in_ok-messages-in-EdtCreate-clause-messages c = rw c.in-EdtCreate.is (c.only_sent-in-EdtCreate.ensures.messages ∙ c.in_ok-messages-in-EdtCreate.ensures.messages)

pub returns-in-Store-clause-parts : goal.returns-in-Store-clause-parts
returns-in-Store-clause-parts c = rw c.in-Store.is c.store_at.ensures

pub destroy-requires-clause-agreed : goal.destroy-requires-clause-agreed
destroy-requires-clause-agreed c = block_dooms _ _ _ _ _ _ (rw c.in-DbDestroy.is at c.requires.accepted)

pub destroy-requires-clause-live : goal.destroy-requires-clause-live
destroy-requires-clause-live c = block_live _ _ _ _ _ _ (rw c.in-DbDestroy.is at c.requires.accepted)

pub doom_template-requires : goal.doom_template-requires
doom_template-requires c = template_there _ _ _ _ _ _ (rw c.in-TemplateDestroy.is at c.requires.accepted)

pub returns-in-TemplateDestroy-clause-parts : goal.returns-in-TemplateDestroy-clause-parts
returns-in-TemplateDestroy-clause-parts c = rw c.in-TemplateDestroy.is c.doom_template.ensures

pub destroy_event-requires : goal.destroy_event-requires
destroy_event-requires c = event_there _ _ _ _ _ _ (rw c.in-EventDestroy.is at c.requires.accepted)

pub returns-in-EventDestroy-clause-parts : goal.returns-in-EventDestroy-clause-parts
returns-in-EventDestroy-clause-parts c = rw c.in-EventDestroy.is c.destroy_event.ensures
