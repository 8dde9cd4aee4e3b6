use Rattle.ocr_event_any.specs.declared.AnyEvent.{AnyEvent}
use Rattle.ocr_event_any.specs.AnyEvent.{after_link}
use Rattle.ocr_machine_effects.proofs.Places.{event_step}
use Rattle.ocr_machine_effects.proofs.events.link_event.Goals as goal

pub returns-clause-parts : goal.returns-clause-parts
returns-clause-parts c = event_step c.args.parts.now c.take_event-state.new.self c.put_face.new.self c.args.event c.take_event-state.result c.link.new.self (λ (st : AnyEvent). after_link st c.args.target)
    c.take_event-state.ensures.left c.put_face.ensures c.take_event-state.ensures.was c.in_ok-linked.ensures.state
