use Rattle.ocr_event_any.specs.declared.AnyEvent.{AnyEvent}
use Rattle.ocr_event_any.specs.AnyEvent.{after_satisfy}
use Rattle.ocr_machine_effects.proofs.Places.{event_step, ok_any}
use Rattle.ocr_machine_effects.proofs.events.satisfy_at.Goals as goal

pub returns-clause-parts : goal.returns-clause-parts
returns-clause-parts c = ok_any c.set_off.result (event_step c.args.parts.now c.take_event-state.new.self c.put_face.new.self c.args.event c.take_event-state.result c.satisfy.new.self (λ (st : AnyEvent). after_satisfy st c.args.slot c.args.payload)
    c.take_event-state.ensures.left c.put_face.ensures c.take_event-state.ensures.was c.in_ok-answer.ensures.state)
