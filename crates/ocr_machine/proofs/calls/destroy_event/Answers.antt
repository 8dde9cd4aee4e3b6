use Rattle.ocr_event_any.specs.AnyEvent.{after_destroy}
use Rattle.ocr_machine_effects.proofs.Places.{event_step}
use Rattle.ocr_machine.proofs.calls.destroy_event.Goals as goal

pub returns : goal.returns
returns c = event_step c.args.parts.now c.take_event-made.new.self c.put_face.new.self c.args.event c.take_event-made.result c.destroy-code.new.self after_destroy c.take_event-made.ensures.left c.put_face.ensures c.take_event-made.ensures.was c.destroy-code.ensures.state
