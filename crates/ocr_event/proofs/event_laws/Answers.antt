use Rattle.ocr_event.proofs.Laws.{destroyed_law, delivery_law}
use Rattle.ocr_event.proofs.event_laws.Goals as goal

pub returns-clause-destroyed : goal.returns-clause-destroyed
returns-clause-destroyed c = destroyed_law

pub returns-clause-delivery : goal.returns-clause-delivery
returns-clause-delivery c = delivery_law
