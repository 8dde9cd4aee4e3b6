use Rattle.ocr_latch.proofs.Laws.{destroyed_law, link_law, delivery_law}
use Rattle.ocr_latch.proofs.latch_laws.Goals as goal

pub returns-clause-link : goal.returns-clause-link
returns-clause-link c = link_law

pub returns-clause-destroyed : goal.returns-clause-destroyed
returns-clause-destroyed c = destroyed_law

pub returns-clause-delivery : goal.returns-clause-delivery
returns-clause-delivery c = delivery_law
