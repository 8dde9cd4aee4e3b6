use Rattle.ocr_event_any.proofs.Laws.{satisfy_law, link_law, destroy_law}
use Rattle.ocr_event_any.proofs.any_event_laws.Goals as goal

pub returns-clause-satisfy : goal.returns-clause-satisfy
returns-clause-satisfy c = satisfy_law

pub returns-clause-link : goal.returns-clause-link
returns-clause-link c = link_law

pub returns-clause-destroy : goal.returns-clause-destroy
returns-clause-destroy c = destroy_law
