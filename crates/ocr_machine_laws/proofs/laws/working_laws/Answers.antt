use Rattle.ocr_machine_laws.proofs.Works.{freeing_law, dooming_law, sharing_law}
use Rattle.ocr_machine_laws.proofs.laws.working_laws.Goals as goal

pub returns-clause-freeing : goal.returns-clause-freeing
returns-clause-freeing c = freeing_law

pub returns-clause-dooming : goal.returns-clause-dooming
returns-clause-dooming c = dooming_law

pub returns-clause-sharing : goal.returns-clause-sharing
returns-clause-sharing c = sharing_law
