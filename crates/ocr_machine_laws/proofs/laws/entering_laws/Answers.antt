use Rattle.ocr_machine_laws.proofs.Callers.{call_law}
use Rattle.ocr_machine_laws.proofs.Deliveries.{deliver_law}
use Rattle.ocr_machine_laws.proofs.Runners.{free_law, end_law}
use Rattle.ocr_machine_laws.proofs.laws.entering_laws.Goals as goal

pub returns-clause-call : goal.returns-clause-call
returns-clause-call c = call_law

pub returns-clause-deliver : goal.returns-clause-deliver
returns-clause-deliver c = deliver_law

pub returns-clause-free : goal.returns-clause-free
returns-clause-free c = free_law

pub returns-clause-end : goal.returns-clause-end
returns-clause-end c = end_law
