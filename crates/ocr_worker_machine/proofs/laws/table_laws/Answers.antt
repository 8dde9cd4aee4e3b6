use Rattle.ocr_worker_machine.proofs.Counted.{counted}
use Rattle.ocr_worker_machine.proofs.Lawful.{lawful}
use Rattle.ocr_worker_machine.proofs.laws.table_laws.Goals as goal

pub returns-clause-lawful : goal.returns-clause-lawful
returns-clause-lawful c = lawful

pub returns-clause-counting : goal.returns-clause-counting
returns-clause-counting c = counted
