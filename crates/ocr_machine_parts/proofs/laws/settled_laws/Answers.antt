use Rattle.ocr_machine_parts.proofs.Local.{settled_legal_law}
use Rattle.ocr_machine_parts.proofs.Settled.{settled_law}
use Rattle.ocr_machine_parts.proofs.laws.settled_laws.Goals as goal

pub returns-clause-settled : goal.returns-clause-settled
returns-clause-settled c = settled_law

pub returns-clause-legal : goal.returns-clause-legal
returns-clause-legal c = settled_legal_law
