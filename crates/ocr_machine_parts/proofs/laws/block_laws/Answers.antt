use Rattle.ocr_machine_parts.proofs.Allowed.{allowed_law, free_law}
use Rattle.ocr_machine_parts.proofs.Awaited.{awaited_law}
use Rattle.ocr_machine_parts.proofs.Lent.{lent_law}
use Rattle.ocr_machine_parts.proofs.laws.block_laws.Goals as goal

pub returns-clause-lent : goal.returns-clause-lent
returns-clause-lent c = lent_law

pub returns-clause-allowed : goal.returns-clause-allowed
returns-clause-allowed c = allowed_law

pub returns-clause-free : goal.returns-clause-free
returns-clause-free c = free_law

pub returns-clause-awaited : goal.returns-clause-awaited
returns-clause-awaited c = awaited_law
