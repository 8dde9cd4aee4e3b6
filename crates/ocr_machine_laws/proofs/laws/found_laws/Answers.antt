use Rattle.ocr_machine_laws.proofs.Found.{found_law, unchanged_law}
use Rattle.ocr_machine_laws.proofs.laws.found_laws.Goals as goal

pub returns-clause-found : goal.returns-clause-found
returns-clause-found c = found_law

pub returns-clause-unchanged : goal.returns-clause-unchanged
returns-clause-unchanged c = unchanged_law
