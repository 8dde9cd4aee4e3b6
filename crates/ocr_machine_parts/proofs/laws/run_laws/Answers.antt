use Rattle.ocr_machine_parts.proofs.Starts.{start_law, set_law}
use Rattle.ocr_machine_parts.proofs.laws.run_laws.Goals as goal

pub returns-clause-start : goal.returns-clause-start
returns-clause-start c = start_law

pub returns-clause-set : goal.returns-clause-set
returns-clause-set c = set_law
