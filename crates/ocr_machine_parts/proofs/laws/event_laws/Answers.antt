use Rattle.ocr_machine_parts.proofs.Counted.{counted_law}
use Rattle.ocr_machine_parts.proofs.laws.event_laws.Goals as goal

pub returns-clause-counted : goal.returns-clause-counted
returns-clause-counted c = counted_law
