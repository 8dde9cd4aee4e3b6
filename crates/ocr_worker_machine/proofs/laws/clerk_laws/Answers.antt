use Rattle.ocr_worker_machine.proofs.Entered.{entry_law}
use Rattle.ocr_worker_machine.proofs.laws.clerk_laws.Goals as goal

pub returns : goal.returns
returns c = entry_law
