use Rattle.ocr_machine_laws.proofs.Sent.{sent_law}
use Rattle.ocr_machine_laws.proofs.quiet.sent_laws.Goals as goal

pub returns : goal.returns
returns c = sent_law
