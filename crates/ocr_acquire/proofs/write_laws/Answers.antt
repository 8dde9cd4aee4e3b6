use Rattle.ocr_acquire.proofs.Writes.{put_law, written_law}
use Rattle.ocr_acquire.proofs.write_laws.Goals as goal

pub returns-clause-put : goal.returns-clause-put
returns-clause-put c = put_law

pub returns-clause-written : goal.returns-clause-written
returns-clause-written c = written_law
