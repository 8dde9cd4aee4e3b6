use Rattle.ocr_machine_laws.proofs.Plain.{next_law, acquire_law, wait_law, stale_law, begin_law}
use Rattle.ocr_machine_laws.proofs.laws.going_laws.Goals as goal

pub returns-clause-next : goal.returns-clause-next
returns-clause-next c = next_law

pub returns-clause-acquire : goal.returns-clause-acquire
returns-clause-acquire c = acquire_law

pub returns-clause-wait : goal.returns-clause-wait
returns-clause-wait c = wait_law

pub returns-clause-stale : goal.returns-clause-stale
returns-clause-stale c = stale_law

pub returns-clause-begin : goal.returns-clause-begin
returns-clause-begin c = begin_law
