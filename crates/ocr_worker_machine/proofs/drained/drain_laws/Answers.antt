use Rattle.ocr_worker_machine.proofs.Quiet.{orderly_law, pass_law, rest_law, still_law}
use Rattle.ocr_worker_machine.proofs.drained.drain_laws.Goals as goal

pub returns-clause-orderly : goal.returns-clause-orderly
returns-clause-orderly c = orderly_law

pub returns-clause-pass : goal.returns-clause-pass
returns-clause-pass c = pass_law

pub returns-clause-rest : goal.returns-clause-rest
returns-clause-rest c = rest_law

pub returns-clause-still : goal.returns-clause-still
returns-clause-still c = still_law
