use Rattle.ocr_machine_laws.proofs.Owners.{who_lasts}
use Rattle.ocr_machine_laws.proofs.SentOnce.{moment_law, once_law, own_law, other_law, end_law, ended_law}
use Rattle.ocr_machine_laws.proofs.outputs.output_laws.Goals as goal

pub returns-clause-identity : goal.returns-clause-identity
returns-clause-identity c = who_lasts

pub returns-clause-moment : goal.returns-clause-moment
returns-clause-moment c = moment_law

pub returns-clause-once : goal.returns-clause-once
returns-clause-once c = once_law

pub returns-clause-own : goal.returns-clause-own
returns-clause-own c = own_law

pub returns-clause-other : goal.returns-clause-other
returns-clause-other c = other_law

pub returns-clause-end : goal.returns-clause-end
returns-clause-end c = end_law

pub returns-clause-ended : goal.returns-clause-ended
returns-clause-ended c = ended_law
