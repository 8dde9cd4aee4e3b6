use Rattle.ocr_machine_laws.proofs.Written.{written_law}
use Rattle.ocr_machine_laws.proofs.Ended.{acquired_law, no_writer_law, ended_law}
use Rattle.ocr_machine_laws.proofs.memory.memory_laws.Goals as goal

pub returns-clause-written : goal.returns-clause-written
returns-clause-written c = written_law

pub returns-clause-acquired : goal.returns-clause-acquired
returns-clause-acquired c = acquired_law

pub returns-clause-no_writer : goal.returns-clause-no_writer
returns-clause-no_writer c = no_writer_law

pub returns-clause-ended : goal.returns-clause-ended
returns-clause-ended c = ended_law
