use Rattle.ocr_run_execution.specs.Ending.{shut_down, stuck, aborted, faulted, out_of_memory, limited}
use Rattle.ocr_run_execution.proofs.ending.Ending.status.Goals as goal

pub returns-in-Quiet-eq0-clause-met : goal.returns-in-Quiet-eq0-clause-met
returns-in-Quiet-eq0-clause-met c = shut_down

pub returns-in-Quiet-clause-met : goal.returns-in-Quiet-clause-met
returns-in-Quiet-clause-met c = stuck

pub returns-in-Stopped-Shutdown-clause-met : goal.returns-in-Stopped-Shutdown-clause-met
returns-in-Stopped-Shutdown-clause-met c = shut_down

pub returns-in-Stopped-Abort-clause-met : goal.returns-in-Stopped-Abort-clause-met
returns-in-Stopped-Abort-clause-met c = aborted

pub returns-in-Stopped-Fault-clause-met : goal.returns-in-Stopped-Fault-clause-met
returns-in-Stopped-Fault-clause-met c = faulted

pub returns-in-Stopped-Objects-clause-met : goal.returns-in-Stopped-Objects-clause-met
returns-in-Stopped-Objects-clause-met c = limited

pub returns-in-Stopped-Memory-clause-met : goal.returns-in-Stopped-Memory-clause-met
returns-in-Stopped-Memory-clause-met c = out_of_memory
