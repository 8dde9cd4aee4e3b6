use Rattle.std.proofs.Common.{Err, ap}
use Rattle.ocr_run_execution.specs.ProgramText.{no_tokens}
use Rattle.ocr_run_execution.proofs.text.cut.Goals as goal

pub returns-in-Err-Fault-clause-stop : goal.returns-in-Err-Fault-clause-stop
returns-in-Err-Fault-clause-stop c =
    no_tokens c.in-Err-Fault.field-0-0.place (c.in-Err-Fault.ensures.fault c.in-Err-Fault.field-0-0 (ap Err c.in-Err-Fault.field-0-is))
