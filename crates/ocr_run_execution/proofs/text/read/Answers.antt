use Rattle.std.proofs.Common.{Err, ap}
use Rattle.ocr_run_execution.specs.ProgramText.{no_tree}
use Rattle.ocr_run_execution.proofs.text.read.Goals as goal

pub returns-in-Err-Fault-clause-stop : goal.returns-in-Err-Fault-clause-stop
returns-in-Err-Fault-clause-stop c =
    no_tree c.args.tokens.now c.in-Err-Fault.field-0-0.place c.requires (c.in-Err-Fault.ensures.fault c.in-Err-Fault.field-0-0 (ap Err c.in-Err-Fault.field-0-is))
