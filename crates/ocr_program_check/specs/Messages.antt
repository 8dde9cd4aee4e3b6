-- What `{}` prints of why a program was not taken.
use Rattle.std.specs.Prelude.{ℕ, List, ◌++◌, codes, decimal}
use Rattle.ocr_program_check.specs.declared.rules.CheckFault.{CheckFault}
use Rattle.ocr_program_check.specs.declared.rules.CheckStop.{CheckStop}
use Rattle.ocr_program_check.specs.declared.rules.CheckStop.TheVariants.{Fault, NoMemory}

abbrev pub fault_text : CheckFault → List ℕ
fault_text fault =
    codes "check fault: rule "
    ++ (decimal fault.rule ++ (codes " in function " ++ decimal fault.function))

abbrev pub stop_text : CheckStop → List ℕ
stop_text (Fault fault) = fault_text fault
stop_text NoMemory = codes "no memory"
