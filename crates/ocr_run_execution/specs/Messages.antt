-- What `{}` prints of a text that is no program.
use Rattle.std.specs.Prelude.{ℕ, List, ◌++◌, codes, decimal}
use Rattle.ocr_program_check.specs.Messages.{fault_text as breach_text}
use Rattle.ocr_run_execution.specs.declared.text.TextFault.{TextFault}
use Rattle.ocr_run_execution.specs.declared.text.TextFault.TheVariants.{Lexical, Syntax, Breach}
use Rattle.ocr_run_execution.specs.declared.text.TextStop.{TextStop}
use Rattle.ocr_run_execution.specs.declared.text.TextStop.TheVariants.{Fault, NoMemory}

abbrev pub fault_text : TextFault → List ℕ
fault_text (Lexical place) = codes "lex fault at " ++ decimal place
fault_text (Syntax place) = codes "syntax fault at " ++ decimal place
fault_text (Breach fault) = breach_text fault

abbrev pub stop_text : TextStop → List ℕ
stop_text (Fault fault) = fault_text fault
stop_text NoMemory = codes "no memory"
