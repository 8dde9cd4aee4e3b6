-- What `{}` prints of a text that is no program.
use Rattle.std.specs.Prelude.{ℕ, List, ◌++◌, codes, decimal}
use Rattle.ocr_program.specs.declared.parser.SyntaxFault.{SyntaxFault}
use Rattle.ocr_program.specs.declared.parser.ParseStop.{ParseStop}
use Rattle.ocr_program.specs.declared.parser.ParseStop.TheVariants.{Fault, NoMemory}

abbrev pub fault_text : SyntaxFault → List ℕ
fault_text fault = codes "no program goes on at byte " ++ decimal fault.place

abbrev pub stop_text : ParseStop → List ℕ
stop_text (Fault fault) = fault_text fault
stop_text NoMemory = codes "no memory"
