-- What `{}` prints of a text that has no tokens.
use Rattle.std.specs.Prelude.{ℕ, List, ◌++◌, codes, decimal}
use Rattle.ocr_text.specs.declared.token.LexFault.{LexFault}
use Rattle.ocr_text.specs.declared.token.TokensStop.{TokensStop}
use Rattle.ocr_text.specs.declared.token.TokensStop.TheVariants.{Fault, NoMemory}

abbrev pub fault_text : LexFault → List ℕ
fault_text fault = codes "lex fault at " ++ decimal fault.place

abbrev pub stop_text : TokensStop → List ℕ
stop_text (Fault fault) = fault_text fault
stop_text NoMemory = codes "no memory"
