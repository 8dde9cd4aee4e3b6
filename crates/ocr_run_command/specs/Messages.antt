-- What `{}` prints of why words ask for nothing.
use Rattle.std.specs.Prelude.{ℕ, List, codes}
use Rattle.ocr_run_command.specs.declared.wanted.WordsStop.{WordsStop}
use Rattle.ocr_run_command.specs.declared.wanted.WordsStop.TheVariants.{Refused, NoMemory}

abbrev pub stop_text : WordsStop → List ℕ
stop_text Refused = codes "words refused"
stop_text NoMemory = codes "no memory"
