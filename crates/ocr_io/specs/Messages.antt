-- What `{}` prints of why a reading stopped.
use Rattle.std.specs.Prelude.{ℕ, List, codes}
use Rattle.ocr_io.specs.declared.source.ReadStop.{ReadStop}
use Rattle.ocr_io.specs.declared.source.ReadStop.TheVariants.{Failed, TooBig, NoMemory}

abbrev pub read_stop_text : ReadStop → List ℕ
read_stop_text Failed = codes "a read failed"
read_stop_text TooBig = codes "there are too many bytes"
read_stop_text NoMemory = codes "no memory"
