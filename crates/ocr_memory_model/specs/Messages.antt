-- What `{}` prints of why a run is not ordered.
use Rattle.std.specs.Prelude.{ℕ, List, codes}
use Rattle.ocr_memory_model.specs.declared.stop.OrderStop.{OrderStop}
use Rattle.ocr_memory_model.specs.declared.stop.OrderStop.TheVariants.{TooLong, NoMemory}

abbrev pub stop_text : OrderStop → List ℕ
stop_text TooLong = codes "there are too many entries"
stop_text NoMemory = codes "no memory"
