-- What `{}` prints of why a replay ends early.
use Rattle.std.specs.Prelude.{ℕ, List, ◌++◌, codes, decimal}
use Rattle.ocr_replay.specs.declared.replay_stop.ReplayStop.{ReplayStop}
use Rattle.ocr_replay.specs.declared.replay_stop.ReplayStop.TheVariants.{Illegal, NoMemory}

abbrev pub stop_text : ReplayStop → List ℕ
stop_text (Illegal place) = codes "entry " ++ (decimal place ++ codes " is not legal")
stop_text NoMemory = codes "no memory"
