-- Where a replay stops.
use Rattle.std.specs.Prelude.{List}
use Rattle.ocr_machine_history.specs.declared.entry.Entry.{Entry}
use Rattle.ocr_machine_history.specs.History.{Setting}
use Rattle.ocr_replay.specs.declared.replay_stop.ReplayStop.{ReplayStop}
use Rattle.ocr_replay.specs.declared.replay_stop.ReplayStop.TheVariants as why
use Rattle.ocr_replay.specs.Replay.{IsFirstIllegal}

-- why a replay ended before the journal's end
abbrev pub IsStoppedAt : Setting → List Entry → ReplayStop → Type 0
IsStoppedAt s entries (why.Illegal n) = IsFirstIllegal s entries n
IsStoppedAt s entries why.NoMemory = Unit {0}
