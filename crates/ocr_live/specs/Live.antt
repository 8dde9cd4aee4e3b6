-- What a read of the live word tells.
use Rattle.std.specs.Prelude.{◌≡◌, ◌<◌, ◌≤◌}
use Rattle.ocr_turns_rule.specs.Live.{SeesStill, reading, stilled}
use Rattle.ocr_turns_rule.specs.Meaning.{Meaning}
use Rattle.ocr_turns_rule.specs.Rule.{OPEN}
use Rattle.ocr_turns_rule.specs.declared.view.View.{View}
use Rattle.ocr_live.specs.declared.answers.LiveRead.{LiveRead}
use Rattle.ocr_live.specs.declared.answers.LiveRead.TheVariants as live

-- After Quiet the history has so many entries, nothing can come any more, and the view keeps this.
abbrev pub LiveReads : {G E P N F : Type 0} → Meaning G E P N F → LiveRead → View G E P N F
    → View G E P N F → Type 0
LiveReads m (live.Quiet n) v w = (n < OPEN) × (w ≡ stilled (reading v 0) n) × SeesStill m w n
LiveReads m (live.Busy x) v w = (1 ≤ x) × (w ≡ reading v x)
