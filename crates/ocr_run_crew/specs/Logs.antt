-- What the logs of workers have to do with the limits of the run.
use Rattle.std.specs.declared.snapshot.Snapshot.{Snapshot}
use Rattle.std.specs.Prelude.{◌≡◌, ◌⊎◌, ◌≤◌, ◌<◌, ℕ, ◌+◌, ◌*◌, List, ◌∷◌, length, true, Some, is_some, MatchOption}
use Rattle.std.specs.List.{All}
use mathlib.Core.Option.{some}
use lib.ListN.{get_elem?}
use Rattle.ocr_worker_clerk.specs.Number.{object_count}
use Rattle.ocr_worker_clerk.specs.Work.{stop_in}
use Rattle.ocr_worker_machine.specs.Clerks.{OcrView}
use Rattle.ocr_worker_machine.specs.declared.fact.Fact.TheVariants.{Short}
use Rattle.ocr_body_meaning.specs.declared.call.Call as body
use Rattle.ocr_machine_history.specs.declared.entry.Entry.{Entry}
use Rattle.ocr_machine_history.specs.declared.entry.Stop as run
use Rattle.ocr_machine_history.specs.declared.entry.Stop.TheVariants as by
use Rattle.ocr_machine_history.specs.Weight.{weight_of}
use Rattle.ocr_turns_rule.specs.Sums.{load_of}

-- one of the workers ended the run, where its log would have passed its share
abbrev pub EndsBy : ℕ → ℕ → List (ℕ × Entry) → run.Stop → Type 0
EndsBy workers share log (by.Events worker k) =
    (1 ≤ worker) × (worker ≤ workers) × (share < load_of weight_of log + k)
EndsBy workers share log other = Unit {0}

-- the log of a worker: it weighs at most a share, and its Stop has its cause
pub record IsLog (workers share : ℕ) (log : List (ℕ × Entry)) : Type 0 where
  pub light : load_of weight_of log ≤ share
  pub ends : MatchOption (stop_in log) (Unit {0}) (EndsBy workers share log)

-- one of the logs ends the run since the numbers left were too few
abbrev pub IsAnyShort : List (List (ℕ × Entry)) → Type 0
IsAnyShort logs = (j : ℕ) × (log : List (ℕ × Entry)) × (get_elem? logs j ≡ some log)
    × (stop_in log ≡ Some by.Objects)

-- The view knows whose creation the numbers that were left were too few for. Together with those
-- that the others of so many workers drew, three each at most, fewer are drawn than it needs.
pub record LacksAmong (workers : ℕ) (v : OcrView) : Type 0 where
  pub edt : ℕ
  pub call : Snapshot body.Call
  pub known : (k : ℕ) × (get_elem? v.facts k ≡ some (Short edt call))
  pub few : length v.drawn + 3 < object_count call.value + 3 * workers
  pub reached : is_some v.reached ≡ true

-- What the root knows of so many joined logs, and of its own: each is a worker's, and where one of
-- them ends the run for want of numbers, the others hold back three each at most.
pub record HasLogs (workers share joined : ℕ) (v : OcrView) : Type 0 where
  pub each : All (IsLog workers share) (v.log ∷ v.joined)
  pub many : length v.joined ≡ joined
  pub few : length v.drawn ≤ 3 * joined
  pub short : IsAnyShort (v.log ∷ v.joined) → LacksAmong joined v

-- it was told that the run has ended, or how many entries there were when nothing could come any
-- more
abbrev pub KnowsEnd : OcrView → Type 0
KnowsEnd v = (is_some v.closed ≡ true) ⊎ (is_some v.quiet ≡ true)
