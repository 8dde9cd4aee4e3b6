-- What the calls on the words that count ask and tell.
use Rattle.std.specs.Prelude.{◌≡◌, ◌≢◌, ℕ, ◌<◌}
use Rattle.ocr_turns_rule.specs.Counts.{READY}
use Rattle.ocr_turns_rule.specs.Meaning.{Meaning}
use Rattle.ocr_turns_rule.specs.Steps.{Sees}
use Rattle.ocr_turns_rule.specs.Words.{SeesReady, SeesWord, claiming, learning}
use Rattle.ocr_turns_rule.specs.declared.view.View.{View}
use Rattle.ocr_count.specs.declared.answers.Claimed.{Claimed}
use Rattle.ocr_count.specs.declared.answers.Claimed.TheVariants as claimed
use Rattle.ocr_count.specs.declared.answers.Down.{Down}
use Rattle.ocr_count.specs.declared.answers.Down.TheVariants as down

abbrev pub left_of : Down → ℕ
left_of down.Last = 0
left_of (down.More left) = left

-- a countdown that is not the last leaves something
abbrev pub LeavesSome : Down → Type 0
LeavesSome down.Last = Unit {0}
LeavesSome (down.More left) = 0 < left

module _ {G E P N F : Type 0} (m : Meaning G E P N F) where
  -- After Last the EDT is made and each slot of it is set, it was not started and does not wait.
  abbrev pub DownTells : Down → View G E P N F → ℕ → Type 0
  DownTells down.Last w n = SeesReady m w n
  DownTells (down.More left) w n = (0 < left) × SeesWord m w n left

  abbrev pub ClaimTells : Claimed → View G E P N F → View G E P N F → ℕ → Type 0
  ClaimTells claimed.Won v w n = (w ≡ claiming v n) × SeesReady m w n
  ClaimTells (claimed.Lost x) v w n = (x ≢ READY) × (w ≡ v) × SeesWord m w n x

  -- the slot is set to the payload, and the view knows it, which some history so far fits
  abbrev pub PayloadTells : ℕ → View G E P N F → View G E P N F → ℕ → ℕ → Type 0
  PayloadTells x v w n k = (w ≡ learning v (m.counting.is_set n k x)) × Sees m w
