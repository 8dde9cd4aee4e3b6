-- What an entry of a worker asks, and what it leaves.
use Rattle.std.specs.Prelude.{◌≡◌, ◌-◌, ◌<◌, ◌≤◌, ◌^◌, ℕ, List, [], false, length}
use Rattle.ocr_acquire.specs.declared.Mode.{Mode}
use Rattle.ocr_worker_machine.specs.Clerks.{IsStep, MayEnter, OcrTerms, OcrView}
use Rattle.ocr_worker_machine.specs.Ocr.{makes, meaning, touches}
use Rattle.ocr_worker_machine.specs.declared.fact.Fact.{Fact}
use Rattle.ocr_worker_machine.specs.declared.setting.Setting.{Setting}
use Rattle.ocr_machine_history.specs.declared.entry.Entry.{Entry}
use Rattle.ocr_machine_history.specs.declared.entry.Entry.TheVariants.{Call}
use Rattle.ocr_machine_history.specs.declared.entry.What.{What}
use Rattle.ocr_base.specs.Mail.{Has}
use Rattle.ocr_body_meaning.specs.declared.call.Call.TheVariants as call
use Rattle.ocr_machine_parts.specs.declared.part.Part.{Part}
use Rattle.ocr_machine_parts.specs.Kinds.{counted_on}
use Rattle.ocr_machine_parts.specs.Legal.{is_stop}
use Rattle.ocr_machine_parts.specs.Messages.{delivered}
use Rattle.ocr_machine_parts.specs.Taken.{face_in, keys, parts_in}
use Rattle.ocr_worker_machine.specs.Holds.{kept_ready}
use Rattle.ocr_turns_rule.specs.Contract.{Claims, Known}
use Rattle.ocr_turns_rule.specs.Steps.{Deed, deed}
use Rattle.ocr_turns_rule.specs.Sums.{HasAll, one_at, weigh}

abbrev pub OcrKnown : Type 0
OcrKnown = Known Setting Entry Part What Fact

abbrev pub OcrDeed : Type 0
OcrDeed = Deed Entry Part What Fact

-- the plan of the EDT that the entry takes on, and the parts at hand before it was made ready
pub record PlannedParts : Type 0 where
  pub members : List (ℕ × Mode)
  pub parts : List (ℕ × Part)

-- The clerk has what the entry asks but for the share: it knows what it has to know of it, these
-- parts, the EDT made ready, are those of the entry's places, and each event can be counted once
-- more.
pub record CanMake (t : OcrTerms) (v : OcrView) (e : Entry) (h : PlannedParts)
    (ps : List (ℕ × Part)) : Type 0 where
  pub goes : is_stop e ≡ false
  pub owes : Has (delivered e) v.owed
  pub drawn : HasAll (makes e) v.drawn
  pub claims : Claims meaning t v (deed meaning t.limit v e h.parts [])
  pub may : MayEnter t v e h.members h.parts
  pub ready : parts_in t.limit ps ≡ kept_ready t.limit h.members e h.parts
  pub same_keys : keys ps ≡ keys h.parts
  pub places : (p : ℕ) → (weigh (one_at p) h.parts ≡ touches t.limit e p)
      × (weigh (one_at p) h.parts ≤ weigh (one_at p) v.parts)
  pub counters : (g : ℕ) → counted_on (face_in t.limit h.parts g) < 2 ^ 64 - 1

-- the unit of the EDT that an entry makes
abbrev pub making_units : Entry → ℕ
making_units (Call t home (call.EdtCreate from pc ps dc ds fl o) a w) = 1
making_units other = 0

-- what a change has to be for a commit of the entry, and the room that this needs
pub record IsPrepared (t : OcrTerms) (c : OcrKnown) (e : Entry) (h : PlannedParts)
    (later : List (ℕ × Part)) (sent : List What) : Type 0 where
  pub step : IsStep t.limit e h.members h.parts later sent
  pub room : 2 ≤ c.room
  pub space : length sent ≤ c.space
  pub few : length sent < 2 ^ 32
