-- What rests on kept parts: whoever keeps the parts that an entry names knows whether it is legal,
-- and what it leaves, whatever the rest of the run is.
use Rattle.std.specs.Prelude.{◌≡◌, ◌≤◌, ◌<◌, ℕ, ◌+◌, List, [], ◌∷◌, true, false, Some, length, slice_index_or}
use Rattle.ocr_acquire.specs.declared.Mode.{Mode}
use Rattle.ocr_slots.specs.declared.Slot.{Slot}
use Rattle.ocr_machine_history.specs.declared.entry.Entry.{Entry}
use Rattle.ocr_machine_history.specs.History.{History, Setting}
use Rattle.ocr_machine_parts.specs.declared.part.Part.{Part}
use Rattle.ocr_machine_parts.specs.declared.part.Part.TheVariants as part
use Rattle.ocr_machine_parts.specs.Calls.{payload_of, payloads_of, open_slots, slots_now, plan_of}
use Rattle.ocr_machine_parts.specs.Parts.{Parts, parts_of}
use Rattle.ocr_machine_parts.specs.Taken.{keys, parts_in, place_of, ArePartsOf}
use Rattle.ocr_machine_parts.specs.Footprint.{is_touched, Covers}
use Rattle.ocr_machine_parts.specs.Effects.{changed}
use Rattle.ocr_machine_parts.specs.Progress.{readied, edt_in}
use Rattle.ocr_machine_parts.specs.LegalOn.{IsLegalOn}
use Rattle.ocr_machine_parts.specs.Legal.{IsOnParts, IsRun, IsLegal}
use Rattle.ocr_machine_parts.specs.Readiness.{filled, plan_from}
use Rattle.ocr_machine_parts.specs.Runs.{IsWaking}
use Rattle.ocr_machine_laws.specs.Permanence.{is_own}

-- this is the plan of the EDT that the entry takes on
abbrev pub IsPlanFor : Setting → History → Entry → List (ℕ × Mode) → Type 0
IsPlanFor s past e members = IsWaking e → plan_of s past (edt_in e) ≡ members

-- after this history these are the parts that the entry names, and this is the plan
pub record AreKept (s : Setting) (past : History) (e : Entry) (ps : List (ℕ × Part))
    (members : List (ℕ × Mode)) : Type 0 where
  pub enough : 2 ≤ s.limit
  pub run : IsRun s past
  pub covers : Covers s.limit e ps
  pub parts : ArePartsOf s.limit (parts_of s past) ps
  pub plan : IsPlanFor s past e members

-- the kept parts, with the EDT that the entry takes on made ready
abbrev pub kept_ready : ℕ → List (ℕ × Mode) → Entry → List (ℕ × Part) → Parts
kept_ready limit members e ps = readied members e (parts_in limit ps)

-- LEGALITY by kept parts: what is legal on them is legal after the history, and the other way
abbrev pub KeptLaw : Type 0
KeptLaw = (s : Setting) (past : History) (e : Entry) (ps : List (ℕ × Part))
    (members : List (ℕ × Mode)) → AreKept s past e ps members
    → IsLegalOn s.limit (kept_ready s.limit members e ps) e → IsOnParts s past e

abbrev pub BackLaw : Type 0
BackLaw = (s : Setting) (past : History) (e : Entry) (ps : List (ℕ × Part))
    (members : List (ℕ × Mode)) → AreKept s past e ps members
    → IsOnParts s past e → IsLegalOn s.limit (kept_ready s.limit members e ps) e

-- THE EFFECT by kept parts: what the entry makes of them are the parts after it
abbrev pub AfterKeptLaw : Type 0
AfterKeptLaw = (s : Setting) (past : History) (e : Entry) (ps later : List (ℕ × Part))
    (members : List (ℕ × Mode)) → AreKept s past e ps members → IsLegal s past e
    → parts_in s.limit later ≡ changed e (kept_ready s.limit members e ps) → keys later ≡ keys ps
    → ArePartsOf s.limit (parts_of s (e ∷ past)) later

-- an entry leaves each part as it is that it does not name
abbrev pub UntouchedLaw : Type 0
UntouchedLaw = (s : Setting) (past : History) (e : Entry) (n : ℕ) → 2 ≤ s.limit → IsRun s past
    → IsLegal s past e → is_touched s.limit e n ≡ false
    → place_of s.limit (parts_of s (e ∷ past)) n ≡ place_of s.limit (parts_of s past) n

-- an own entry of an EDT names its core
abbrev pub OwnCoreLaw : Type 0
OwnCoreLaw = (s : Setting) (past : History) (e : Entry) (t : ℕ) → 2 ≤ s.limit → IsRun s past
    → IsLegal s past e → is_own e t ≡ true → is_touched s.limit e (s.limit + t) ≡ true

abbrev pub AreSet : History → ℕ → List ℕ → Type 0
AreSet past t payloads = (k : ℕ) → k < length payloads
    → payload_of past t k ≡ Some (slice_index_or payloads k 0)

pub record IsFilled (s : Setting) (past : History) (t : ℕ) (slots : List Slot) (payloads : List ℕ)
    : Type 0 where
  pub all_set : open_slots s past t ≡ []
  pub slots_are : slots_now s past t ≡ filled slots payloads
  pub planned : plan_of s past t ≡ plan_from slots payloads
  pub payloads_are : payloads_of s past t ≡ payloads

abbrev pub FilledLaw : Type 0
FilledLaw = (s : Setting) (past : History) (t : ℕ) (slots : List Slot) (payloads : List ℕ)
    → (parts_of s past).face t ≡ part.Edt slots → length payloads ≡ length slots
    → AreSet past t payloads → IsFilled s past t slots payloads
