-- What lasts in a run, and what happens once.
use Rattle.std.specs.Prelude.{◌≡◌, ◌≤◌, ◌<◌, ℕ, ◌+◌, List, [], ◌∷◌, Bool, true, false, ◌||◌, ◌&&◌, ◌==◌, if◌then◌else◌, Some, None}
use Rattle.ocr_acquire.specs.declared.Mode.{Mode}
use Rattle.ocr_guid.specs.declared.Code.{Code}
use Rattle.ocr_slots.specs.Slots as slot
use Rattle.ocr_edt.specs.Edt as edt
use Rattle.ocr_machine_history.specs.declared.entry.Entry.{Entry}
use Rattle.ocr_machine_history.specs.declared.entry.Entry.TheVariants.{Call, Deliver, Start, Free, End}
use Rattle.ocr_machine_history.specs.declared.entry.Message.{Message}
use Rattle.ocr_machine_history.specs.declared.entry.What.TheVariants as what
use Rattle.ocr_machine_history.specs.Edts.{is_started}
use Rattle.ocr_machine_history.specs.History.{History, Setting, own}
use Rattle.ocr_machine_history.specs.Made.{Made, made, is_edt}
use Rattle.ocr_machine_parts.specs.Calls.{link_calls, depc_of, payload_of, open_slots, slots_now, plan_of, edt_calls}
use Rattle.ocr_machine_parts.specs.Bodies.{body_of}
use Rattle.ocr_machine_parts.specs.Legal.{IsRun, IsLegal}

-- WHAT IS MADE lasts
abbrev pub MadeLaw : Type 0
MadeLaw = (s : Setting) (past : History) (e : Entry) (g : ℕ) (m : Made) → IsLegal s past e
    → made s past g ≡ Some m → made s (e ∷ past) g ≡ Some m

-- SLOTS. A delivery sets a slot that the EDT has, and that is linked and was not set before
pub record IsUnsetSlot (s : Setting) (past : History) (t k : ℕ) : Type 0 where
  pub exists : k < depc_of s past t
  pub linked : slot.is_linked (link_calls past t) k ≡ true
  pub unset : payload_of past t k ≡ None

abbrev pub SetOnceLaw : Type 0
SetOnceLaw = (s : Setting) (past : History) (m : Message) (c : Code) (t k p : ℕ) → IsRun s past
    → IsLegal s past (Deliver m c) → m.what ≡ what.Set t k p → IsUnsetSlot s past t k

-- a message is delivered at most once
abbrev pub delivery_count : History → ℕ × ℕ → ℕ
delivery_count [] name = 0
delivery_count (Deliver m c ∷ past) name =
    (if (m.place == name.0) && (m.index == name.1) then 1 else 0) + delivery_count past name
delivery_count (e ∷ past) name = delivery_count past name

abbrev pub DeliveredLaw : Type 0
DeliveredLaw = (s : Setting) (past : History) (name : ℕ × ℕ) → IsRun s past
    → delivery_count past name ≤ 1

-- THE PLAN. The slots of an EDT stay as they are once they are set
abbrev pub StaysLaw : Type 0
StaysLaw = (s : Setting) (past : History) (e : Entry) (t : ℕ) → IsRun s past → IsLegal s past e
    → is_edt past t ≡ true → open_slots s past t ≡ []
    → slots_now s (e ∷ past) t ≡ slots_now s past t

-- the plan that an EDT was given, where it was given one
abbrev pub IsGivenPlan : List (ℕ × Mode) → List edt.EdtCall → Type 0
IsGivenPlan members [] = Unit {0}
IsGivenPlan members (one ∷ rest) = edt.plan_given (one ∷ rest) ≡ members

-- is its plan now
abbrev pub PlannedLaw : Type 0
PlannedLaw = (s : Setting) (past : History) (t : ℕ) → IsRun s past → is_edt past t ≡ true
    → IsGivenPlan (plan_of s past t) (edt_calls s past t)

-- OWN ENTRIES of an EDT are those from its start to its end
abbrev pub is_own : Entry → ℕ → Bool
is_own (Call u home c a w) t = u == t
is_own (Start u) t = u == t
is_own (Free u d w) t = u == t
is_own (End u g) t = u == t
is_own other t = false

abbrev pub has_own : History → ℕ → Bool
has_own [] t = false
has_own (e ∷ past) t = is_own e t || has_own past t

-- none comes before the start
abbrev pub NoOwnLaw : Type 0
NoOwnLaw = (s : Setting) (past : History) (t : ℕ) → IsRun s past → IsLegal s past (Start t)
    → has_own past t ≡ false

-- so its body has made no call before, and from the start on its body stays
abbrev pub FreshLaw : Type 0
FreshLaw = (s : Setting) (past : History) (t : ℕ) → IsRun s past → is_started past t ≡ false
    → own past t ≡ []

abbrev pub BodyLaw : Type 0
BodyLaw = (s : Setting) (past : History) (e : Entry) (t : ℕ) → IsRun s past → IsLegal s past e
    → is_edt past t ≡ true → is_started past t ≡ true
    → body_of s (e ∷ past) t ≡ body_of s past t
