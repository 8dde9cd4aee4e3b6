-- A clerk that runs the body of an EDT: what it keeps between the calls of the body, and within
-- one.
use Rattle.std.specs.Prelude.{◌≡◌, ◌≢◌, ◌≤◌, ℕ, ◌+◌, List, [], ◌∷◌, ◌++◌, true, if◌then◌else◌, Option, Some, None}
use Rattle.std.specs.List.{All}
use Rattle.ocr_acquire.specs.declared.Mode.{Mode}
use Rattle.ocr_body_meaning.specs.Body.{Body}
use Rattle.ocr_body_meaning.specs.Call.{is_creation}
use Rattle.ocr_body_meaning.specs.Holds.{Holds, after_call, is_done}
use Rattle.ocr_body_meaning.specs.declared.call.Answer.{Answer}
use Rattle.ocr_body_meaning.specs.declared.call.Call as body
use Rattle.ocr_machine_history.specs.declared.entry.Entry.{Entry}
use Rattle.ocr_machine_parts.specs.declared.part.Core.{Core}
use Rattle.ocr_machine_parts.specs.declared.part.Part.{Part}
use Rattle.ocr_machine_parts.specs.declared.part.Part.TheVariants as part
use Rattle.ocr_machine_parts.specs.Effects.{settled_core, started_edt}
use Rattle.ocr_machine_parts.specs.Progress.{with_phase}
use Rattle.ocr_machine_parts.specs.Footprint.{makes_core}
use Rattle.ocr_machine_parts.specs.Kinds.{holds_of, is_running, work_of}
use Rattle.ocr_machine_parts.specs.Taken.{is_within, look}
use Rattle.ocr_slots.specs.declared.Slot.{Slot}
use Rattle.ocr_machine_parts.specs.Readiness.{plan_from, ready_with}
use Rattle.ocr_machine_parts.specs.Bodies.{holds_in}
use Rattle.ocr_body_code.specs.Checked.{checked_tree}
use Rattle.ocr_worker_machine.specs.Facts.{body_by}
use Rattle.ocr_turns_rule.specs.Contract.{SameRoom}
use Rattle.ocr_turns_rule.specs.Debts.{listed}
use Rattle.ocr_turns_rule.specs.Steps.{Sees}
use Rattle.ocr_turns_rule.specs.Sums.{as_some, keys}
use Rattle.ocr_worker_machine.specs.Clerks.{OcrTerms, OcrView}
use Rattle.ocr_worker_machine.specs.Ocr.{beside, counts, meaning}
use Rattle.ocr_worker_clerk.specs.Entry.{PlannedParts, OcrKnown}
use Rattle.ocr_worker_clerk.specs.Work.{HasTakenOn, RunsOnly, lifted}
use Rattle.ocr_worker_access.specs.Calls.{home_for}
use Rattle.ocr_worker_access.specs.Served.{Serves, own_log}

-- THE CORE stands first among the parts at hand
abbrev pub item_of : Option Part → Part
item_of None = part.Vacant
item_of (Some x) = x

abbrev pub first_in : List (ℕ × Option Part) → Part
first_in [] = part.Vacant
first_in (x ∷ rest) = item_of x.1

-- what the EDT holds by the core at hand, as its body knows it
abbrev pub holds_at : OcrKnown → Holds
holds_at c = holds_in (first_in c.parts)

-- a running core at hand, which is the one that is kept, but for what was stored in its loans
pub record IsCoreOf (core kept : Core) : Type 0 where
  pub alike : settled_core core ≡ settled_core kept
  pub running : is_running (part.Core core) ≡ true

-- BETWEEN THE CALLS of the body the clerk keeps the core of the EDT alone, at hand.
pub record Runs (t : OcrTerms) (edt : ℕ) (b : Body) (c : OcrKnown) : Type 0 where
  pub taken : HasTakenOn t edt c
  pub serves : Serves t c.view edt b
  pub core : Core
  pub kept : Core
  pub keeps : c.view.parts ≡ (t.limit + edt, part.Core kept) ∷ []
  pub hand : c.parts ≡ (t.limit + edt, Some (part.Core core)) ∷ []
  pub is : IsCoreOf core kept
  pub sees : Sees meaning c.view

-- WITHIN A CALL it lifted the core and, behind it, the parts of these places; it drew these
-- numbers.
pub record HasLifted (t : OcrTerms) (edt : ℕ) (old new : OcrKnown) (places drawn : List ℕ)
    (ps : List (ℕ × Part)) : Type 0 where
  pub core : Core
  pub kept : Core
  pub taken : List (ℕ × Part)
  pub is : IsCoreOf core kept
  pub was : old.parts ≡ (t.limit + edt, Some (part.Core core)) ∷ []
  pub places_are : keys taken ≡ places
  pub view : new.view ≡ record old.view {
    parts = (t.limit + edt, part.Core kept) ∷ taken;
    drawn = drawn;
  }
  pub hand : new.parts ≡ lifted ((t.limit + edt, Some (part.Core core)) ∷ as_some taken)
  pub parts : ps ≡ (t.limit + edt, part.Core core) ∷ taken
  pub sees : Sees meaning new.view

-- the home that a call joins, by the core at hand
abbrev pub home_at : OcrKnown → body.Call → ℕ
home_at c made = home_for made (first_in c.parts)

-- what a call makes: its face, and of an EDT its core and the faces beside it
abbrev pub new_places : ℕ → body.Call → Answer → List ℕ
new_places limit c a =
    if is_creation c then a.value ∷ (if makes_core c then (limit + a.value) ∷ beside c a else [])
    else []

abbrev pub places_made : ℕ → body.Call → Answer → List ℕ
places_made limit c a = if is_done a.code then new_places limit c a else []

-- AFTER AN ENTRY of the EDT: the clerk keeps the core, first, and the parts of these places, all at
-- hand, and owes to the words that count what the entry made and whom it resumed.
pub record HasEntered (t : OcrTerms) (edt : ℕ) (b : Body) (c : OcrKnown) (places : List ℕ)
    (made : List (ℕ × ℕ)) (resumed : List ℕ) : Type 0 where
  pub claims : c.view.claims ≡ edt ∷ []
  pub drawn : c.view.drawn ≡ []
  pub only : RunsOnly c.view edt
  pub unput : c.view.debts.unput ≡ []
  pub put : c.view.debts.put ≡ []
  pub made_is : c.view.debts.made ≡ made
  pub resumes : c.view.debts.resumes ≡ resumed
  pub serves : Serves t c.view edt b
  pub core : Core
  pub rest : List (ℕ × Part)
  pub keeps : c.view.parts ≡ (t.limit + edt, part.Core core) ∷ rest
  pub hand : c.parts ≡ (t.limit + edt, Some (part.Core core)) ∷ as_some rest
  pub running : is_running (part.Core core) ≡ true
  pub places_are : keys rest ≡ places
  pub sees : Sees meaning c.view

-- the call with its answer is the newest of the EDT's own, and what it holds is what it leaves
pub record IsCalled (edt : ℕ) (c : body.Call) (a : Answer) (old new : OcrKnown) : Type 0 where
  pub log : own_log new.view.log edt ≡ record { call = c; answer = a } ∷ own_log old.view.log edt
  pub holds : holds_at new ≡ after_call c a (holds_at old)

-- THE START. The plan that the slots tell of whoever starts, and the parts that it keeps
abbrev pub slots_in : Part → List Slot
slots_in (part.Edt slots) = slots
slots_in other = []

abbrev pub hand_at : OcrKnown → ℕ → List ℕ → PlannedParts
hand_at c edt payloads = record {
  members = plan_from (slots_in (look c.view.parts edt)) payloads;
  parts = c.view.parts;
}

-- it is in the log, the core that was kept has started, and the EDT made no call
pub record HasBegun (t : OcrTerms) (edt : ℕ) (payloads : List ℕ) (old new : OcrKnown) : Type 0 where
  pub slots : List Slot
  pub core : Core
  pub was : old.view.parts ≡ (t.limit + edt, part.Core core) ∷ (edt, part.Edt slots) ∷ []
  pub runs : Runs t edt
      (body_by (checked_tree t.setting.value.program) slots (settled_core core) payloads) new
  pub is : first_in new.parts ≡ part.Core (with_phase started_edt (ready_with slots payloads core))
  pub calls : own_log new.view.log edt ≡ []

-- the EDT that an entry makes, with its slots, as they are owed to the words that count
abbrev pub made_by : ℕ → Entry → List (ℕ × Part) → List (ℕ × ℕ)
made_by limit e parts = listed (counts limit e parts)

-- places of parts other than the core, of which it may give back all
abbrev pub AreOthers : OcrTerms → ℕ → List ℕ → Type 0
AreOthers t edt places = All (λ p. (p ≢ t.limit + edt) × (p ≤ t.limit + t.limit)) places

-- IT TOOK the parts of these places behind its core, and has all at hand
pub record HasTaken (t : OcrTerms) (edt : ℕ) (old new : OcrKnown) (places : List ℕ) : Type 0 where
  pub core : Core
  pub kept : Core
  pub taken : List (ℕ × Part)
  pub is : IsCoreOf core kept
  pub was : old.parts ≡ (t.limit + edt, Some (part.Core core)) ∷ []
  pub places_are : keys taken ≡ places
  pub view : new.view ≡ record old.view { parts = (t.limit + edt, part.Core kept) ∷ taken }
  pub hand : new.parts ≡ as_some ((t.limit + edt, part.Core core) ∷ taken)
  pub sees : Sees meaning new.view

-- THE CORE of this place, which stands first at hand, was changed so, and nothing else
pub record StepsFirst (place : ℕ) (step : Core → Core) (old new : OcrKnown) : Type 0 where
  pub table : new.table ≡ old.table
  pub view : new.view ≡ old.view
  pub room : SameRoom old new
  pub core : (core : Core) (rest : List (ℕ × Option Part))
      → old.parts ≡ (place, Some (part.Core core)) ∷ rest
      → new.parts ≡ (place, Some (part.Core (step core))) ∷ rest

-- THE END. The face that it names, where there is such a number, and what the EDT holds
abbrev pub returned_faces : ℕ → ℕ → List ℕ
returned_faces limit g = if is_within limit g then g ∷ [] else []

abbrev pub held_at : OcrKnown → List (ℕ × Mode)
held_at c = holds_of (work_of (first_in c.parts))

-- the newest entry of the log is this one
abbrev pub IsNewest : Entry → OcrView → OcrView → Type 0
IsNewest e old new = (n : ℕ) × (new.log ≡ old.log ++ (n, e) ∷ [])
