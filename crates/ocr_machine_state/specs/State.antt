-- All parts of the machine's state, each at its number, and what the slots of EDTs were set to.
use Rattle.std.specs.Prelude.{◌≡◌, ◌≤◌, ◌<◌, ℕ, ◌+◌, List, [], true, length, slice_index_or}
use Rattle.ocr_acquire.specs.Plan as plan
use Rattle.ocr_acquire.specs.declared.Mode.{Mode}
use Rattle.ocr_slots.specs.Slots.{SlotCall}
use Rattle.ocr_slots.specs.declared.Slot.{Slot}
use Rattle.ocr_machine_history.specs.declared.entry.Entry.{Entry}
use Rattle.ocr_machine_history.specs.History as history
use Rattle.ocr_machine_parts.specs.declared.part.Part.{Part}
use Rattle.ocr_machine_parts.specs.Calls.{set_calls, asks_in}
use Rattle.ocr_machine_parts.specs.Legal.{IsRun, IsLegal}
use Rattle.ocr_machine_parts.specs.Parts.{Parts, parts_of}
use Rattle.ocr_machine_parts.specs.Taken.{is_within}
use Rattle.ocr_machine_codes.specs.Lookup.{face_at}
use Rattle.ocr_machine_effects.specs.All.{all_parts, core_at, AreAllPlaced}
use Rattle.ocr_machine_state.specs.Sets.{filled, slots_in}
use Rattle.ocr_machine_state.specs.declared.state.State.{State}

-- the parts of a table, and those of one object
abbrev pub state_in : State → Parts
state_in table = all_parts table.limit table.parts.items

abbrev pub face_on : State → ℕ → Part
face_on table = face_at table.limit table.parts.items

abbrev pub core_on : State → ℕ → Part
core_on table = core_at table.limit table.parts.items

-- what the slots of an EDT were set to, the newest first
abbrev pub row_at : List (List SlotCall) → ℕ → List SlotCall
row_at rows t = slice_index_or rows t []

abbrev pub sets_in : State → ℕ → List SlotCall
sets_in table t = row_at table.sets.items t

-- the slots of an EDT, and its plan
abbrev pub slots_on : State → ℕ → List Slot
slots_on table t = filled 0 (slots_in (face_on table t)) (sets_in table t)

abbrev pub plan_on : State → ℕ → List (ℕ × Mode)
plan_on table t = plan.plan_of (asks_in (slots_on table t))

-- each number of the state has its place, as long as want of memory lost none
abbrev pub IsWholeState : State → Type 0
IsWholeState table = table.limit + table.limit < length table.parts.items

-- THE TABLE of a run: its parts are those after this history, each in a place of its kind, and its
-- slots are set as the history tells
pub record IsStateOf (s : history.Setting) (past : history.History) (table : State) : Type 0 where
  pub some : 2 ≤ s.limit
  pub limit : table.limit ≡ s.limit
  pub whole : IsWholeState table
  pub parts : state_in table ≡ parts_of s past
  pub placed : AreAllPlaced table.limit table.parts.items
  pub sets : (t : ℕ) → is_within s.limit t ≡ true → sets_in table t ≡ set_calls past t

-- and an entry that may come next
pub record IsBefore (s : history.Setting) (past : history.History) (e : Entry)
    (table : State) : Type 0 where
  pub of : IsStateOf s past table
  pub run : IsRun s past
  pub legal : IsLegal s past e

abbrev pub IsBeforeEntry : Entry → State → Type 0
IsBeforeEntry e table =
    (s : history.Setting) × (past : history.History) × IsBefore s past e table
