-- The kinds of parts: what each tells, and what a step makes of it. Each kind of object adds its
-- own lines here.
use Rattle.std.specs.Prelude.{ℕ, List, [], Bool, true, false, Option, Some, None, is_some}
use Rattle.ocr_acquire.specs.declared.Mode.{Mode}
use Rattle.ocr_acquire.specs.Mode.{mode_in}
use Rattle.ocr_slots.specs.declared.Slot.{Slot}
use Rattle.ocr_datablock.specs.Block as block
use Rattle.ocr_datablock.specs.Lent.{Loan}
use Rattle.ocr_template.specs.declared.Template.{Template}
use Rattle.ocr_event_any.specs.declared.AnyEvent.{AnyEvent}
use Rattle.ocr_event_any.specs.AnyEvent as event
use Rattle.ocr_edt.specs.declared.Identity.{Identity}
use Rattle.ocr_edt.specs.declared.Edt.{Edt}
use Rattle.ocr_edt.specs.declared.Edt.TheVariants as phase
use Rattle.ocr_edt.specs.Edt as edt
use Rattle.ocr_edt.specs.Phases.{Progress, Work, next_of}
use Rattle.ocr_finish.specs.Scope as scope
use Rattle.ocr_machine_parts.specs.declared.loans.Kept.{Kept}
use Rattle.ocr_machine_parts.specs.declared.part.Core as core_type
use Rattle.ocr_machine_parts.specs.declared.part.Part.{Part}
use Rattle.ocr_machine_parts.specs.declared.part.Part.TheVariants as part
use Rattle.ocr_machine_parts.specs.Loans.{kept_in, loan_in}
use Rattle.ocr_machine_parts.specs.Parts.{plain_identity}

abbrev pub is_vacant : Part → Bool
is_vacant part.Vacant = true
is_vacant other = false

-- BLOCKS
abbrev pub is_block : Part → Bool
is_block (part.Block st) = true
is_block other = false

-- the part is a block of which this holds
abbrev pub IsBlock : Part → (block.State → Type 0) → Type 0
IsBlock (part.Block st) P = P st
IsBlock other P = ⊥

abbrev pub with_block : Part → (block.State → block.State) → Part
with_block (part.Block st) step = part.Block (step st)
with_block other step = other

abbrev pub words_on : Part → List ℕ
words_on (part.Block st) = st.words
words_on other = []

-- the length of a block
abbrev pub size_on : Part → ℕ
size_on (part.Block st) = st.size
size_on other = 0

-- the EDT holds the block
abbrev pub is_held_by : Part → ℕ → Bool
is_held_by (part.Block st) t = is_some (mode_in t st.holders)
is_held_by other t = false

-- TEMPLATES
abbrev pub is_template : Part → Bool
is_template (part.Template t) = true
is_template other = false

abbrev pub with_template : Part → (Template → Template) → Part
with_template (part.Template t) step = part.Template (step t)
with_template other step = other

-- EVENTS
abbrev pub is_event : Part → Bool
is_event (part.Event st) = true
is_event other = false

abbrev pub with_event : Part → (AnyEvent → AnyEvent) → Part
with_event (part.Event st) step = part.Event (step st)
with_event other step = other

-- how often an event was satisfied, where it counts that
abbrev pub counted_on : Part → ℕ
counted_on (part.Event st) = event.counted st
counted_on other = 0

-- a block, a template or an event that was destroyed
abbrev pub is_destroyed : Part → Bool
is_destroyed (part.Block st) = st.destroyed
is_destroyed (part.Template t) = t.destroyed
is_destroyed (part.Event st) = event.is_destroyed st
is_destroyed other = false

-- FINISH SCOPES
abbrev pub is_scope : Part → Bool
is_scope (part.Scope st) = true
is_scope other = false

abbrev pub with_scope : Part → (scope.State → scope.State) → Part
with_scope (part.Scope st) step = part.Scope (step st)
with_scope other step = other

-- EDTS: their faces
abbrev pub is_edt_face : Part → Bool
is_edt_face (part.Edt slots) = true
is_edt_face other = false

abbrev pub with_links : Part → (List Slot → List Slot) → Part
with_links (part.Edt slots) step = part.Edt (step slots)
with_links other step = other

-- and their cores
abbrev pub on_core : Part → (core_type.Core → core_type.Core) → Part
on_core (part.Core c) step = part.Core (step c)
on_core other step = other

-- who an EDT is, and its home: its own scope for a finish EDT, else that of its maker, 0 for none
abbrev pub identity_on : Part → Identity
identity_on (part.Core c) = edt.identity_of c.edt
identity_on other = plain_identity 0

abbrev pub home_on : Part → ℕ
home_on x = (identity_on x).scope

-- how far an EDT that acquires or waits has come
abbrev pub progress_in : Edt → Option Progress
progress_in (phase.Acquiring s) = Some s
progress_in (phase.Waiting s) = Some s
progress_in other = None

abbrev pub core_progress : Part → Option Progress
core_progress (part.Core c) = progress_in c.edt
core_progress other = None

-- the block that an EDT acquires next, with its mode
abbrev pub next_in : Option Progress → Option (ℕ × Mode)
next_in None = None
next_in (Some s) = next_of s

-- the EDT acquires, and does not wait
abbrev pub is_acquiring_edt : Edt → Bool
is_acquiring_edt (phase.Acquiring s) = true
is_acquiring_edt other = false

abbrev pub is_acquiring : Part → Bool
is_acquiring (part.Core c) = is_acquiring_edt c.edt
is_acquiring other = false

-- what a running EDT holds
abbrev pub work_in : Edt → Option Work
work_in (phase.Running s) = Some s
work_in other = None

abbrev pub work_of : Part → Option Work
work_of (part.Core c) = work_in c.edt
work_of other = None

abbrev pub is_running : Part → Bool
is_running x = is_some (work_of x)

abbrev pub holds_of : Option Work → List (ℕ × Mode)
holds_of None = []
holds_of (Some s) = s.holds

-- the mode in which the running EDT holds a block, and what it keeps with it
abbrev pub mode_on : Part → ℕ → Option Mode
mode_on x d = mode_in d (holds_of (work_of x))

abbrev pub kept_on : Part → ℕ → Option Kept
kept_on (part.Core c) d = kept_in d c.loans
kept_on other d = None

abbrev pub loan_on : Part → ℕ → Option Loan
loan_on x d = loan_in (kept_on x d)
