-- The plan with which an EDT goes on, the block that it acquires next, and an event with one target
-- more.
use Rattle.std.specs.Prelude.{ℕ, Bool, List, true, false, ◌==◌, if◌then◌else◌, Option}
use Rattle.ocr_acquire.specs.declared.Mode.{Mode}
use Rattle.ocr_datablock.specs.Lent.{Loan}
use Rattle.ocr_guid.specs.declared.target.Target.{Target}
use Rattle.ocr_event_any.specs.AnyEvent as event
use Rattle.ocr_edt.specs.declared.Edt.{Edt}
use Rattle.ocr_edt.specs.declared.Edt.TheVariants as phase
use Rattle.ocr_edt.specs.Steps.{after_ready}
use Rattle.ocr_machine_history.specs.declared.entry.Entry.{Entry}
use Rattle.ocr_machine_history.specs.declared.entry.Entry.TheVariants.{Call, Acquire, Wait, StaleAcquire, Start, Free, End, Stop}
use Rattle.ocr_machine_history.specs.declared.entry.Stop.TheVariants as by
use Rattle.ocr_machine_history.specs.History.{History, Setting}
use Rattle.ocr_machine_parts.specs.declared.loans.Kept.{Kept}
use Rattle.ocr_machine_parts.specs.declared.part.Core as core_type
use Rattle.ocr_machine_parts.specs.declared.part.Part.{Part}
use Rattle.ocr_machine_parts.specs.Calls.{plan_of, mode_next}
use Rattle.ocr_machine_parts.specs.Loans.{with_loan}
use Rattle.ocr_machine_parts.specs.Parts.{Parts}
use Rattle.ocr_machine_parts.specs.Kinds.{with_event, on_core, core_progress, next_in}

-- these parts, but for one
abbrev pub with_face : Parts → ℕ → Part → Parts
with_face f n x = record { face = λ g. if n == g then x else f.face g; core = f.core }

abbrev pub with_core : Parts → ℕ → Part → Parts
with_core f n x = record { face = f.face; core = λ t. if n == t then x else f.core t }

-- a core with this phase and these loans
abbrev pub core_with : core_type.Core → Edt → List (ℕ × Kept) → core_type.Core
core_with c e loans =
    record { function = c.function; params = c.params; edt = e; loans = loans }

abbrev pub with_phase : (Edt → Edt) → core_type.Core → core_type.Core
with_phase step c = core_with c (step c.edt) c.loans

-- the core with the loan of a block after a step
abbrev pub core_after : (Loan → Loan) → ℕ → core_type.Core → core_type.Core
core_after step d c = core_with c c.edt (with_loan d step c.loans)

-- the block that an EDT acquires next, with its mode
abbrev pub next_on : Parts → ℕ → Option (ℕ × Mode)
next_on f t = next_in (core_progress (f.core t))

abbrev pub next_mode_on : Parts → ℕ → Mode
next_mode_on f t = mode_next (next_on f t)

-- an EDT whose slots are all set has this plan now
abbrev pub made_ready : List (ℕ × Mode) → Edt → Edt
made_ready members (phase.Filling i) = phase.Acquiring (after_ready i members)
made_ready members other = other

-- READY: the plan of an EDT is made of the payloads by whoever takes it on
abbrev pub ready_at : ℕ → List (ℕ × Mode) → Parts → Parts
ready_at t members f = with_core f t (on_core (f.core t) (with_phase (made_ready members)))

abbrev pub readied : List (ℕ × Mode) → Entry → Parts → Parts
readied members (Acquire t d) f = ready_at t members f
readied members (Wait t d) f = ready_at t members f
readied members (StaleAcquire t d) f = ready_at t members f
readied members (Start t) f = ready_at t members f
readied members other f = f

-- the EDT of an entry; 0 for an entry that belongs to none
abbrev pub edt_in : Entry → ℕ
edt_in (Call t home c a w) = t
edt_in (Acquire t d) = t
edt_in (Wait t d) = t
edt_in (StaleAcquire t d) = t
edt_in (Start t) = t
edt_in (Free t d w) = t
edt_in (End t g) = t
edt_in (Stop (by.Shutdown t)) = t
edt_in (Stop (by.Abort t code)) = t
edt_in (Stop (by.Fault t why)) = t
edt_in other = 0

-- with the plan of its EDT
abbrev pub readied_on : Setting → History → Entry → Parts → Parts
readied_on s past e f = readied (plan_of s past (edt_in e)) e f

-- an event as a source is linked to its target
abbrev pub linked_to : ℕ → Target → Parts → Parts
linked_to d t f = with_face f d (with_event (f.face d) (λ st. event.after_link st t))

-- where the source is named
abbrev pub linked_if : Bool → ℕ → Target → Parts → Parts
linked_if true d t f = linked_to d t f
linked_if false d t f = f
