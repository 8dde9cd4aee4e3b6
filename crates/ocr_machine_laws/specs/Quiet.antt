-- How each EDT goes on, and what a quiet run leaves.
use Rattle.std.specs.Prelude.{◌≡◌, ◌≢◌, ◌↔◌, ◌⊎◌, ℕ, ◌+◌, ◌≤◌, [], true, false, Some, None}
use Rattle.ocr_acquire.specs.declared.Mode.{Mode}
use Rattle.ocr_acquire.specs.Mode.{mode_in}
use Rattle.ocr_machine_history.specs.declared.entry.Entry.{Entry}
use Rattle.ocr_machine_history.specs.declared.entry.Entry.TheVariants.{Acquire, Wait, StaleAcquire, Start}
use Rattle.ocr_machine_history.specs.Edts.{is_started, is_ended, IsRunning}
use Rattle.ocr_machine_history.specs.History.{History, Setting, is_stopped}
use Rattle.ocr_machine_history.specs.Made.{made, is_edt, is_edt_made}
use Rattle.ocr_machine_parts.specs.Calls.{open_slots}
use Rattle.ocr_machine_parts.specs.Parts.{parts_of}
use Rattle.ocr_machine_parts.specs.Messages.{pending}
use Rattle.ocr_machine_parts.specs.Legal.{IsRun, IsLegal}
use Rattle.ocr_machine_parts.specs.Runs.{LeavesOpen, IsQuiet}
use Rattle.ocr_machine_laws.specs.Marks.{mark, IsMarkOf}
use Rattle.ocr_machine_laws.specs.Waits.{is_gone_on, holders_on, queue_on, rest_on, awaits, AreStanding, AreBlocks}

-- WHAT STANDS after each run: who stands at the blocks, and what the cores tell
abbrev pub StandingLaw : Type 0
StandingLaw = (s : Setting) (past : History) → IsRun s past → AreStanding (parts_of s past)

abbrev pub ToldLaw : Type 0
ToldLaw = (s : Setting) (past : History) → IsRun s past → (t : ℕ)
    → IsMarkOf s past t (mark ((parts_of s past).core t))

-- each block that an EDT wants is there
abbrev pub WantedLaw : Type 0
WantedLaw = (s : Setting) (past : History) → IsRun s past → (t : ℕ)
    → AreBlocks (parts_of s past).face (rest_on ((parts_of s past).core t))

-- nothing is made past the limit and the opening
abbrev pub BoundLaw : Type 0
BoundLaw = (s : Setting) (past : History) → IsRun s past → (d : ℕ) → s.limit + 3 ≤ d
    → made s past d ≡ None

-- the EDTs are what was made as EDTs
abbrev pub EdtsLaw : Type 0
EdtsLaw = (s : Setting) (past : History) → IsRun s past → (t : ℕ)
    → is_edt_made (made s past t) ≡ is_edt past t

-- GOING ON. An EDT that has not started goes on by this entry
abbrev pub IsWakingOf : ℕ → Entry → Type 0
IsWakingOf t (Acquire u d) = u ≡ t
IsWakingOf t (Wait u d) = u ≡ t
IsWakingOf t (StaleAcquire u d) = u ≡ t
IsWakingOf t (Start u) = u ≡ t
IsWakingOf t other = ⊥

abbrev pub CanWake : Setting → History → ℕ → Type 0
CanWake s past t = (e : Entry) × IsWakingOf t e × IsLegal s past e

-- it stands in the queue of the block that it acquires next
pub record IsQueued (s : Setting) (past : History) (t d : ℕ) (m : Mode) : Type 0 where
  pub waits : awaits ((parts_of s past).core t) ≡ Some (d, m)
  pub queued : mode_in t (queue_on ((parts_of s past).face d)) ≡ Some m

abbrev pub StandsInQueue : Setting → History → ℕ → Type 0
StandsInQueue s past t = (d : ℕ) × (m : Mode) × IsQueued s past t d m

-- an EDT that has not started and whose slots are set goes on, or stands in a queue
abbrev pub WakeLaw : Type 0
WakeLaw = (s : Setting) (past : History) (t : ℕ) → IsRun s past → is_stopped past ≡ false
    → is_edt past t ≡ true → is_started past t ≡ false → open_slots s past t ≡ []
    → CanWake s past t ⊎ StandsInQueue s past t

-- A QUIET RUN leaves those EDTs that have an open slot, and no others
abbrev pub QuietLaw : Type 0
QuietLaw = (s : Setting) (past : History) → IsQuiet s past → IsRun s past → LeavesOpen s past

-- and nobody waits
pub record NobodyWaits (s : Setting) (past : History) : Type 0 where
  pub queues : (d : ℕ) → queue_on ((parts_of s past).face d) ≡ []
  pub cores : (t : ℕ) → awaits ((parts_of s past).core t) ≡ None

abbrev pub NobodyLaw : Type 0
NobodyLaw = (s : Setting) (past : History) → IsQuiet s past → IsRun s past → NobodyWaits s past

-- WHO CANNOT GO ON. An EDT waits for a block that it was not granted
pub record IsUngranted (s : Setting) (past : History) (t d : ℕ) (m : Mode) : Type 0 where
  pub waits : awaits ((parts_of s past).core t) ≡ Some (d, m)
  pub not_held : mode_in t (holders_on ((parts_of s past).face d)) ≡ None
  pub not_gone : is_gone_on ((parts_of s past).face d) ≡ false

-- or it has ended, or has an open slot
abbrev pub IsOver : Setting → History → ℕ → Type 0
IsOver s past t = (is_ended past t ≡ true) ⊎ (open_slots s past t ≢ [])

abbrev pub IsIdleEdt : Setting → History → ℕ → Type 0
IsIdleEdt s past t = IsOver s past t ⊎ ((d : ℕ) × (m : Mode) × IsUngranted s past t d m)

-- each EDT goes on by an entry that is legal now, or runs, or is idle
abbrev pub FateLaw : Type 0
FateLaw = (s : Setting) (past : History) (t : ℕ) → IsRun s past → is_stopped past ≡ false
    → is_edt past t ≡ true → CanWake s past t ⊎ (IsRunning past t ⊎ IsIdleEdt s past t)

-- and no entry that is legal now takes an idle one on
abbrev pub IdleLaw : Type 0
IdleLaw = (s : Setting) (past : History) (t : ℕ) → IsRun s past → IsIdleEdt s past t
    → CanWake s past t → ⊥

-- a pass over all EDTs that finds nobody who can go on tells that the run is quiet
abbrev pub DrainLaw : Type 0
DrainLaw = (s : Setting) (past : History) → IsRun s past → is_stopped past ≡ false
    → pending s past ≡ [] → ((t : ℕ) → is_edt past t ≡ true → IsIdleEdt s past t) → IsQuiet s past

-- A run is quiet exactly where it was not stopped, nothing is to be delivered, and each EDT has
-- ended or has an open slot.
pub record IsDone (s : Setting) (past : History) : Type 0 where
  pub open_run : is_stopped past ≡ false
  pub delivered : pending s past ≡ []
  pub over : (t : ℕ) → is_edt past t ≡ true → IsOver s past t

abbrev pub DoneLaw : Type 0
DoneLaw = (s : Setting) (past : History) → IsRun s past → IsQuiet s past ↔ IsDone s past
