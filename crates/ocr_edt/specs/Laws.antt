-- The phase of an EDT, and what it holds, by the list of its calls.
use Rattle.std.specs.Prelude.{◌≡◌, ℕ, List, [], ◌∷◌, true, false, ◌==◌, if◌then◌else◌, Option, Some, None}
use Rattle.ocr_acquire.specs.declared.Mode.{Mode}
use Rattle.ocr_acquire.specs.declared.Mode.TheVariants as mode
use Rattle.ocr_acquire.specs.Plan.{IsWellFormed}
use Rattle.ocr_edt.specs.declared.Identity.{Identity}
use Rattle.ocr_edt.specs.declared.Edt.TheVariants as phase
use Rattle.ocr_acquire.specs.Mode.{mode_in}
use Rattle.ocr_edt.specs.Phases.{Progress, Work, Rises, next_of}
use Rattle.ocr_edt.specs.Steps.{after_ready, after_acquired, after_start, after_hold, after_drop_hold}
use Rattle.ocr_edt.specs.Edt.{EdtCall, Ready, Acquired, FoundStale, Wait, Resumed, Start, Hold, DropHold, End, plan_given, acquired_of, holds_of, edt_of}

-- the mode in which the EDT holds a block, by the last call that speaks of it
abbrev pub mode_after : ℕ → EdtCall → Option Mode → Option Mode → Option Mode
mode_after block (Hold g) acquired before = if block == g then Some mode.Rw else before
mode_after block (DropHold g) acquired before = if block == g then None else before
mode_after block End acquired before = None
mode_after block call acquired before = acquired

abbrev pub last_mode : ℕ → List EdtCall → Option Mode
last_mode block [] = None
last_mode block (call ∷ past) =
    mode_after block call (mode_in block (acquired_of (call ∷ past))) (last_mode block past)

-- THE LAWS. After a call the EDT is the step from the phase before it.
abbrev pub ReadyLaw : Type 0
ReadyLaw = (i f : Identity) (calls : List EdtCall) (plan : List (ℕ × Mode))
    → edt_of i calls ≡ phase.Filling f
    → edt_of i (Ready plan ∷ calls) ≡ phase.Acquiring (after_ready f plan)

abbrev pub AcquiredLaw : Type 0
AcquiredLaw = (i : Identity) (s : Progress) (calls : List EdtCall) (block : ℕ) (m : Mode)
    → edt_of i calls ≡ phase.Acquiring s
    → IsWellFormed (plan_given calls) → next_of s ≡ Some (block, m)
    → edt_of i (Acquired block ∷ calls) ≡ phase.Acquiring (after_acquired s false)

abbrev pub StaleLaw : Type 0
StaleLaw = (i : Identity) (s : Progress) (calls : List EdtCall) (block : ℕ) (m : Mode)
    → edt_of i calls ≡ phase.Acquiring s
    → IsWellFormed (plan_given calls) → next_of s ≡ Some (block, m)
    → edt_of i (FoundStale block ∷ calls) ≡ phase.Acquiring (after_acquired s true)

abbrev pub WaitLaw : Type 0
WaitLaw = (i : Identity) (s : Progress) (calls : List EdtCall) → edt_of i calls ≡ phase.Acquiring s
    → edt_of i (Wait ∷ calls) ≡ phase.Waiting s

abbrev pub ResumedLaw : Type 0
ResumedLaw = (i : Identity) (s : Progress) (calls : List EdtCall) → edt_of i calls ≡ phase.Waiting s
    → edt_of i (Resumed ∷ calls) ≡ phase.Acquiring s

abbrev pub StartLaw : Type 0
StartLaw = (i : Identity) (s : Progress) (calls : List EdtCall) → edt_of i calls ≡ phase.Acquiring s
    → edt_of i (Start ∷ calls) ≡ phase.Running (after_start s)

abbrev pub HoldLaw : Type 0
HoldLaw =
    (i : Identity) (s : Work) (calls : List EdtCall) (block : ℕ) → edt_of i calls ≡ phase.Running s
    → edt_of i (Hold block ∷ calls) ≡ phase.Running (after_hold s block)

abbrev pub DropLaw : Type 0
DropLaw =
    (i : Identity) (s : Work) (calls : List EdtCall) (block : ℕ) → edt_of i calls ≡ phase.Running s
    → edt_of i (DropHold block ∷ calls) ≡ phase.Running (after_drop_hold s block)

abbrev pub EndLaw : Type 0
EndLaw = (i : Identity) (s : Work) (calls : List EdtCall) → edt_of i calls ≡ phase.Running s
    → edt_of i (End ∷ calls) ≡ phase.Ended s.identity

-- the mode of a hold is told by the last call that speaks of it
abbrev pub ModeLaw : Type 0
ModeLaw =
    (calls : List EdtCall) (block : ℕ) → mode_in block (holds_of calls) ≡ last_mode block calls

-- the holds rise, and so each block is held once
abbrev pub RisingLaw : Type 0
RisingLaw = (calls : List EdtCall) → IsWellFormed (plan_given calls) → Rises (holds_of calls)
