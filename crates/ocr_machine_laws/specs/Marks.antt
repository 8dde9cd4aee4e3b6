-- How far an EDT has come, told by its core, and in the words of histories.
use Rattle.std.specs.Prelude.{◌≡◌, ℕ, List, [], Bool, true, false, not, nat_lt, is_some}
use Rattle.ocr_edt.specs.declared.Edt.{Edt}
use Rattle.ocr_edt.specs.declared.Edt.TheVariants as phase
use Rattle.ocr_edt.specs.Phases.{next_of}
use Rattle.ocr_machine_history.specs.Edts.{is_started, is_ended}
use Rattle.ocr_machine_history.specs.History.{History, Setting}
use Rattle.ocr_machine_parts.specs.declared.part.Part.{Part}
use Rattle.ocr_machine_parts.specs.declared.part.Part.TheVariants as part
use Rattle.ocr_machine_parts.specs.Calls.{open_slots}

-- an EDT is not ready, it acquires or waits, it runs, or it has ended
abbrev pub stage_in : Edt → ℕ
stage_in (phase.Filling i) = 0
stage_in (phase.Acquiring s) = 1
stage_in (phase.Waiting s) = 1
stage_in (phase.Running s) = 2
stage_in (phase.Ended i) = 3

-- it waits and wants nothing
abbrev pub is_lost_in : Edt → Bool
is_lost_in (phase.Waiting s) = not (is_some (next_of s))
is_lost_in other = false

abbrev pub mark_in : Edt → ℕ × Bool
mark_in s = (stage_in s, is_lost_in s)

abbrev pub mark : Part → ℕ × Bool
mark (part.Core c) = mark_in c.edt
mark other = (0, false)

-- The mark of an EDT tells whether it has started and ended. One that was made ready has no open
-- slot, and one that waits wants something.
pub record IsMarked (started ended : Bool) (unset : List ℕ) (m : ℕ × Bool) : Type 0 where
  pub has_started : started ≡ nat_lt 1 m.0
  pub has_ended : ended ≡ nat_lt 2 m.0
  pub all_set : nat_lt 0 m.0 ≡ true → unset ≡ []
  pub wants : m.1 ≡ false

abbrev pub IsMarkOf : Setting → History → ℕ → ℕ × Bool → Type 0
IsMarkOf s past t m = IsMarked (is_started past t) (is_ended past t) (open_slots s past t) m
