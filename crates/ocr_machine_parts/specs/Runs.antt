-- Which EDTs of a run start, and when; and when a run is quiet.
use Rattle.std.specs.Prelude.{◌≡◌, ◌≢◌, ◌↔◌, ℕ, [], ◌∷◌, true, false}
use Rattle.ocr_machine_history.specs.declared.entry.Entry.{Entry}
use Rattle.ocr_machine_history.specs.declared.entry.Entry.TheVariants.{Acquire, Wait, StaleAcquire, Start}
use Rattle.ocr_machine_history.specs.History.{History, Setting, is_stopped}
use Rattle.ocr_machine_history.specs.Made.{is_edt}
use Rattle.ocr_machine_history.specs.Edts.{is_started, is_ended}
use Rattle.ocr_machine_parts.specs.Calls.{open_slots}
use Rattle.ocr_machine_parts.specs.Messages.{pending}
use Rattle.ocr_machine_parts.specs.Legal.{IsLegal}

-- each EDT that starts has no open slot then
abbrev pub StartsSet : Setting → History → Type 0
StartsSet s [] = Unit {0}
StartsSet s (Start t ∷ past) = (open_slots s past t ≡ []) × StartsSet s past
StartsSet s (e ∷ past) = StartsSet s past

-- those EDTs never started that have an open slot, and no others
abbrev pub LeavesOpen : Setting → History → Type 0
LeavesOpen s past =
    (t : ℕ) → is_edt past t ≡ true → (is_started past t ≡ false) ↔ (open_slots s past t ≢ [])

-- an EDT that has not started goes on by this entry
abbrev pub IsWaking : Entry → Type 0
IsWaking (Acquire t d) = Unit {0}
IsWaking (Wait t d) = Unit {0}
IsWaking (StaleAcquire t d) = Unit {0}
IsWaking (Start t) = Unit {0}
IsWaking other = ⊥

-- nothing is left that could go on
pub record IsQuiet (s : Setting) (past : History) : Type 0 where
  pub open_run : is_stopped past ≡ false
  pub delivered : pending s past ≡ []
  pub ended : (t : ℕ) → is_started past t ≡ true → is_ended past t ≡ true
  pub asleep : (e : Entry) → IsWaking e → IsLegal s past e → ⊥
