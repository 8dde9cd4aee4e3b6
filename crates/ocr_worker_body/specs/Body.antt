-- A clerk that runs the body of an EDT, to its end.
use Rattle.std.specs.Prelude.{◌≡◌, ℕ, List, [], ◌∷◌, ◌++◌, Bool, true, false, ◌⊎◌, Option, Some, None, is_some}
use Rattle.ocr_acquire.specs.Mode.{mode_in}
use Rattle.ocr_body_code.specs.declared.checked.Checked.{Checked}
use Rattle.ocr_body_meaning.specs.Behaviour.{Behaviour, Ends}
use Rattle.ocr_body_meaning.specs.Body.{Body, says}
use Rattle.ocr_body_meaning.specs.Holds.{Holds, no_holds}
use Rattle.ocr_body_meaning.specs.declared.call.BodyStop.{BodyStop}
use Rattle.ocr_body_meaning.specs.declared.call.BodyStop.TheVariants as stop
use Rattle.ocr_machine_history.specs.declared.entry.Entry.{Entry}
use Rattle.ocr_machine_history.specs.declared.entry.Entry.TheVariants as an
use Rattle.ocr_worker_machine.specs.Clerks.{OcrTerms}
use Rattle.ocr_steal.specs.declared.hand.Hand as deque
use Rattle.ocr_worker_clerk.specs.Entry.{OcrKnown}
use Rattle.ocr_worker_clerk.specs.Push.{PushesReady}
use Rattle.ocr_worker_clerk.specs.Work.{AtWork, IsGone, OcrTable, stop_in}
use Rattle.ocr_worker_access.specs.Access.{Runs, held_at, holds_at}
use Rattle.ocr_worker_access.specs.Served.{own_log}
use Rattle.ocr_worker_access.specs.Stops.{stop_for}

-- AT THE DESK, while the run was not found ended
pub record AtDesk (table : OcrTable) (program : Checked) (edt : ℕ) (b : Body) (c : OcrKnown)
    (closings : ℕ) : Type 0 where
  pub work : AtWork table program c
  pub runs : Runs table.1 edt b c
  pub unclosed : closings ≡ 0

-- and after it
abbrev pub IsReady : {A : Type 0} → Option A → OcrTable → Checked → (worker edt : ℕ) → Body
    → OcrKnown → ℕ → Type 0
IsReady None table program worker edt b c closings = AtDesk table program edt b c closings
IsReady (Some over) table program worker edt b c closings = IsGone table worker c

-- and what was pushed since then, where it was not
abbrev pub PushesSince : {A : Type 0} → Option A → (old new : OcrKnown)
    → (before after : deque.Hand) → Type 0
PushesSince None old new before after = PushesReady old new before after
PushesSince (Some over) old new before after = Unit {0}

-- the clerk now, or before the call in which the run was found ended
abbrev pub state_in : {A : Type 0} → Option A → (now last : OcrKnown) → OcrKnown
state_in None now last = now
state_in (Some over) now last = last

-- what the EDT holds: nothing any more once the run has ended
abbrev pub holds_while : {A : Type 0} → Option A → OcrKnown → Holds
holds_while None c = holds_at c
holds_while (Some over) c = no_holds

-- the body stopped for want of memory
abbrev pub is_for_memory : BodyStop → Bool
is_for_memory stop.NoMemory = true
is_for_memory other = false

-- STOPPED: else the log has the Stop that the body asked for, unless the run had ended before
abbrev pub HasStopped : (edt : ℕ) → BodyStop → OcrKnown → Type 0
HasStopped edt stop c = is_for_memory stop ≡ false
    → (is_some c.view.closed ≡ true) ⊎ (stop_in c.view.log ≡ Some (stop_for edt stop))

-- what the EDT holds where its body ends so
abbrev pub end_holds : Behaviour → Holds
end_holds (Ends g holds) = holds
end_holds other = no_holds

-- RETURNED: the body has ended, and what the EDT still holds it holds as it did then
abbrev pub AreLeft : Holds → OcrKnown → Type 0
AreLeft holds c = (d : ℕ) → is_some (mode_in d (held_at c)) ≡ true → holds_at c d ≡ holds d

pub record HasReturned (t : OcrTerms) (edt : ℕ) (b : Body) (returned : ℕ) (c : OcrKnown)
    : Type 0 where
  pub holds : Holds
  pub runs : Runs t edt b c
  pub ends : says b (own_log c.view.log edt) ≡ Ends returned holds
  pub left : AreLeft holds c

-- ENDED: the newest entry of the log is the End of the EDT, which returned this
pub record EndsNow (edt : ℕ) (old new : OcrKnown) : Type 0 where
  pub returned : ℕ
  pub more : List (ℕ × Entry)
  pub number : ℕ
  pub log : new.view.log ≡ old.view.log ++ more ++ (number, an.End edt returned) ∷ []
