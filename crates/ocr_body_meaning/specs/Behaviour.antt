-- What a body does, one call after another.
use Rattle.std.specs.Prelude.{◌≡◌, ℕ, List, [], ◌∷◌}
use Rattle.ocr_body_meaning.specs.Holds.{Holds}
use Rattle.ocr_body_meaning.specs.declared.call.Call.{Call}
use Rattle.ocr_body_meaning.specs.declared.call.Answer.{Answer}
use Rattle.ocr_body_meaning.specs.declared.call.BodyStop.{BodyStop}

-- What a body does from some moment on: it ends with a GUID and these holds, it stops the run, or
-- it makes a call and goes on by the answer. The writes are the private writes of the hold that the
-- call ends where it is accepted.
pub data Behaviour : Type 0 where
  Ends : (returned : ℕ) → (holds : Holds) → Behaviour
  Stops : (stop : BodyStop) → Behaviour
  Asks : (call : Call) → (writes : List (ℕ × ℕ)) → (next : Answer → Behaviour) → Behaviour

-- a call with what it was answered
pub record Asked : Type 0 where
  pub call : Call
  pub answer : Answer

-- what is left once the call that comes next was answered
abbrev pub after_answer : Answer → Behaviour → Behaviour
after_answer a (Ends g holds) = Ends g holds
after_answer a (Stops s) = Stops s
after_answer a (Asks call writes next) = next a

-- what is left after these calls, the newest of which stands first
abbrev pub after : List Asked → Behaviour → Behaviour
after [] b = b
after (asked ∷ earlier) b = after_answer asked.answer (after earlier b)

-- this call comes next
abbrev pub IsNext : Call → Behaviour → Type 0
IsNext call (Ends g holds) = ⊥
IsNext call (Stops s) = ⊥
IsNext call (Asks made writes next) = made ≡ call

-- this call comes next, with these private writes
abbrev pub IsNextWith : Call → List (ℕ × ℕ) → Behaviour → Type 0
IsNextWith call writes (Ends g holds) = ⊥
IsNextWith call writes (Stops s) = ⊥
IsNextWith call writes (Asks made private next) = (made ≡ call) × (private ≡ writes)

-- each of these calls came next where it was made
abbrev pub IsTrace : Behaviour → List Asked → Type 0
IsTrace b [] = Unit {0}
IsTrace b (asked ∷ earlier) = IsTrace b earlier × IsNext asked.call (after earlier b)
