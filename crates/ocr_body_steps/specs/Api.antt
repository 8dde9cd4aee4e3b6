-- What an Api serves, and what a part of a body does to it.
use Rattle.std.specs.Prelude.{◌≡◌, ◌≤◌, ℕ, List, [], ◌∷◌}
use Rattle.ocr_guid.specs.declared.Code.TheVariants.{Done}
use Rattle.ocr_body_meaning.specs.Behaviour.{Behaviour, Stops, Asked, IsNextWith}
use Rattle.ocr_body_meaning.specs.Body.{Body}
use Rattle.ocr_body_meaning.specs.Holds.{Access, Refused, Silent, Entered}
use Rattle.ocr_body_meaning.specs.Meaning.{State, Value, Given, with_list}
use Rattle.ocr_body_meaning.specs.declared.call.Answer.{Answer}
use Rattle.ocr_body_meaning.specs.declared.call.BodyStop.{BodyStop}
use Rattle.ocr_body_meaning.specs.declared.call.BodyStop.TheVariants as stop
use Rattle.ocr_body_meaning.specs.declared.call.Call.{Call}

-- an Api after a call of its body: it is ready for the next, serves the same body, is of the same,
-- and the count of how often the run was found closed did not fall
pub record Serves {A K : Type 0} (is_ready : A → Type 0) (body_of : A → Body) (kept_of : A → K)
    (closings : A → ℕ) (before now : A) : Type 0 where
  pub ready : is_ready now
  pub serves : body_of now ≡ body_of before
  pub kept : kept_of now ≡ kept_of before
  pub later : closings before ≤ closings now

-- what is left begins with this part
abbrev pub Begins : Behaviour → ((State → Behaviour) → Behaviour) → Type 0
Begins left part = (k : State → Behaviour) × (left ≡ part k)

-- this part was done, and left this state
abbrev pub IsDone : Behaviour → ((State → Behaviour) → Behaviour) → State → Behaviour → Type 0
IsDone before part st now = (k : State → Behaviour) → before ≡ part k → now ≡ k st

-- what is left begins with this expression
abbrev pub BeginsValue : Behaviour → (Value → Behaviour) → Type 0
BeginsValue left part = (k : Value) × (left ≡ part k)

-- this expression was found to have this value, and left this state
abbrev pub HasValue : Behaviour → (Value → Behaviour) → ℕ → State → Behaviour → Type 0
HasValue before part v st now = (k : Value) → before ≡ part k → now ≡ k v st

-- what is left begins with these arguments
abbrev pub BeginsGiven : Behaviour → ((Given → State → Behaviour) → Behaviour) → Type 0
BeginsGiven left part = (k : Given → State → Behaviour) × (left ≡ part k)

-- these arguments were found to be this, and left this state
abbrev pub FindsGiven : Behaviour → ((Given → State → Behaviour) → Behaviour) → Given → State
    → Behaviour → Type 0
FindsGiven before part g st now = (k : Given → State → Behaviour) → before ≡ part k → now ≡ k g st

-- the arguments of a list were found, their values are a list more, and this state was left
abbrev pub IsListed : Behaviour → ((Given → State → Behaviour) → Behaviour) → (old new : Given)
    → State → Behaviour → Type 0
IsListed before part old new st now =
    (of : Given) × (new ≡ with_list old of.values) × FindsGiven before part of st now

-- a part stopped: the run was found closed, memory was refused, or the body says so
pub data StoppedBy (now : Behaviour) (rose : Type 0) : BodyStop → Type 0 where
  by_closing : rose → StoppedBy now rose stop.Closed
  by_memory : StoppedBy now rose stop.NoMemory
  by_body : (s : BodyStop) → now ≡ Stops s → StoppedBy now rose s

-- a call was not made: the run was found closed, or memory was refused
pub data IsRefusal (rose : Type 0) : BodyStop → Type 0 where
  refused_closed : rose → IsRefusal rose stop.Closed
  refused_memory : IsRefusal rose stop.NoMemory

-- the answer of a load, a store or a print that is an entry
abbrev pub answer_with : ℕ → Answer
answer_with v = record { code = Done; value = v; scope = 0; output = 0 }

-- a load or a store that is an entry is what the body does next
abbrev pub IsNextWhereEntered : Access → Call → Behaviour → Type 0
IsNextWhereEntered found made left = found ≡ Entered → IsNextWith made [] left

-- a load or a store was done, and had this value: it is no entry, or it is one
abbrev pub IsAccessed : Access → Call → ℕ → (log later : List Asked) → Type 0
IsAccessed (Refused s) made v log later = ⊥
IsAccessed (Silent x) made v log later = (v ≡ x) × (later ≡ log)
IsAccessed Entered made v log later = later ≡ record { call = made; answer = answer_with v } ∷ log

-- a load or a store was not done: for the fault that it is, or else it was refused
abbrev pub IsAccessStop : Access → (rose : Type 0) → BodyStop → Type 0
IsAccessStop (Refused r) rose s = s ≡ r
IsAccessStop other rose s = IsRefusal rose s
