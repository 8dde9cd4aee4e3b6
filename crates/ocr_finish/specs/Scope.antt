-- Finish scopes: what is told of the calls that one accepted, and the steps of its state.
use Rattle.std.specs.Prelude.{◌≡◌, ◌<◌, ℕ, ◌+◌, ◌-◌, List, [], ◌∷◌, Bool, ◌==◌, if◌then◌else◌}
use Rattle.ocr_finish.specs.declared.Leaving.{Leaving}
use Rattle.ocr_finish.specs.declared.Leaving.TheVariants.{Alive, Done}

-- THE CALLS that a scope accepted. Lists of calls have the newest first.
pub data ScopeCall : Type 0 where
  Joining : ScopeCall
  Parting : ScopeCall

-- how many have joined: the finish EDT itself, with which the scope was made, and one more by each
-- joining
abbrev pub arrivals : List ScopeCall → ℕ
arrivals [] = 1
arrivals (Joining ∷ past) = arrivals past + 1
arrivals (Parting ∷ past) = arrivals past

-- how many members have left
abbrev pub departures : List ScopeCall → ℕ
departures [] = 0
departures (Joining ∷ past) = departures past
departures (Parting ∷ past) = departures past + 1

-- the members are those that joined and have not left
abbrev pub members_of : List ScopeCall → ℕ
members_of calls = arrivals calls - departures calls

-- a scope is done where all that joined have left
abbrev pub is_done : List ScopeCall → Bool
is_done calls = departures calls == arrivals calls

-- a list of calls that a scope can have: at each of them it had a member
abbrev pub IsAccepted : List ScopeCall → Type 0
IsAccepted [] = Unit {0}
IsAccepted (Joining ∷ past) = IsAccepted past × (departures past < arrivals past)
IsAccepted (Parting ∷ past) = IsAccepted past × (departures past < arrivals past)

-- THE STATE: the scope that this one leaves when it is done, the event that it then satisfies, and
-- its members.
pub record State : Type 0 where
  pub outer : ℕ
  pub event : ℕ
  pub members : ℕ

abbrev pub state_of : (outer event : ℕ) → List ScopeCall → State
state_of outer event calls = record { outer = outer; event = event; members = members_of calls }

-- THE STEPS.
abbrev pub after_join : State → State
after_join s = record { outer = s.outer; event = s.event; members = s.members + 1 }

abbrev pub after_leave : State → State
after_leave s = record { outer = s.outer; event = s.event; members = s.members - 1 }

abbrev pub on_leave : State → Leaving
on_leave s = if s.members == 1 then Done else Alive

-- THE LAWS. The state after an accepted call is the step from the state before it.
abbrev pub JoinLaw : Type 0
JoinLaw = (outer event : ℕ) (calls : List ScopeCall) → departures calls < arrivals calls
    → state_of outer event (Joining ∷ calls) ≡ after_join (state_of outer event calls)

abbrev pub LeaveLaw : Type 0
LeaveLaw = (outer event : ℕ) (calls : List ScopeCall) → departures calls < arrivals calls
    → (state_of outer event (Parting ∷ calls) ≡ after_leave (state_of outer event calls))
    × (on_leave (state_of outer event calls) ≡ (if is_done (Parting ∷ calls) then Done else Alive))

-- a scope has a member exactly where not all that joined have left; so it is never more than done
abbrev pub MembersLaw : Type 0
MembersLaw = (calls : List ScopeCall) → IsAccepted calls
    → departures calls + members_of calls ≡ arrivals calls
