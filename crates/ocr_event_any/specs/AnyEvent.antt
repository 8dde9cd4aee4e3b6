-- Events of all kinds as one: what is told of an event by the numbers that it was made with and by
-- the calls that it accepted, and the steps of its state.
use Rattle.std.specs.Prelude.{◌≡◌, ◌≤◌, ◌+◌, ℕ, List, ◌∷◌, Bool, true, false, ◌==◌, if◌then◌else◌, Option, None}
use Rattle.ocr_guid.specs.declared.Code.{Code}
use Rattle.ocr_guid.specs.declared.target.Target.{Target}
use Rattle.ocr_guid.specs.declared.target.Satisfied.{Satisfied}
use Rattle.ocr_guid.specs.declared.target.Linked.{Linked}
use Rattle.ocr_guid.specs.Target.{EventCall, Satisfaction, Link, Destruction}
use Rattle.ocr_event.specs.declared.EventKind.{EventKind}
use Rattle.ocr_event.specs.declared.EventKind.TheVariants as kind
use Rattle.ocr_event.specs.Event as event
use Rattle.ocr_latch.specs.Latch as latch
use Rattle.ocr_channel_event.specs.Channel as channel
use Rattle.ocr_event_any.specs.declared.TheConstants.{ONCE, IDEM, LATCH, CHANNEL}
use Rattle.ocr_event_any.specs.declared.AnyEvent.{AnyEvent}
use Rattle.ocr_event_any.specs.declared.AnyEvent.TheVariants as any

-- an event takes an argument where its flags say so
abbrev pub takes_arg : ℕ → Bool
takes_arg flags = flags == 1

-- the kinds that fire at their first satisfaction, by their numbers
abbrev pub plain_kind : ℕ → EventKind
plain_kind k = if k == ONCE then kind.Once else if k == IDEM then kind.Idem else kind.Sticky

-- THE STATE of an event that was made with these numbers, a channel with the most satisfactions
-- that it keeps
abbrev pub state_by : (is_latch is_channel : Bool) (k : EventKind) (takes : Bool) (most : ℕ)
    → List EventCall → AnyEvent
state_by true other k takes most calls = any.Latch (latch.state_of takes calls)
state_by false true k takes most calls = any.Channel (channel.state_of most takes calls)
state_by false false k takes most calls = any.Plain (event.state_of k takes calls)

abbrev pub state_of : (kind flags most : ℕ) → List EventCall → AnyEvent
state_of k flags most calls =
    state_by (k == LATCH) (k == CHANNEL) (plain_kind k) (takes_arg flags) most calls

abbrev pub is_destroyed : AnyEvent → Bool
is_destroyed (any.Plain st) = st.destroyed
is_destroyed (any.Latch st) = st.destroyed
is_destroyed (any.Channel st) = st.destroyed

-- the event carries a block
abbrev pub takes : AnyEvent → Bool
takes (any.Plain st) = st.takes_arg
takes (any.Latch st) = st.takes_arg
takes (any.Channel st) = st.takes_arg

-- how often a latch was satisfied
abbrev pub counted : AnyEvent → ℕ
counted (any.Latch st) = st.decrements + st.increments
counted other = 0

-- THE STEPS.
abbrev pub refusal : AnyEvent → ℕ → Option Code
refusal (any.Plain st) p = event.refusal st p
refusal (any.Latch st) p = latch.refusal st p
refusal (any.Channel st) p = channel.refusal st p

abbrev pub on_satisfy : AnyEvent → ℕ → ℕ → Satisfied
on_satisfy (any.Plain st) slot p = event.on_satisfy st p
on_satisfy (any.Latch st) slot p = latch.on_satisfy st slot p
on_satisfy (any.Channel st) slot p = channel.on_satisfy st p

abbrev pub after_satisfy : AnyEvent → ℕ → ℕ → AnyEvent
after_satisfy (any.Plain st) slot p = any.Plain (event.after_satisfy st p)
after_satisfy (any.Latch st) slot p = any.Latch (latch.after_satisfy st slot p)
after_satisfy (any.Channel st) slot p = any.Channel (channel.after_satisfy st p)

abbrev pub on_link : AnyEvent → Linked
on_link (any.Plain st) = event.on_link st
on_link (any.Latch st) = latch.on_link st
on_link (any.Channel st) = channel.on_link st

abbrev pub after_link : AnyEvent → Target → AnyEvent
after_link (any.Plain st) t = any.Plain (event.after_link st t)
after_link (any.Latch st) t = any.Latch (latch.after_link st t)
after_link (any.Channel st) t = any.Channel (channel.after_link st t)

abbrev pub after_destroy : AnyEvent → AnyEvent
after_destroy (any.Plain st) = any.Plain (event.after_destroy st)
after_destroy (any.Latch st) = any.Latch (latch.after_destroy st)
after_destroy (any.Channel st) = any.Channel (channel.after_destroy st)

-- THE LAWS. After an accepted call the state is the step of the state before it.
abbrev pub SatisfyLaw : Type 0
SatisfyLaw = (k flags most : ℕ) (calls : List EventCall) (slot p : ℕ)
    → ((k == CHANNEL) ≡ true → 1 ≤ most) → slot ≤ 1
    → refusal (state_of k flags most calls) p ≡ None
    → state_of k flags most (Satisfaction slot p ∷ calls)
    ≡ after_satisfy (state_of k flags most calls) slot p

abbrev pub LinkLaw : Type 0
LinkLaw = (k flags most : ℕ) (calls : List EventCall) (t : Target)
    → is_destroyed (state_of k flags most calls) ≡ false
    → state_of k flags most (Link t ∷ calls) ≡ after_link (state_of k flags most calls) t

abbrev pub DestroyLaw : Type 0
DestroyLaw = (k flags most : ℕ) (calls : List EventCall)
    → is_destroyed (state_of k flags most calls) ≡ false
    → state_of k flags most (Destruction ∷ calls) ≡ after_destroy (state_of k flags most calls)
