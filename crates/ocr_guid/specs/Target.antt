-- What all events have in common, whatever their kind: the calls that they accept, and what their
-- answers send.
use Rattle.std.specs.Prelude.{ℕ, List, [], ◌∷◌, ◌++◌, map, Bool, true, false, ◌&&◌, not, ◌==◌, if◌then◌else◌, Option, Some}
use Rattle.ocr_guid.specs.declared.Code.{Code}
use Rattle.ocr_guid.specs.declared.Code.TheVariants as code
use Rattle.ocr_guid.specs.declared.target.Target.{Target}
use Rattle.ocr_guid.specs.declared.target.Satisfied.{Satisfied}
use Rattle.ocr_guid.specs.declared.target.Satisfied.TheVariants as answer
use Rattle.ocr_guid.specs.declared.target.Linked.{Linked}
use Rattle.ocr_guid.specs.declared.target.Linked.TheVariants as link

-- A call that an event accepted. Lists of calls have the newest first.
pub data EventCall : Type 0 where
  Satisfaction : (slot payload : ℕ) → EventCall
  Link : (target : Target) → EventCall
  Destruction : EventCall

-- the targets of the links, in their order
abbrev pub links : List EventCall → List Target
links [] = []
links (Link t ∷ past) = links past ++ t ∷ []
links (other ∷ past) = links past

-- whether a call destroyed the event
abbrev pub was_destroyed : List EventCall → Bool
was_destroyed [] = false
was_destroyed (Destruction ∷ past) = true
was_destroyed (other ∷ past) = was_destroyed past

-- the payload is a block, and the event takes none
abbrev pub is_unwanted : (takes_arg : Bool) (payload : ℕ) → Bool
is_unwanted takes_arg payload = not (payload == 0) && not takes_arg

-- neither the event's destruction nor the payload refuses a satisfaction
abbrev pub is_welcome : (destroyed takes_arg : Bool) (payload : ℕ) → Bool
is_welcome destroyed takes_arg payload = not destroyed && not (is_unwanted takes_arg payload)

-- the code that refuses a satisfaction: a destroyed event is stale, then the payload is looked at,
-- then the event's kind
abbrev pub refusal_of : (destroyed takes_arg : Bool) (payload : ℕ) (by_kind : Option Code)
    → Option Code
refusal_of destroyed takes_arg payload by_kind =
    if destroyed then Some code.Stale
    else if is_unwanted takes_arg payload then Some code.Einval
    else by_kind

-- the answer to a destruction
abbrev pub on_destroy : (destroyed : Bool) → Code
on_destroy destroyed = if destroyed then code.Stale else code.Done

-- what an answer to a satisfaction sends: this payload to each target that it reaches
abbrev pub sent_by_firing : (payload : ℕ) → Satisfied → List (ℕ × Target)
sent_by_firing payload (answer.Fired targets) = map (λ (t : Target). (payload, t)) targets
sent_by_firing payload other = []

-- what an answer to a link sends to its target
abbrev pub sent_by_linking : Target → Linked → List (ℕ × Target)
sent_by_linking t (link.Now payload) = (payload, t) ∷ []
sent_by_linking t other = []
