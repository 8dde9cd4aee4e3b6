-- Events of the kinds ONCE, IDEM and STICKY: what is told of the calls that one accepted, and the
-- steps of its state.
use Rattle.std.specs.Prelude.{◌≡◌, ℕ, List, [], ◌∷◌, ◌++◌, map, Bool, true, false, ◌||◌, ◌&&◌, if◌then◌else◌, Option, Some, None, is_some}
use Rattle.ocr_guid.specs.declared.Code.{Code}
use Rattle.ocr_guid.specs.declared.Code.TheVariants as code
use Rattle.ocr_guid.specs.declared.target.Target.{Target}
use Rattle.ocr_guid.specs.declared.target.Satisfied.{Satisfied}
use Rattle.ocr_guid.specs.declared.target.Satisfied.TheVariants as answer
use Rattle.ocr_guid.specs.declared.target.Linked.{Linked}
use Rattle.ocr_guid.specs.declared.target.Linked.TheVariants as link
use Rattle.ocr_guid.specs.Target.{EventCall, Satisfaction, Link, Destruction, links, was_destroyed, refusal_of, on_destroy, sent_by_firing, sent_by_linking}
use Rattle.ocr_event.specs.declared.EventKind.{EventKind}
use Rattle.ocr_event.specs.declared.EventKind.TheVariants as kind

-- A satisfaction that an IDEM event passes over is accepted too, and so stands among the calls.

-- the payload of the first satisfaction
abbrev pub first_payload : List EventCall → Option ℕ
first_payload [] = None
first_payload (Satisfaction slot p ∷ past) =
    elim (first_payload past) as (λ _. Option ℕ) [ None ↦ Some p | Some q ↦ Some q ]
first_payload (Link t ∷ past) = first_payload past
first_payload (Destruction ∷ past) = first_payload past

-- an event has fired where it has a satisfaction
abbrev pub has_fired : List EventCall → Bool
has_fired calls = is_some (first_payload calls)

-- the targets that were linked before the event fired, in the order of their links
abbrev pub waiters : List EventCall → List Target
waiters [] = []
waiters (Satisfaction slot p ∷ past) = waiters past
waiters (Link t ∷ past) = if has_fired past then waiters past else waiters past ++ t ∷ []
waiters (Destruction ∷ past) = waiters past

abbrev pub is_once : EventKind → Bool
is_once kind.Once = true
is_once other = false

abbrev pub is_idem : EventKind → Bool
is_idem kind.Idem = true
is_idem other = false

abbrev pub is_sticky : EventKind → Bool
is_sticky kind.Sticky = true
is_sticky other = false

-- an event is destroyed by a call, and a ONCE event also by firing
abbrev pub is_destroyed : EventKind → List EventCall → Bool
is_destroyed k calls = was_destroyed calls || (is_once k && has_fired calls)

-- the code that refuses a further satisfaction
abbrev pub refusal_after : EventKind → Bool → List EventCall → ℕ → Option Code
refusal_after k takes calls p =
    refusal_of (is_destroyed k calls) takes p (if is_sticky k
    && has_fired calls then Some code.Eperm else None)

-- the answer to a further satisfaction that is not refused: the first one fires to all that wait
abbrev pub firing_after : List EventCall → Satisfied
firing_after calls = if has_fired calls then answer.Ignored else answer.Fired (waiters calls)

-- the answer to a further link that is not refused: a fired event gives the payload that fired it
abbrev pub linking_after : List EventCall → Linked
linking_after calls =
    elim (first_payload calls) as (λ _. Linked) [ None ↦ link.Kept | Some p ↦ link.Now p ]

-- THE STATE.
pub record State : Type 0 where
  pub kind : EventKind
  pub takes_arg : Bool
  pub destroyed : Bool
  pub first : Option ℕ
  pub targets : List Target

abbrev pub state_of : EventKind → Bool → List EventCall → State
state_of k takes calls = record {
  kind = k;
  takes_arg = takes;
  destroyed = is_destroyed k calls;
  first = first_payload calls;
  targets = if has_fired calls || is_destroyed k calls then [] else waiters calls;
}

-- THE STEPS.
abbrev pub is_fired_sticky : State → Bool
is_fired_sticky s = is_sticky s.kind && is_some s.first

abbrev pub is_fired_idem : State → Bool
is_fired_idem s = is_idem s.kind && is_some s.first

abbrev pub refusal : State → ℕ → Option Code
refusal s p =
    refusal_of s.destroyed s.takes_arg p (if is_fired_sticky s then Some code.Eperm else None)

abbrev pub on_satisfy : State → ℕ → Satisfied
on_satisfy s p = elim (refusal s p) as (λ _. Satisfied) [
  | Some c ↦ answer.Refused c
  | None ↦ if is_fired_idem s then answer.Ignored else answer.Fired s.targets
]

abbrev pub after_firing : State → ℕ → State
after_firing s p = record {
  kind = s.kind;
  takes_arg = s.takes_arg;
  destroyed = s.destroyed || is_once s.kind;
  first = Some p;
  targets = [];
}

abbrev pub after_satisfy : State → ℕ → State
after_satisfy s p = elim (refusal s p) as (λ _. State) [
  | Some c ↦ s
  | None ↦ if is_fired_idem s then s else after_firing s p
]

abbrev pub on_link : State → Linked
on_link s = if s.destroyed then link.Refused code.Stale
    else elim s.first as (λ _. Linked) [ None ↦ link.Kept | Some p ↦ link.Now p ]

abbrev pub after_link : State → Target → State
after_link s t =
    if s.destroyed then s
    else if is_some s.first then s
    else record {
      kind = s.kind;
      takes_arg = s.takes_arg;
      destroyed = s.destroyed;
      first = s.first;
      targets = s.targets ++ t ∷ [];
    }

abbrev pub after_destroy : State → State
after_destroy s = if s.destroyed then s else record {
  kind = s.kind;
  takes_arg = s.takes_arg;
  destroyed = true;
  first = s.first;
  targets = [];
}

-- THE LAWS. After an accepted call the state is the step of the state before it.
abbrev pub RefusalLaw : Type 0
RefusalLaw = (k : EventKind) (takes : Bool) (calls : List EventCall) (p : ℕ)
    → refusal (state_of k takes calls) p ≡ refusal_after k takes calls p

abbrev pub SatisfyLaw : Type 0
SatisfyLaw = (k : EventKind) (takes : Bool) (calls : List EventCall) (slot p : ℕ)
    → refusal_after k takes calls p ≡ None
    → (state_of k takes (Satisfaction slot p ∷ calls) ≡ after_satisfy (state_of k takes calls) p)
    × (on_satisfy (state_of k takes calls) p ≡ firing_after calls)

abbrev pub LinkLaw : Type 0
LinkLaw = (k : EventKind) (takes : Bool) (calls : List EventCall) (t : Target)
    → is_destroyed k calls ≡ false
    → (state_of k takes (Link t ∷ calls) ≡ after_link (state_of k takes calls) t)
    × (on_link (state_of k takes calls) ≡ linking_after calls)

abbrev pub DestroyLaw : Type 0
DestroyLaw = (k : EventKind) (takes : Bool) (calls : List EventCall) → is_destroyed k calls ≡ false
    → (state_of k takes (Destruction ∷ calls) ≡ after_destroy (state_of k takes calls))
    × (on_destroy (state_of k takes calls).destroyed ≡ code.Done)

-- a destroyed event stays destroyed, keeps no target and refuses all, whatever comes
pub record IsDead (s : State) : Type 0 where
  pub destroyed : s.destroyed ≡ true
  pub no_target : s.targets ≡ []
  pub no_firing : (p : ℕ) → on_satisfy s p ≡ answer.Refused code.Stale
  pub no_link : on_link s ≡ link.Refused code.Stale

abbrev pub DestroyedLaw : Type 0
DestroyedLaw =
    (k : EventKind) (takes : Bool) (later calls : List EventCall) → is_destroyed k calls ≡ true
    → IsDead (state_of k takes (later ++ calls))

-- each call was accepted at its place
abbrev pub IsAccepted : EventKind → Bool → List EventCall → Type 0
IsAccepted k takes [] = Unit {0}
IsAccepted k takes (Satisfaction slot p ∷ past) =
    IsAccepted k takes past × (refusal_after k takes past p ≡ None)
IsAccepted k takes (Link t ∷ past) = IsAccepted k takes past × (is_destroyed k past ≡ false)
IsAccepted k takes (Destruction ∷ past) = IsAccepted k takes past × (is_destroyed k past ≡ false)

-- what the answers to all the calls sent, in the order of the calls
abbrev pub sent_in_all : EventKind → Bool → List EventCall → List (ℕ × Target)
sent_in_all k takes [] = []
sent_in_all k takes (Satisfaction slot p ∷ past) =
    sent_in_all k takes past ++ sent_by_firing p (on_satisfy (state_of k takes past) p)
sent_in_all k takes (Link t ∷ past) =
    sent_in_all k takes past ++ sent_by_linking t (on_link (state_of k takes past))
sent_in_all k takes (Destruction ∷ past) = sent_in_all k takes past

-- the payload that fired the event for each target that was ever linked to it, and nothing before
-- it fired
abbrev pub deliveries : List EventCall → List (ℕ × Target)
deliveries calls = elim (first_payload calls) as (λ _. List (ℕ × Target)) [
  | None ↦ []
  | Some p ↦ map (λ (t : Target). (p, t)) (links calls)
]

abbrev pub DeliveryLaw : Type 0
DeliveryLaw = (k : EventKind) (takes : Bool) (calls : List EventCall) → IsAccepted k takes calls
    → sent_in_all k takes calls ≡ deliveries calls
