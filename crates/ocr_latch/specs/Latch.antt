-- Latches: what is told of the calls that one accepted, and the steps of its state.
use Rattle.std.specs.Prelude.{◌≡◌, ◌≤◌, ℕ, ◌+◌, List, [], ◌∷◌, ◌++◌, map, Bool, true, false, ◌||◌, ◌&&◌, not, ◌==◌, if◌then◌else◌, Option, Some, None}
use Rattle.ocr_guid.specs.declared.Code.{Code}
use Rattle.ocr_guid.specs.declared.Code.TheVariants as code
use Rattle.ocr_guid.specs.declared.target.Target.{Target}
use Rattle.ocr_guid.specs.declared.target.Satisfied.{Satisfied}
use Rattle.ocr_guid.specs.declared.target.Satisfied.TheVariants as answer
use Rattle.ocr_guid.specs.declared.target.Linked.{Linked}
use Rattle.ocr_guid.specs.declared.target.Linked.TheVariants as link
use Rattle.ocr_guid.specs.Target.{EventCall, Satisfaction, Link, Destruction, links, was_destroyed, refusal_of, on_destroy, sent_by_firing, sent_by_linking}

-- how many satisfactions were on this slot: slot 0 decrements, slot 1 increments
abbrev pub satisfactions_on : ℕ → List EventCall → ℕ
satisfactions_on k [] = 0
satisfactions_on k (Satisfaction slot p ∷ past) =
    if slot == k then satisfactions_on k past + 1 else satisfactions_on k past
satisfactions_on k (Link t ∷ past) = satisfactions_on k past
satisfactions_on k (Destruction ∷ past) = satisfactions_on k past

abbrev pub decrements : List EventCall → ℕ
decrements calls = satisfactions_on 0 calls

abbrev pub increments : List EventCall → ℕ
increments calls = satisfactions_on 1 calls

-- the two numbers are equal and not zero
abbrev pub is_balanced : List EventCall → Bool
is_balanced calls = (decrements calls == increments calls) && not (decrements calls == 0)

-- a latch fires at the first place after which it is balanced
abbrev pub has_fired : List EventCall → Bool
has_fired [] = false
has_fired (call ∷ past) = has_fired past || is_balanced (call ∷ past)

-- a latch is destroyed by a call or by firing
abbrev pub is_destroyed : List EventCall → Bool
is_destroyed calls = was_destroyed calls || has_fired calls

-- the code that refuses a further satisfaction
abbrev pub refusal_after : Bool → List EventCall → ℕ → Option Code
refusal_after takes calls p = refusal_of (is_destroyed calls) takes p None

-- the answer to a further satisfaction that is not refused: where it fires the latch, all that wait
-- are reached
abbrev pub firing_after : List EventCall → ℕ → ℕ → Satisfied
firing_after calls slot p =
    if has_fired (Satisfaction slot p ∷ calls) then answer.Fired (links calls) else answer.Kept

-- THE STATE.
pub record State : Type 0 where
  pub takes_arg : Bool
  pub destroyed : Bool
  pub decrements : ℕ
  pub increments : ℕ
  pub targets : List Target

abbrev pub state_of : Bool → List EventCall → State
state_of takes calls = record {
  takes_arg = takes;
  destroyed = is_destroyed calls;
  decrements = decrements calls;
  increments = increments calls;
  targets = if is_destroyed calls then [] else links calls;
}

-- THE STEPS.
abbrev pub refusal : State → ℕ → Option Code
refusal s p = refusal_of s.destroyed s.takes_arg p None

-- one more satisfaction on this slot
abbrev pub after_count : State → ℕ → State
after_count s slot = record {
  takes_arg = s.takes_arg;
  destroyed = s.destroyed;
  decrements = if slot == 0 then s.decrements + 1 else s.decrements;
  increments = if slot == 1 then s.increments + 1 else s.increments;
  targets = s.targets;
}

abbrev pub is_even : State → Bool
is_even s = s.decrements == s.increments

-- destroyed, with nothing that waits
abbrev pub after_end : State → State
after_end s = record {
  takes_arg = s.takes_arg;
  destroyed = true;
  decrements = s.decrements;
  increments = s.increments;
  targets = [];
}

abbrev pub on_satisfy : State → ℕ → ℕ → Satisfied
on_satisfy s slot p = elim (refusal s p) as (λ _. Satisfied) [
  | Some c ↦ answer.Refused c
  | None ↦ if is_even (after_count s slot) then answer.Fired s.targets else answer.Kept
]

abbrev pub after_satisfy : State → ℕ → ℕ → State
after_satisfy s slot p = elim (refusal s p) as (λ _. State) [
  | Some c ↦ s
  | None ↦ if is_even (after_count s slot) then after_end (after_count s slot)
      else after_count s slot
]

abbrev pub on_link : State → Linked
on_link s = if s.destroyed then link.Refused code.Stale else link.Kept

abbrev pub after_link : State → Target → State
after_link s t =
    if s.destroyed then s
    else record {
      takes_arg = s.takes_arg;
      destroyed = s.destroyed;
      decrements = s.decrements;
      increments = s.increments;
      targets = s.targets ++ t ∷ [];
    }

abbrev pub after_destroy : State → State
after_destroy s = if s.destroyed then s else after_end s

-- THE LAWS. After an accepted call the state is the step of the state before it.
abbrev pub RefusalLaw : Type 0
RefusalLaw = (takes : Bool) (calls : List EventCall) (p : ℕ)
    → refusal (state_of takes calls) p ≡ refusal_after takes calls p

abbrev pub SatisfyLaw : Type 0
SatisfyLaw = (takes : Bool) (calls : List EventCall) (slot p : ℕ) → slot ≤ 1
    → refusal_after takes calls p ≡ None
    → (state_of takes (Satisfaction slot p ∷ calls) ≡ after_satisfy (state_of takes calls) slot p)
    × (on_satisfy (state_of takes calls) slot p ≡ firing_after calls slot p)

-- a latch carries NULL_GUID: a block that it accepts is dropped
abbrev pub DropLaw : Type 0
DropLaw = (takes : Bool) (calls : List EventCall) (slot p : ℕ) → refusal_after takes calls p ≡ None
    → (state_of takes (Satisfaction slot p ∷ calls) ≡ state_of takes (Satisfaction slot 0 ∷ calls))
    × (on_satisfy (state_of takes calls) slot p ≡ on_satisfy (state_of takes calls) slot 0)

abbrev pub LinkLaw : Type 0
LinkLaw = (takes : Bool) (calls : List EventCall) (t : Target) → is_destroyed calls ≡ false
    → (state_of takes (Link t ∷ calls) ≡ after_link (state_of takes calls) t)
    × (on_link (state_of takes calls) ≡ link.Kept)

abbrev pub DestroyLaw : Type 0
DestroyLaw = (takes : Bool) (calls : List EventCall) → is_destroyed calls ≡ false
    → (state_of takes (Destruction ∷ calls) ≡ after_destroy (state_of takes calls))
    × (on_destroy (state_of takes calls).destroyed ≡ code.Done)

-- a destroyed latch stays destroyed, keeps no target and refuses all, whatever comes
pub record IsDead (s : State) : Type 0 where
  pub destroyed : s.destroyed ≡ true
  pub no_target : s.targets ≡ []
  pub no_firing : (slot p : ℕ) → on_satisfy s slot p ≡ answer.Refused code.Stale
  pub no_link : on_link s ≡ link.Refused code.Stale

abbrev pub DestroyedLaw : Type 0
DestroyedLaw = (takes : Bool) (later calls : List EventCall) → is_destroyed calls ≡ true
    → IsDead (state_of takes (later ++ calls))

-- each call was accepted at its place
abbrev pub IsAccepted : Bool → List EventCall → Type 0
IsAccepted takes [] = Unit {0}
IsAccepted takes (Satisfaction slot p ∷ past) =
    IsAccepted takes past × (slot ≤ 1) × (refusal_after takes past p ≡ None)
IsAccepted takes (Link t ∷ past) = IsAccepted takes past × (is_destroyed past ≡ false)
IsAccepted takes (Destruction ∷ past) = IsAccepted takes past × (is_destroyed past ≡ false)

-- what the answers to all the calls sent, in the order of the calls
abbrev pub sent_in_all : Bool → List EventCall → List (ℕ × Target)
sent_in_all takes [] = []
sent_in_all takes (Satisfaction slot p ∷ past) =
    sent_in_all takes past ++ sent_by_firing 0 (on_satisfy (state_of takes past) slot p)
sent_in_all takes (Link t ∷ past) =
    sent_in_all takes past ++ sent_by_linking t (on_link (state_of takes past))
sent_in_all takes (Destruction ∷ past) = sent_in_all takes past

-- NULL_GUID for each target that was linked, once the latch has fired, and nothing before
abbrev pub deliveries : List EventCall → List (ℕ × Target)
deliveries calls = if has_fired calls then map (λ (t : Target). (0, t)) (links calls) else []

abbrev pub DeliveryLaw : Type 0
DeliveryLaw = (takes : Bool) (calls : List EventCall) → IsAccepted takes calls
    → sent_in_all takes calls ≡ deliveries calls
