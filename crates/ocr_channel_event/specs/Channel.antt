-- Channels: what is told of the calls that one accepted, and the steps of its state.
use Rattle.std.specs.Prelude.{◌≡◌, ◌≤◌, ℕ, ◌+◌, List, [], ◌∷◌, ◌++◌, length, drop, Bool, true, false, ◌&&◌, not, nat_lt, ◌==◌, if◌then◌else◌, Option, Some, None}
use Rattle.std.specs.List.{slice_get, zip}
use Rattle.ocr_guid.specs.declared.Code.{Code}
use Rattle.ocr_guid.specs.declared.Code.TheVariants as code
use Rattle.ocr_guid.specs.declared.target.Target.{Target}
use Rattle.ocr_guid.specs.declared.target.Satisfied.{Satisfied}
use Rattle.ocr_guid.specs.declared.target.Satisfied.TheVariants as answer
use Rattle.ocr_guid.specs.declared.target.Linked.{Linked}
use Rattle.ocr_guid.specs.declared.target.Linked.TheVariants as link
use Rattle.ocr_guid.specs.Target.{EventCall, Satisfaction, Link, Destruction, links, was_destroyed, refusal_of, on_destroy, sent_by_firing, sent_by_linking}

-- the payloads of the satisfactions in their order
abbrev pub satisfactions : List EventCall → List ℕ
satisfactions [] = []
satisfactions (Satisfaction slot p ∷ past) = satisfactions past ++ p ∷ []
satisfactions (Link t ∷ past) = satisfactions past
satisfactions (Destruction ∷ past) = satisfactions past

-- the k-th satisfaction goes to the k-th link
abbrev pub matches : List EventCall → List (ℕ × Target)
matches calls = zip (satisfactions calls) (links calls)

-- the satisfactions that no link has matched yet
abbrev pub unmatched_satisfactions : List EventCall → List ℕ
unmatched_satisfactions calls = drop (length (links calls)) (satisfactions calls)

-- the links that no satisfaction has matched yet
abbrev pub unmatched_links : List EventCall → List Target
unmatched_links calls = drop (length (satisfactions calls)) (links calls)

-- one satisfaction more would leave more than this many unmatched
abbrev pub has_room : ℕ → List EventCall → Bool
has_room most calls = nat_lt (length (satisfactions calls)) (length (links calls) + most)

-- the code that refuses a further satisfaction
abbrev pub refusal_after : ℕ → Bool → List EventCall → ℕ → Option Code
refusal_after most takes calls p =
    refusal_of (was_destroyed calls) takes p (if has_room most calls then None else Some code.Ebusy)

-- the answer to a further satisfaction that is not refused: it goes to the link of its own number,
-- or waits for it
abbrev pub firing_after : List EventCall → Satisfied
firing_after calls =
    elim (slice_get (links calls) (length (satisfactions calls))) as (λ _. Satisfied) [
      | Some t ↦ answer.Fired (t ∷ [])
      | None ↦ answer.Kept
    ]

-- the answer to a further link that is not refused: it gets the satisfaction of its own number, or
-- waits for it
abbrev pub linking_after : List EventCall → Linked
linking_after calls =
    elim (slice_get (satisfactions calls) (length (links calls))) as (λ _. Linked) [
      | Some p ↦ link.Now p
      | None ↦ link.Kept
    ]

-- THE STATE.
pub record State : Type 0 where
  pub max_gen : ℕ
  pub takes_arg : Bool
  pub destroyed : Bool
  pub payloads : List ℕ
  pub targets : List Target

abbrev pub state_of : ℕ → Bool → List EventCall → State
state_of most takes calls = record {
  max_gen = most;
  takes_arg = takes;
  destroyed = was_destroyed calls;
  payloads = if was_destroyed calls then [] else unmatched_satisfactions calls;
  targets = if was_destroyed calls then [] else unmatched_links calls;
}

-- THE STEPS.
-- no target waits, and the channel keeps as many payloads as it may
abbrev pub is_full : State → Bool
is_full s = (length s.targets == 0) && not (nat_lt (length s.payloads) s.max_gen)

abbrev pub refusal : State → ℕ → Option Code
refusal s p = refusal_of s.destroyed s.takes_arg p (if is_full s then Some code.Ebusy else None)

abbrev pub with_queues : State → List ℕ → List Target → State
with_queues s payloads targets = record {
  max_gen = s.max_gen;
  takes_arg = s.takes_arg;
  destroyed = s.destroyed;
  payloads = payloads;
  targets = targets;
}

abbrev pub on_satisfy : State → ℕ → Satisfied
on_satisfy s p = elim (refusal s p) as (λ _. Satisfied) [
  | Some c ↦ answer.Refused c
  | None ↦ elim (slice_get s.targets 0) as (λ _. Satisfied) [
    | Some t ↦ answer.Fired (t ∷ [])
    | None ↦ answer.Kept
  ]
]

abbrev pub after_satisfy : State → ℕ → State
after_satisfy s p = elim (refusal s p) as (λ _. State) [
  | Some c ↦ s
  | None ↦ elim (slice_get s.targets 0) as (λ _. State) [
    | Some t ↦ with_queues s s.payloads (drop 1 s.targets)
    | None ↦ with_queues s (s.payloads ++ p ∷ []) s.targets
  ]
]

abbrev pub on_link : State → Linked
on_link s =
    if s.destroyed then link.Refused code.Stale
    else elim (slice_get s.payloads 0) as (λ _. Linked) [ Some p ↦ link.Now p | None ↦ link.Kept ]

abbrev pub after_link : State → Target → State
after_link s t =
    if s.destroyed then s
    else elim (slice_get s.payloads 0) as (λ _. State) [
      | Some p ↦ with_queues s (drop 1 s.payloads) s.targets
      | None ↦ with_queues s s.payloads (s.targets ++ t ∷ [])
    ]

abbrev pub after_destroy : State → State
after_destroy s = if s.destroyed then s
    else record {
      max_gen = s.max_gen;
      takes_arg = s.takes_arg;
      destroyed = true;
      payloads = [];
      targets = [];
    }

-- THE LAWS. After an accepted call the state is the step of the state before it.
abbrev pub RefusalLaw : Type 0
RefusalLaw = (most : ℕ) (takes : Bool) (calls : List EventCall) (p : ℕ) → 1 ≤ most
    → refusal (state_of most takes calls) p ≡ refusal_after most takes calls p

abbrev pub SatisfyLaw : Type 0
SatisfyLaw = (most : ℕ) (takes : Bool) (calls : List EventCall) (slot p : ℕ) → 1 ≤ most
    → refusal_after most takes calls p ≡ None
    → (state_of most takes (Satisfaction slot p ∷ calls)
    ≡ after_satisfy (state_of most takes calls) p)
    × (on_satisfy (state_of most takes calls) p ≡ firing_after calls)

abbrev pub LinkLaw : Type 0
LinkLaw =
    (most : ℕ) (takes : Bool) (calls : List EventCall) (t : Target) → was_destroyed calls ≡ false
    → (state_of most takes (Link t ∷ calls) ≡ after_link (state_of most takes calls) t)
    × (on_link (state_of most takes calls) ≡ linking_after calls)

abbrev pub DestroyLaw : Type 0
DestroyLaw = (most : ℕ) (takes : Bool) (calls : List EventCall) → was_destroyed calls ≡ false
    → (state_of most takes (Destruction ∷ calls) ≡ after_destroy (state_of most takes calls))
    × (on_destroy (state_of most takes calls).destroyed ≡ code.Done)

-- a destroyed channel stays destroyed, keeps nothing and refuses all, whatever comes
pub record IsDead (s : State) : Type 0 where
  pub destroyed : s.destroyed ≡ true
  pub no_payload : s.payloads ≡ []
  pub no_target : s.targets ≡ []
  pub no_firing : (p : ℕ) → on_satisfy s p ≡ answer.Refused code.Stale
  pub no_link : on_link s ≡ link.Refused code.Stale

abbrev pub DestroyedLaw : Type 0
DestroyedLaw = (most : ℕ) (takes : Bool) (later calls : List EventCall) → was_destroyed calls ≡ true
    → IsDead (state_of most takes (later ++ calls))

-- each call was accepted at its place
abbrev pub IsAccepted : ℕ → Bool → List EventCall → Type 0
IsAccepted most takes [] = Unit {0}
IsAccepted most takes (Satisfaction slot p ∷ past) =
    IsAccepted most takes past × (refusal_after most takes past p ≡ None)
IsAccepted most takes (Link t ∷ past) = IsAccepted most takes past × (was_destroyed past ≡ false)
IsAccepted most takes (Destruction ∷ past) =
    IsAccepted most takes past × (was_destroyed past ≡ false)

-- what the answers to all the calls sent, in the order of the calls
abbrev pub sent_in_all : ℕ → Bool → List EventCall → List (ℕ × Target)
sent_in_all most takes [] = []
sent_in_all most takes (Satisfaction slot p ∷ past) =
    sent_in_all most takes past ++ sent_by_firing p (on_satisfy (state_of most takes past) p)
sent_in_all most takes (Link t ∷ past) =
    sent_in_all most takes past ++ sent_by_linking t (on_link (state_of most takes past))
sent_in_all most takes (Destruction ∷ past) = sent_in_all most takes past

-- a channel sends the payload of the k-th satisfaction to the target of the k-th link, and nothing
-- else
abbrev pub MatchLaw : Type 0
MatchLaw =
    (most : ℕ) (takes : Bool) (calls : List EventCall) → 1 ≤ most → IsAccepted most takes calls
    → sent_in_all most takes calls ≡ matches calls

-- it never leaves more satisfactions unmatched than it may
abbrev pub RoomLaw : Type 0
RoomLaw = (most : ℕ) (takes : Bool) (calls : List EventCall) → IsAccepted most takes calls
    → length (satisfactions calls) ≤ length (links calls) + most
