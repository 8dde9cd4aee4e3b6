-- The laws of an event's steps, for the crates above.
use Rattle.std.proofs.Common.{◌≡◌, ℕ, List, [], ◌∷◌, ◌++◌, Option, Some, None, Bool, true, refl, rules}
use Rattle.std.proofs.lemmas.List.{map-append}
use Rattle.ocr_guid.specs.declared.target.Target.{Target}
use Rattle.ocr_event.specs.declared.EventKind.{EventKind}
use Rattle.ocr_guid.specs.Target.{EventCall, Satisfaction, Link, Destruction, links, sent_by_firing, sent_by_linking}
use Rattle.ocr_event.specs.Event.{IsDead, first_payload, waiters, state_of, is_destroyed, firing_after, linking_after, deliveries, DeliveryLaw, RefusalLaw, SatisfyLaw, LinkLaw, DestroyLaw, DestroyedLaw}

pub refusal_law : RefusalLaw
refusal_law k takes calls p = refl

pub satisfy_law : SatisfyLaw
satisfy_law k takes calls slot p fits = search rules

pub link_law : LinkLaw
link_law k takes calls t fits = search rules

pub destroy_law : DestroyLaw
destroy_law k takes calls fits = search rules

-- a destroyed event stays so at the next call
destroyed_next : (k : EventKind) (c : EventCall) (calls : List EventCall) → is_destroyed k calls ≡ true → is_destroyed k (c ∷ calls) ≡ true
destroyed_next k (Satisfaction slot p) calls gone = search rules
destroyed_next k (Link t) calls gone = gone
destroyed_next k Destruction calls gone = refl

-- and at all that come later
pub destroyed_later : (k : EventKind) (later calls : List EventCall) → is_destroyed k calls ≡ true → is_destroyed k (later ++ calls) ≡ true
destroyed_later k [] calls gone = gone
destroyed_later k (c ∷ later) calls gone = destroyed_next k c (later ++ calls) (destroyed_later k later calls gone)

dead : (k : EventKind) (takes : Bool) (calls : List EventCall) → is_destroyed k calls ≡ true → IsDead (state_of k takes calls)
dead k takes calls gone = record {
  destroyed = gone;
  no_target = search rules;
  no_firing = λ p. search rules;
  no_link = search rules;
}

pub destroyed_law : DestroyedLaw
destroyed_law k takes later calls gone = dead k takes (later ++ calls) (destroyed_later k later calls gone)

-- before an event has fired all its links wait
all_wait : (calls : List EventCall) → first_payload calls ≡ None → waiters calls ≡ links calls
all_wait [] unfired = refl
all_wait (Satisfaction slot p ∷ past) unfired = search rules
all_wait (Link t ∷ past) unfired = let before = all_wait past unfired in search rules
all_wait (Destruction ∷ past) unfired = all_wait past unfired

delivers_firing : (calls : List EventCall) (slot p : ℕ) (first : Option ℕ) → first_payload calls ≡ first
    → deliveries calls ++ sent_by_firing p (firing_after calls) ≡ deliveries (Satisfaction slot p ∷ calls)
delivers_firing calls slot p None found = let wait = all_wait calls found in search rules
delivers_firing calls slot p (Some q) found = search rules

delivers_linking : (calls : List EventCall) (t : Target) (first : Option ℕ) → first_payload calls ≡ first
    → deliveries calls ++ sent_by_linking t (linking_after calls) ≡ deliveries (Link t ∷ calls)
delivers_linking calls t None found = search rules
delivers_linking calls t (Some q) found = search (rules, map-append)

pub delivery_law : DeliveryLaw
delivery_law k takes [] accepted = refl
delivery_law k takes (Satisfaction slot p ∷ past) accepted =
    let before = delivery_law k takes past accepted.0 in
    let told = (satisfy_law k takes past slot p accepted.1).1 in
    let more = delivers_firing past slot p _ refl in
    cc
delivery_law k takes (Link t ∷ past) accepted =
    let before = delivery_law k takes past accepted.0 in
    let told = (link_law k takes past t accepted.1).1 in
    let more = delivers_linking past t _ refl in
    cc
delivery_law k takes (Destruction ∷ past) accepted = delivery_law k takes past accepted.0
