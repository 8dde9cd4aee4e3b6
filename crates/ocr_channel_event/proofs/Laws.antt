-- The laws of a channel's steps, for the crates above.
use Rattle.std.proofs.Common.{◌≡◌, ℕ, List, [], ◌∷◌, ◌++◌, length, Option, Some, None, Bool, true, false, refl, ◌∙◌, rules, arith}
use Rattle.std.specs.List.{slice_get}
use Rattle.std.proofs.lemmas.Grind.{common_steps}
use Rattle.ocr_guid.specs.declared.target.Target.{Target}
use Rattle.ocr_guid.specs.Target.{EventCall, Satisfaction, Link, Destruction, links, was_destroyed, sent_by_firing, sent_by_linking}
use Rattle.ocr_channel_event.specs.Channel.{IsDead, satisfactions, state_of, refusal, refusal_after, after_satisfy, on_satisfy, after_link, on_link, firing_after, linking_after, matches, RefusalLaw, SatisfyLaw, LinkLaw, DestroyLaw, DestroyedLaw, MatchLaw, RoomLaw}
use Rattle.ocr_channel_event.proofs.Queues.{front_of_drop, waits_itself, waits_other, meets_itself, meets_other, zip_waits, zip_meets, waits_zip, meets_zip}

pub refusal_law : RefusalLaw
refusal_law most takes calls p some = grind (arith, common_steps)

accepted_live : (most : ℕ) (takes : Bool) (calls : List EventCall) (p : ℕ) → refusal_after most takes calls p ≡ None → was_destroyed calls ≡ false
accepted_live most takes calls p fits = search rules

pub destroy_law : DestroyLaw
destroy_law most takes calls live = search rules

-- a destroyed channel stays so
pub destroyed_later : (later calls : List EventCall) → was_destroyed calls ≡ true → was_destroyed (later ++ calls) ≡ true
destroyed_later [] calls gone = gone
destroyed_later (Satisfaction slot p ∷ later) calls gone = destroyed_later later calls gone
destroyed_later (Link t ∷ later) calls gone = destroyed_later later calls gone
destroyed_later (Destruction ∷ later) calls gone = refl

dead : (most : ℕ) (takes : Bool) (calls : List EventCall) → was_destroyed calls ≡ true → IsDead (state_of most takes calls)
dead most takes calls gone = record {
  destroyed = gone;
  no_payload = search rules;
  no_target = search rules;
  no_firing = λ p. search rules;
  no_link = search rules;
}

pub destroyed_law : DestroyedLaw
destroyed_law most takes later calls gone = dead most takes (later ++ calls) (destroyed_later later calls gone)

satisfied_by : (most : ℕ) (takes : Bool) (calls : List EventCall) (slot p : ℕ) (met : Option Target)
    → refusal (state_of most takes calls) p ≡ None → was_destroyed calls ≡ false
    → slice_get (links calls) (length (satisfactions calls)) ≡ met
    → (state_of most takes (Satisfaction slot p ∷ calls) ≡ after_satisfy (state_of most takes calls) p)
    × (on_satisfy (state_of most takes calls) p ≡ firing_after calls)
satisfied_by most takes calls slot p None fits live found =
    let front = front_of_drop (links calls) (length (satisfactions calls)) in
    let itself = waits_itself (satisfactions calls) (links calls) p found in
    let other = waits_other (satisfactions calls) (links calls) p found in
    search rules
satisfied_by most takes calls slot p (Some t) fits live found =
    let front = front_of_drop (links calls) (length (satisfactions calls)) in
    let itself = meets_itself (satisfactions calls) (links calls) p t found in
    let other = meets_other (satisfactions calls) (links calls) p t found in
    search rules

pub satisfy_law : SatisfyLaw
satisfy_law most takes calls slot p some fits =
    satisfied_by most takes calls slot p _ (refusal_law most takes calls p some ∙ fits) (accepted_live most takes calls p fits) refl

linked_by : (most : ℕ) (takes : Bool) (calls : List EventCall) (t : Target) (met : Option ℕ)
    → was_destroyed calls ≡ false
    → slice_get (satisfactions calls) (length (links calls)) ≡ met
    → (state_of most takes (Link t ∷ calls) ≡ after_link (state_of most takes calls) t)
    × (on_link (state_of most takes calls) ≡ linking_after calls)
linked_by most takes calls t None live found =
    let front = front_of_drop (satisfactions calls) (length (links calls)) in
    let itself = waits_itself (links calls) (satisfactions calls) t found in
    let other = waits_other (links calls) (satisfactions calls) t found in
    search rules
linked_by most takes calls t (Some p) live found =
    let front = front_of_drop (satisfactions calls) (length (links calls)) in
    let itself = meets_itself (links calls) (satisfactions calls) t p found in
    let other = meets_other (links calls) (satisfactions calls) t p found in
    search rules

pub link_law : LinkLaw
link_law most takes calls t live = linked_by most takes calls t _ live refl

-- what an answer sends is the pair that the call completes
fired_pair : (calls : List EventCall) (slot p : ℕ) (met : Option Target) → slice_get (links calls) (length (satisfactions calls)) ≡ met
    → matches calls ++ sent_by_firing p (firing_after calls) ≡ matches (Satisfaction slot p ∷ calls)
fired_pair calls slot p None found = let same = zip_waits (satisfactions calls) (links calls) p found in search rules
fired_pair calls slot p (Some t) found = let more = zip_meets (satisfactions calls) (links calls) p t found in search rules

linked_pair : (calls : List EventCall) (t : Target) (met : Option ℕ) → slice_get (satisfactions calls) (length (links calls)) ≡ met
    → matches calls ++ sent_by_linking t (linking_after calls) ≡ matches (Link t ∷ calls)
linked_pair calls t None found = let same = waits_zip (satisfactions calls) (links calls) t found in search rules
linked_pair calls t (Some p) found = let more = meets_zip (satisfactions calls) (links calls) t p found in search rules

pub match_law : MatchLaw
match_law most takes [] some accepted = refl
match_law most takes (Satisfaction slot p ∷ past) some accepted =
    let before = match_law most takes past some accepted.0 in
    let told = (satisfy_law most takes past slot p some accepted.1).1 in
    let pair = fired_pair past slot p _ refl in
    cc
match_law most takes (Link t ∷ past) some accepted =
    let before = match_law most takes past some accepted.0 in
    let told = (link_law most takes past t accepted.1).1 in
    let pair = linked_pair past t _ refl in
    cc
match_law most takes (Destruction ∷ past) some accepted = match_law most takes past some accepted.0

pub room_law : RoomLaw
room_law most takes [] accepted = omega arith
room_law most takes (Satisfaction slot p ∷ past) accepted = let room = accepted.1 in grind (arith, common_steps)
room_law most takes (Link t ∷ past) accepted = let before = room_law most takes past accepted.0 in grind (arith, common_steps)
room_law most takes (Destruction ∷ past) accepted = room_law most takes past accepted.0
