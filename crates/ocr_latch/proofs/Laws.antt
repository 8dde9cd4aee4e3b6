-- The laws of a latch's steps, for the crates above.
use Rattle.std.proofs.Common.{◌≡◌, ℕ, List, [], ◌∷◌, ◌++◌, None, Bool, true, false, refl, rules}
use Rattle.ocr_guid.specs.Target.{EventCall, Satisfaction, Link, Destruction, sent_by_firing}
use Rattle.ocr_latch.specs.Latch.{IsDead, state_of, is_destroyed, is_balanced, refusal_after, firing_after, deliveries, DeliveryLaw, RefusalLaw, SatisfyLaw, DropLaw, LinkLaw, DestroyLaw, DestroyedLaw}

pub refusal_law : RefusalLaw
refusal_law takes calls p = refl

pub satisfy_law : SatisfyLaw
satisfy_law takes calls slot p low fits = search rules

pub drop_law : DropLaw
drop_law takes calls slot p fits = search rules

-- a latch that has not fired is not balanced
unbalanced : (calls : List EventCall) → is_destroyed calls ≡ false → is_balanced calls ≡ false
unbalanced [] live = refl
unbalanced (c ∷ past) live = search rules

pub link_law : LinkLaw
link_law takes calls t live = let even = unbalanced calls live in search rules

pub destroy_law : DestroyLaw
destroy_law takes calls fits = search rules

-- a destroyed latch stays so at the next call
destroyed_next : (c : EventCall) (calls : List EventCall) → is_destroyed calls ≡ true → is_destroyed (c ∷ calls) ≡ true
destroyed_next (Satisfaction slot p) calls gone = search rules
destroyed_next (Link t) calls gone = search rules
destroyed_next Destruction calls gone = refl

-- and at all that come later
pub destroyed_later : (later calls : List EventCall) → is_destroyed calls ≡ true → is_destroyed (later ++ calls) ≡ true
destroyed_later [] calls gone = gone
destroyed_later (c ∷ later) calls gone = destroyed_next c (later ++ calls) (destroyed_later later calls gone)

dead : (takes : Bool) (calls : List EventCall) → is_destroyed calls ≡ true → IsDead (state_of takes calls)
dead takes calls gone = record {
  destroyed = gone;
  no_target = search rules;
  no_firing = λ slot p. search rules;
  no_link = search rules;
}

pub destroyed_law : DestroyedLaw
destroyed_law takes later calls gone = dead takes (later ++ calls) (destroyed_later later calls gone)

-- what is not refused finds the latch live
accepted_live : (takes : Bool) (calls : List EventCall) (p : ℕ) → refusal_after takes calls p ≡ None → is_destroyed calls ≡ false
accepted_live takes calls p fits = search rules

delivers_nothing : (calls : List EventCall) → is_destroyed calls ≡ false → deliveries calls ≡ []
delivers_nothing calls live = search rules

delivers_firing : (calls : List EventCall) (slot p : ℕ) → sent_by_firing 0 (firing_after calls slot p) ≡ deliveries (Satisfaction slot p ∷ calls)
delivers_firing calls slot p = search rules

pub delivery_law : DeliveryLaw
delivery_law takes [] accepted = refl
delivery_law takes (Satisfaction slot p ∷ past) accepted =
    let before = delivery_law takes past accepted.0 in
    let nothing = delivers_nothing past (accepted_live takes past p accepted.2) in
    let told = (satisfy_law takes past slot p accepted.1 accepted.2).1 in
    let more = delivers_firing past slot p in
    cc
delivery_law takes (Link t ∷ past) accepted =
    let before = delivery_law takes past accepted.0 in
    let nothing = delivers_nothing past accepted.1 in
    let told = (link_law takes past t accepted.1).1 in
    let even = unbalanced past accepted.1 in
    search rules
delivery_law takes (Destruction ∷ past) accepted =
    let before = delivery_law takes past accepted.0 in
    let nothing = delivers_nothing past accepted.1 in
    let even = unbalanced past accepted.1 in
    search rules
