-- The targets that an event keeps, and those that its steps reach: each target that is linked is
-- kept until it is reached, once, or until the event is destroyed.
use Rattle.std.proofs.Common.{◌≡◌, ℕ, List, [], ◌∷◌, ◌++◌, Bool, true, false, Option, Some, None, refl, ◌==◌, if◌then◌else◌, drop}
use Rattle.std.specs.List.{slice_get}
use Rattle.std.proofs.lemmas.List.{append-nil}
use Rattle.ocr_guid.specs.declared.Code.{Code}
use Rattle.ocr_guid.specs.declared.target.Target.{Target}
use Rattle.ocr_guid.specs.declared.target.Satisfied.{Satisfied}
use Rattle.ocr_guid.specs.declared.target.Satisfied.TheVariants as answer
use Rattle.ocr_guid.specs.declared.target.Linked.{Linked}
use Rattle.ocr_guid.specs.declared.target.Linked.TheVariants as link
use Rattle.ocr_event.specs.declared.EventKind.{EventKind}
use Rattle.ocr_event.specs.Event as event
use Rattle.ocr_latch.specs.Latch as latch
use Rattle.ocr_channel_event.specs.Channel as channel
use Rattle.ocr_event_any.specs.declared.TheConstants.{LATCH, CHANNEL}
use Rattle.ocr_event_any.specs.declared.AnyEvent.{AnyEvent}
use Rattle.ocr_event_any.specs.declared.AnyEvent.TheVariants as any
use Rattle.ocr_event_any.specs.AnyEvent.{is_destroyed, takes_arg, plain_kind, state_by, state_of, on_satisfy, after_satisfy, on_link, after_link, after_destroy}

-- the targets that the event keeps still
abbrev pub targets : AnyEvent → List Target
targets (any.Plain st) = st.targets
targets (any.Latch st) = st.targets
targets (any.Channel st) = st.targets

-- those that a satisfaction reaches
abbrev pub reached : Satisfied → List Target
reached (answer.Fired ts) = ts
reached other = []

-- and the one that a link reaches at once
abbrev pub reached_by_link : Target → Linked → List Target
reached_by_link t (link.Now p) = t ∷ []
reached_by_link t other = []

-- A SATISFACTION reaches targets from the front, and the event keeps the others
plain_satisfied : (st : event.State) (p : ℕ) (o : Option Code)
    → reached (elim o as (λ _. Satisfied) [ Some c ↦ answer.Refused c | None ↦ if event.is_fired_idem st then answer.Ignored else answer.Fired st.targets ])
    ++ (elim o as (λ _. event.State) [ Some c ↦ st | None ↦ if event.is_fired_idem st then st else event.after_firing st p ]).targets ≡ st.targets
plain_satisfied st p (Some c) = refl
plain_satisfied st p None = fired st p (event.is_fired_idem st)
  where
    fired : (st : event.State) (p : ℕ) (b : Bool) → reached (if b then answer.Ignored else answer.Fired st.targets) ++ (if b then st else event.after_firing st p).targets ≡ st.targets
    fired st p true = refl
    fired st p false = append-nil st.targets

latch_satisfied : (st : latch.State) (slot : ℕ) (o : Option Code)
    → reached (elim o as (λ _. Satisfied) [ Some c ↦ answer.Refused c | None ↦ if latch.is_even (latch.after_count st slot) then answer.Fired st.targets else answer.Kept ])
    ++ (elim o as (λ _. latch.State) [ Some c ↦ st | None ↦ if latch.is_even (latch.after_count st slot) then latch.after_end (latch.after_count st slot) else latch.after_count st slot ]).targets ≡ st.targets
latch_satisfied st slot (Some c) = refl
latch_satisfied st slot None = fired st slot (latch.is_even (latch.after_count st slot))
  where
    fired : (st : latch.State) (slot : ℕ) (b : Bool) → reached (if b then answer.Fired st.targets else answer.Kept) ++ (if b then latch.after_end (latch.after_count st slot) else latch.after_count st slot).targets ≡ st.targets
    fired st slot true = append-nil st.targets
    fired st slot false = refl

front_reached : (st : channel.State) (p : ℕ) (ts : List Target)
    → reached (elim (slice_get ts 0) as (λ _. Satisfied) [ Some t ↦ answer.Fired (t ∷ []) | None ↦ answer.Kept ])
    ++ (elim (slice_get ts 0) as (λ _. channel.State) [ Some t ↦ channel.with_queues st st.payloads (drop 1 ts) | None ↦ channel.with_queues st (st.payloads ++ p ∷ []) ts ]).targets ≡ ts
front_reached st p [] = refl
front_reached st p (t ∷ ts) = refl

channel_satisfied : (st : channel.State) (p : ℕ) (o : Option Code)
    → reached (elim o as (λ _. Satisfied) [ Some c ↦ answer.Refused c | None ↦ elim (slice_get st.targets 0) as (λ _. Satisfied) [ Some t ↦ answer.Fired (t ∷ []) | None ↦ answer.Kept ] ])
    ++ (elim o as (λ _. channel.State) [
      | Some c ↦ st
      | None ↦ elim (slice_get st.targets 0) as (λ _. channel.State) [
        | Some t ↦ channel.with_queues st st.payloads (drop 1 st.targets)
        | None ↦ channel.with_queues st (st.payloads ++ p ∷ []) st.targets
      ]
    ]).targets ≡ st.targets
channel_satisfied st p (Some c) = refl
channel_satisfied st p None = front_reached st p st.targets

pub satisfy_targets : (st : AnyEvent) (slot p : ℕ) → reached (on_satisfy st slot p) ++ targets (after_satisfy st slot p) ≡ targets st
satisfy_targets (any.Plain st) slot p = plain_satisfied st p (event.refusal st p)
satisfy_targets (any.Latch st) slot p = latch_satisfied st slot (latch.refusal st p)
satisfy_targets (any.Channel st) slot p = channel_satisfied st p (channel.refusal st p)

-- A LINK of an event that is there: its target is reached at once, or it is kept, the last
plain_linked : (st : event.State) (t : Target) (o : Option ℕ) → st.first ≡ o → st.destroyed ≡ false → (event.after_link st t).targets ++ reached_by_link t (event.on_link st) ≡ st.targets ++ t ∷ []
plain_linked st t (Some p) is live = rw (live, is) refl
plain_linked st t None is live = rw (live, is) (append-nil (st.targets ++ t ∷ []))

latch_linked : (st : latch.State) (t : Target) → st.destroyed ≡ false → (latch.after_link st t).targets ++ reached_by_link t (latch.on_link st) ≡ st.targets ++ t ∷ []
latch_linked st t live = rw live (append-nil (st.targets ++ t ∷ []))

channel_linked : (st : channel.State) (t : Target) (o : Option ℕ) → slice_get st.payloads 0 ≡ o → st.destroyed ≡ false → (channel.after_link st t).targets ++ reached_by_link t (channel.on_link st) ≡ st.targets ++ t ∷ []
channel_linked st t (Some p) is live = rw (live, is) refl
channel_linked st t None is live = rw (live, is) (append-nil (st.targets ++ t ∷ []))

pub link_targets : (st : AnyEvent) (t : Target) → is_destroyed st ≡ false → targets (after_link st t) ++ reached_by_link t (on_link st) ≡ targets st ++ t ∷ []
link_targets (any.Plain st) t live = plain_linked st t st.first refl live
link_targets (any.Latch st) t live = latch_linked st t live
link_targets (any.Channel st) t live = channel_linked st t (slice_get st.payloads 0) refl live

-- a destroyed event reaches none, and keeps no more
pub stale_targets : (st : AnyEvent) (t : Target) → is_destroyed st ≡ true → targets (after_link st t) ++ reached_by_link t (on_link st) ≡ targets st
stale_targets (any.Plain st) t gone = rw gone (append-nil st.targets)
stale_targets (any.Latch st) t gone = rw gone (append-nil st.targets)
stale_targets (any.Channel st) t gone = rw gone (append-nil st.targets)

-- A DESTRUCTION leaves none
pub destroy_targets : (st : AnyEvent) → is_destroyed st ≡ false → targets (after_destroy st) ≡ []
destroy_targets (any.Plain st) live = rw live refl
destroy_targets (any.Latch st) live = rw live refl
destroy_targets (any.Channel st) live = rw live refl

pub gone_targets : (st : AnyEvent) → is_destroyed st ≡ true → targets (after_destroy st) ≡ targets st
gone_targets (any.Plain st) gone = rw gone refl
gone_targets (any.Latch st) gone = rw gone refl
gone_targets (any.Channel st) gone = rw gone refl

-- a new event keeps none
pub new_targets : (k flags most : ℕ) → targets (state_of k flags most []) ≡ []
new_targets k flags most = by_kind (k == LATCH) (k == CHANNEL) (plain_kind k)
  where
    none : (b : Bool) → ◌≡◌ {A = List Target} (if b then [] else []) []
    none true = refl
    none false = refl

    by_kind : (a b : Bool) (kind : EventKind) → targets (state_by a b kind (takes_arg flags) most []) ≡ []
    by_kind true other kind = refl
    by_kind false true kind = refl
    by_kind false false kind = none (event.is_destroyed kind [])
