-- The payloads that an event keeps for links to come, and what its calls make of them.
use Rattle.std.proofs.Common.{◌≡◌, ℕ, List, [], ◌∷◌, ◌++◌, drop, slice_get, ◌==◌, Bool, true, false, if◌then◌else◌, Option, Some, None, is_some, refl}
use Rattle.ocr_guid.specs.declared.Code.TheVariants as code
use Rattle.ocr_guid.specs.declared.target.Target.{Target}
use Rattle.ocr_guid.specs.declared.target.Linked.{Linked}
use Rattle.ocr_guid.specs.declared.target.Linked.TheVariants as link
use Rattle.ocr_event.specs.declared.EventKind.{EventKind}
use Rattle.ocr_event.specs.Event as plain
use Rattle.ocr_channel_event.specs.Channel as channel
use Rattle.ocr_event_any.specs.declared.AnyEvent.{AnyEvent}
use Rattle.ocr_event_any.specs.declared.AnyEvent.TheVariants as any
use Rattle.ocr_event_any.specs.declared.TheConstants.{LATCH, CHANNEL}
use Rattle.ocr_event_any.specs.AnyEvent.{takes_arg, plain_kind, state_by, state_of, after_satisfy, on_link, after_link, after_destroy}
use Rattle.ocr_machine_laws.proofs.Each.{Each, each_joined, each_past}

abbrev pub first_in : Option ℕ → List ℕ
first_in None = []
first_in (Some p) = p ∷ []

abbrev pub payloads_in : AnyEvent → List ℕ
payloads_in (any.Plain st) = first_in st.first
payloads_in (any.Latch st) = []
payloads_in (any.Channel st) = st.payloads

-- a new event keeps none
new_state : (a b : Bool) (k : EventKind) (takes : Bool) (most : ℕ) → payloads_in (state_by a b k takes most []) ≡ []
new_state true b k takes most = refl
new_state false true k takes most = refl
new_state false false k takes most = refl

pub new_payloads : (k flags most : ℕ) → payloads_in (state_of k flags most []) ≡ []
new_payloads k flags most = new_state (k == LATCH) (k == CHANNEL) (plain_kind k) (takes_arg flags) most

-- what holds of each payload that comes holds of those that are kept
plain_keeps : (P : ℕ → Type 0) (st : plain.State) (p : ℕ) → Each P (first_in st.first) → P p → Each P (first_in (plain.after_satisfy st p).first)
plain_keeps P st p are is = elim (plain.refusal st p) as (λ o. Each P (first_in (elim o as (λ _. plain.State) [ Some c ↦ st | None ↦ if plain.is_fired_idem st then st else plain.after_firing st p ]).first)) [
  | Some c ↦ are
  | None ↦ elim (plain.is_fired_idem st) as (λ b. Each P (first_in (if b then st else plain.after_firing st p).first)) [ true ↦ are | false ↦ (is, tt) ]
]

channel_keeps : (P : ℕ → Type 0) (st : channel.State) (p : ℕ) → Each P st.payloads → P p → Each P (channel.after_satisfy st p).payloads
channel_keeps P st p are is =
    elim (channel.refusal st p) as (λ o. Each P (elim o as (λ _. channel.State) [ Some c ↦ st | None ↦ elim (slice_get st.targets 0) as (λ _. channel.State) [ Some t ↦ channel.with_queues st st.payloads (drop 1 st.targets) | None ↦ channel.with_queues st (st.payloads ++ p ∷ []) st.targets ] ]).payloads) [
      | Some c ↦ are
      | None ↦ elim (slice_get st.targets 0) as (λ o. Each P (elim o as (λ _. channel.State) [ Some t ↦ channel.with_queues st st.payloads (drop 1 st.targets) | None ↦ channel.with_queues st (st.payloads ++ p ∷ []) st.targets ]).payloads) [ Some t ↦ are | None ↦ each_joined P st.payloads (p ∷ []) are (is, tt) ]
    ]

pub satisfied_payloads : (P : ℕ → Type 0) (st : AnyEvent) (slot p : ℕ) → Each P (payloads_in st) → P p → Each P (payloads_in (after_satisfy st slot p))
satisfied_payloads P (any.Plain st) slot p are is = plain_keeps P st p are is
satisfied_payloads P (any.Latch st) slot p are is = tt
satisfied_payloads P (any.Channel st) slot p are is = channel_keeps P st p are is

pub linked_payloads : (P : ℕ → Type 0) (st : AnyEvent) (t : Target) → Each P (payloads_in st) → Each P (payloads_in (after_link st t))
linked_payloads P (any.Plain st) t are =
    elim st.destroyed as (λ b. Each P (first_in (if b then st else if is_some st.first then st else record { kind = st.kind; takes_arg = st.takes_arg; destroyed = st.destroyed; first = st.first; targets = st.targets ++ t ∷ [] }).first)) [
      | true ↦ are
      | false ↦ elim (is_some st.first) as (λ b. Each P (first_in (if b then st else record { kind = st.kind; takes_arg = st.takes_arg; destroyed = st.destroyed; first = st.first; targets = st.targets ++ t ∷ [] }).first)) [ true ↦ are | false ↦ are ]
    ]
linked_payloads P (any.Latch st) t are = tt
linked_payloads P (any.Channel st) t are =
    elim st.destroyed as (λ b. Each P (if b then st else elim (slice_get st.payloads 0) as (λ _. channel.State) [ Some p ↦ channel.with_queues st (drop 1 st.payloads) st.targets | None ↦ channel.with_queues st st.payloads (st.targets ++ t ∷ []) ]).payloads) [
      | true ↦ are
      | false ↦ elim (slice_get st.payloads 0) as (λ o. Each P (elim o as (λ _. channel.State) [ Some p ↦ channel.with_queues st (drop 1 st.payloads) st.targets | None ↦ channel.with_queues st st.payloads (st.targets ++ t ∷ []) ]).payloads) [ Some p ↦ each_past P st.payloads are | None ↦ are ]
    ]

pub destroyed_payloads : (P : ℕ → Type 0) (st : AnyEvent) → Each P (payloads_in st) → Each P (payloads_in (after_destroy st))
destroyed_payloads P (any.Plain st) are = elim st.destroyed as (λ b. Each P (first_in (if b then st else record { kind = st.kind; takes_arg = st.takes_arg; destroyed = true; first = st.first; targets = [] }).first)) [ true ↦ are | false ↦ are ]
destroyed_payloads P (any.Latch st) are = tt
destroyed_payloads P (any.Channel st) are = elim st.destroyed as (λ b. Each P (if b then st else record { max_gen = st.max_gen; takes_arg = st.takes_arg; destroyed = true; payloads = []; targets = [] }).payloads) [ true ↦ are | false ↦ tt ]

-- what a link gets at once is among them
abbrev pub IsNow : (ℕ → Type 0) → Linked → Type 0
IsNow P (link.Now p) = P p
IsNow P other = Unit {0}

now_first : (P : ℕ → Type 0) (o : Option ℕ) → Each P (first_in o) → IsNow P (elim o as (λ _. Linked) [ None ↦ link.Kept | Some p ↦ link.Now p ])
now_first P None are = tt
now_first P (Some p) are = are.0

now_oldest : (P : ℕ → Type 0) (xs : List ℕ) → Each P xs → IsNow P (elim (slice_get xs 0) as (λ _. Linked) [ Some p ↦ link.Now p | None ↦ link.Kept ])
now_oldest P [] are = tt
now_oldest P (x ∷ rest) are = are.0

pub now_given : (P : ℕ → Type 0) (st : AnyEvent) → Each P (payloads_in st) → IsNow P (on_link st)
now_given P (any.Plain st) are = elim st.destroyed as (λ b. IsNow P (if b then link.Refused code.Stale else elim st.first as (λ _. Linked) [ None ↦ link.Kept | Some p ↦ link.Now p ])) [ true ↦ tt | false ↦ now_first P st.first are ]
now_given P (any.Latch st) are = elim st.destroyed as (λ b. IsNow P (if b then link.Refused code.Stale else link.Kept)) [ true ↦ tt | false ↦ tt ]
now_given P (any.Channel st) are = elim st.destroyed as (λ b. IsNow P (if b then link.Refused code.Stale else elim (slice_get st.payloads 0) as (λ _. Linked) [ Some p ↦ link.Now p | None ↦ link.Kept ])) [ true ↦ tt | false ↦ now_oldest P st.payloads are ]
