-- What an event answers, by its kind, its flags, the most satisfactions that it keeps, and the
-- calls that it accepted; and which objects are destroyed.
use Rattle.std.specs.Prelude.{ℕ, List, Bool, ◌==◌, if◌then◌else◌, Option, Some}
use Rattle.ocr_guid.specs.declared.Code.{Code}
use Rattle.ocr_guid.specs.declared.target.Satisfied.{Satisfied}
use Rattle.ocr_guid.specs.declared.target.Linked.{Linked}
use Rattle.ocr_guid.specs.declared.target.Linked.TheVariants as link
use Rattle.ocr_guid.specs.Target as target
use Rattle.ocr_guid.specs.Target.{EventCall}
use Rattle.ocr_event.specs.Event as event
use Rattle.ocr_latch.specs.Latch as latch
use Rattle.ocr_channel_event.specs.Channel as channel
use Rattle.ocr_event_any.specs.AnyEvent.{takes_arg, plain_kind}
use Rattle.ocr_event_any.specs.declared.TheConstants.{LATCH, CHANNEL}
use Rattle.ocr_machine_history.specs.History.{History, Setting}
use Rattle.ocr_machine_history.specs.Made.{Made, MadeEvent, made}
use Rattle.ocr_machine_parts.specs.Calls.{event_calls}
use Rattle.ocr_machine_rules.specs.Blocks.{was_destroyed}

-- the code that refuses a further satisfaction
abbrev pub refusal : (kind flags most : ℕ) → List EventCall → ℕ → Option Code
refusal k flags most calls p =
    if k == LATCH then latch.refusal_after (takes_arg flags) calls p
    else if k == CHANNEL then channel.refusal_after most (takes_arg flags) calls p
    else event.refusal_after (plain_kind k) (takes_arg flags) calls p

-- the answer to a further satisfaction, and to a further link, that is not refused
abbrev pub firing : ℕ → List EventCall → (slot payload : ℕ) → Satisfied
firing k calls slot p =
    if k == LATCH then latch.firing_after calls slot p
    else if k == CHANNEL then channel.firing_after calls
    else event.firing_after calls

abbrev pub linking : ℕ → List EventCall → Linked
linking k calls =
    if k == LATCH then link.Kept
    else if k == CHANNEL then channel.linking_after calls
    else event.linking_after calls

-- DESTROYED is what a call destroyed, and an event whose kind ends by firing
abbrev pub is_event_destroyed : ℕ → List EventCall → Bool
is_event_destroyed k calls =
    if k == LATCH then latch.is_destroyed calls
    else if k == CHANNEL then target.was_destroyed calls
    else event.is_destroyed (plain_kind k) calls

abbrev pub is_destroyed_as : Option Made → List EventCall → Bool → Bool
is_destroyed_as (Some (MadeEvent k fl most)) calls by_call = is_event_destroyed k calls
is_destroyed_as other calls by_call = by_call

abbrev pub is_destroyed : Setting → History → ℕ → Bool
is_destroyed s past g =
    is_destroyed_as (made s past g) (event_calls s past g) (was_destroyed past g)
