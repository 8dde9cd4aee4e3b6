-- What the body of an EDT is given at its start.
use Rattle.std.specs.Prelude.{ℕ, List, [], ◌∷◌, Bool, ◌&&◌, not, if◌then◌else◌, map, Option, Some, None}
use Rattle.ocr_acquire.specs.Mode.{is_null}
use Rattle.ocr_body_code.specs.Checked.{checked_tree}
use Rattle.ocr_body_code.specs.declared.checked.Checked.{Checked}
use Rattle.ocr_edt.specs.Phases.{Work, is_named}
use Rattle.ocr_body_meaning.specs.Body.{Body}
use Rattle.ocr_machine_parts.specs.Bodies.{body_with}
use Rattle.ocr_machine_parts.specs.Calls.{mode_or_null}
use Rattle.ocr_slots.specs.declared.Slot.{Slot}
use Rattle.ocr_worker_access.specs.Access.{holds_at}
use Rattle.ocr_worker_body.specs.declared.given.Inputs.{Inputs}

-- for each slot, whether it is linked in another mode than NULL
abbrev pub is_used : Slot → Bool
is_used x = not (is_null (mode_or_null x.mode))

abbrev pub are_used : List Slot → List Bool
are_used slots = map is_used slots

-- the value of a slot with this payload, and the values slot by slot: NULL_GUID for a block that
-- was found gone, where the slot is used
abbrev pub value_by : List ℕ → Bool → ℕ → ℕ
value_by stale used p = if is_named p stale && used then 0 else p

abbrev pub values_by : List ℕ → List Bool → List ℕ → List ℕ
values_by stale (u ∷ used) (p ∷ payloads) = value_by stale u p ∷ values_by stale used payloads
values_by stale used payloads = []

-- what a running EDT found gone before its start
abbrev pub stale_with : Option Work → List ℕ
stale_with None = []
stale_with (Some w) = w.stale

-- the body that is given this, and holds what its EDT held then
abbrev pub body_given : Checked → Inputs → Body
body_given program g =
    body_with (checked_tree program) g.function g.params.items g.depv.items (holds_at g.begun.value)
