-- An EDT made ready with the plan of its slots, set to given payloads, and started.
use Rattle.std.specs.Prelude.{ℕ, List, [], ◌∷◌, Some}
use Rattle.ocr_acquire.specs.declared.Mode.{Mode}
use Rattle.ocr_acquire.specs.Plan as plan
use Rattle.ocr_slots.specs.declared.Slot.{Slot}
use Rattle.ocr_machine_parts.specs.declared.part.Core.{Core}
use Rattle.ocr_machine_parts.specs.Calls.{asks_in}
use Rattle.ocr_machine_parts.specs.Effects.{started_edt}
use Rattle.ocr_machine_parts.specs.Progress.{made_ready, with_phase}

-- THE PLAN by the face of an EDT and by what its slots are set to
abbrev pub filled : List Slot → List ℕ → List Slot
filled [] payloads = []
filled (one ∷ rest) [] = []
filled (one ∷ rest) (p ∷ payloads) =
    (record { mode = one.mode; payload = Some p }) ∷ filled rest payloads

abbrev pub plan_from : List Slot → List ℕ → List (ℕ × Mode)
plan_from slots payloads = plan.plan_of (asks_in (filled slots payloads))

-- the core, made ready with the plan that the slots tell, set to these payloads
abbrev pub ready_with : List Slot → List ℕ → Core → Core
ready_with slots payloads core = with_phase (made_ready (plan_from slots payloads)) core

-- made ready with the plan that the slots tell, set to these payloads, and started
abbrev pub started_with : List Slot → List ℕ → Core → Core
started_with slots payloads core = with_phase started_edt (ready_with slots payloads core)
