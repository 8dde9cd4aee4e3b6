-- An EDT's core at hand, made ready with the plan of its face, and started.
use Rattle.std.specs.Prelude.{◌≡◌, ◌≢◌, ℕ, List, Option, Some, None, length, true}
use Rattle.ocr_machine_parts.specs.declared.part.Core.{Core}
use Rattle.ocr_machine_parts.specs.declared.part.Part.{Part}
use Rattle.ocr_machine_parts.specs.declared.part.Part.TheVariants as part
use Rattle.ocr_machine_parts.specs.Kinds.{is_acquiring_edt, next_in, progress_in}
use Rattle.ocr_slots.specs.declared.Slot.{Slot}
use Rattle.ocr_turns_rule.specs.Sums.{find, replace}
use Rattle.ocr_machine_parts.specs.Readiness.{ready_with}

-- the core of an EDT and its face, with so many slots, stand at hand, at two places
pub record HasBoth (hands : List (ℕ × Option Part)) (place edt count : ℕ) : Type 0 where
  pub core : Core
  pub slots : List Slot
  pub core_there : find place hands ≡ Some (Some (part.Core core))
  pub face_there : find edt hands ≡ Some (Some (part.Edt slots))
  pub apart : edt ≢ place
  pub count_is : count ≡ length slots

-- both stand at hand, and once the core is made ready its plan is done
pub record CanStart (hands : List (ℕ × Option Part)) (place edt : ℕ) (payloads : List ℕ)
    : Type 0 where
  pub both : HasBoth hands place edt (length payloads)
  pub acquiring : is_acquiring_edt (ready_with both.slots payloads both.core).edt ≡ true
  pub through : next_in (progress_in (ready_with both.slots payloads both.core).edt) ≡ None

-- the core was changed so, by its face
pub record PutAs (step : List Slot → List ℕ → Core → Core) (old new : List (ℕ × Option Part))
    (place edt : ℕ) (payloads : List ℕ) : Type 0 where
  pub core : Core
  pub slots : List Slot
  pub core_there : find place old ≡ Some (Some (part.Core core))
  pub face_there : find edt old ≡ Some (Some (part.Edt slots))
  pub put : new ≡ replace place (Some (part.Core (step slots payloads core)))
      (replace place None old)
