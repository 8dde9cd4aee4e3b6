-- All parts of the state, each at its number.
use Rattle.std.specs.Prelude.{◌≡◌, ℕ, ◌+◌, List, if◌then◌else◌}
use Rattle.ocr_machine_parts.specs.declared.part.Part.{Part}
use Rattle.ocr_machine_parts.specs.declared.part.Part.TheVariants as part
use Rattle.ocr_machine_parts.specs.Parts.{Parts}
use Rattle.ocr_machine_parts.specs.Taken.{as_core, is_within, place_of}
use Rattle.ocr_machine_codes.specs.Lookup.{part_at}
pub use Rattle.ocr_machine_codes.specs.Lookup.{face_at}

abbrev pub core_at : ℕ → List Part → ℕ → Part
core_at limit ps t = if is_within limit t then as_core (part_at ps (limit + t)) else part.Vacant

abbrev pub all_parts : ℕ → List Part → Parts
all_parts limit ps = record { face = face_at limit ps; core = core_at limit ps }

-- at each number stands a part of its kind
abbrev pub AreAllPlaced : ℕ → List Part → Type 0
AreAllPlaced limit ps = (n : ℕ) → part_at ps n ≡ place_of limit (all_parts limit ps) n
