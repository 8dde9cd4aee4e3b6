-- Where the face of an object is looked up, and what is asked of the objects that a call wants.
use Rattle.std.specs.Prelude.{ℕ, List, Bool, if◌then◌else◌, slice_index_or}
use Rattle.ocr_machine_parts.specs.declared.part.Part.{Part}
use Rattle.ocr_machine_parts.specs.Codes as wants
use Rattle.ocr_machine_parts.specs.Codes.{is_missing, is_of_other_kind, is_refused_as_stale}
use Rattle.ocr_machine_parts.specs.Taken.{as_face, face_in, is_within}
use Rattle.ocr_machine_parts.specs.declared.part.Part.TheVariants as part
use Rattle.ocr_machine_codes.specs.declared.lookup.Faces.{Faces}
use Rattle.ocr_machine_codes.specs.declared.lookup.Faces.TheVariants as faces
use Rattle.ocr_machine_codes.specs.declared.codes.Sort.{Sort}
use Rattle.ocr_machine_codes.specs.declared.codes.Sort.TheVariants as sort
use Rattle.ocr_machine_codes.specs.declared.codes.Test.{Test}
use Rattle.ocr_machine_codes.specs.declared.codes.Test.TheVariants as test

-- the part at a number, where each stands at its number, and the face of an object among them
abbrev pub part_at : List Part → ℕ → Part
part_at ps n = slice_index_or ps n part.Vacant

abbrev pub face_at : ℕ → List Part → ℕ → Part
face_at limit ps g = if is_within limit g then as_face (part_at ps g) else part.Vacant

abbrev pub faces_of : Faces → ℕ → Part
faces_of (faces.Taken limit parts) = face_in limit parts.now
faces_of (faces.Whole limit parts) = face_at limit parts.now

abbrev pub sort_of : Sort → wants.Sort
sort_of sort.ABlock = wants.ABlock
sort_of sort.ToRelease = wants.ToRelease
sort_of sort.Held = wants.Held
sort_of sort.Source = wants.Source
sort_of sort.Target = wants.Target
sort_of sort.ATemplate = wants.ATemplate
sort_of sort.AnEvent = wants.AnEvent

abbrev pub test_of : ℕ → Test → wants.Sort → Part → Bool
test_of t test.Missing = is_missing
test_of t test.OtherKind = is_of_other_kind
test_of t test.Stale = is_refused_as_stale t
