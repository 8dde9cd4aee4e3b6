-- Parts by their numbers: the face of object g has the number g, and the core of EDT t the number
-- limit + t.
use Rattle.std.specs.Prelude.{◌≡◌, ℕ, ◌+◌, ◌-◌, List, [], ◌∷◌, Bool, true, false, ◌==◌, ◌||◌, ◌&&◌, nat_le, if◌then◌else◌}
use Rattle.ocr_machine_parts.specs.declared.part.Part.{Part}
use Rattle.ocr_machine_parts.specs.declared.part.Part.TheVariants as part
use Rattle.ocr_machine_parts.specs.Parts.{Parts}
use Rattle.ocr_machine_parts.specs.Effects.{settled}

abbrev pub look : List (ℕ × Part) → ℕ → Part
look [] n = part.Vacant
look (p ∷ rest) n = if p.0 == n then p.1 else look rest n

abbrev pub has : List (ℕ × Part) → ℕ → Bool
has [] n = false
has (p ∷ rest) n = (p.0 == n) || has rest n

abbrev pub put : List (ℕ × Part) → ℕ → Part → List (ℕ × Part)
put [] n x = []
put (p ∷ rest) n x = if p.0 == n then (p.0, x) ∷ rest else p ∷ put rest n x

abbrev pub keys : List (ℕ × Part) → List ℕ
keys [] = []
keys (p ∷ rest) = p.0 ∷ keys rest

-- a number that names an object has no core there, and one that names a core has no face
abbrev pub as_face : Part → Part
as_face (part.Core c) = part.Vacant
as_face other = other

abbrev pub as_core : Part → Part
as_core (part.Core c) = part.Core c
as_core other = part.Vacant

-- an object has parts where its number is from 1 to the limit
abbrev pub is_within : ℕ → ℕ → Bool
is_within limit g = nat_le 1 g && nat_le g limit

-- past the limit there is no object
pub record IsWithin (limit : ℕ) (f : Parts) : Type 0 where
  pub faces : (g : ℕ) → is_within limit g ≡ false → f.face g ≡ part.Vacant
  pub cores : (u : ℕ) → is_within limit u ≡ false → f.core u ≡ part.Vacant

-- the parts that a list of parts with their numbers holds
abbrev pub face_in : ℕ → List (ℕ × Part) → ℕ → Part
face_in limit ps g = if is_within limit g then as_face (look ps g) else part.Vacant

abbrev pub core_in : ℕ → List (ℕ × Part) → ℕ → Part
core_in limit ps t = if is_within limit t then as_core (look ps (limit + t)) else part.Vacant

abbrev pub parts_in : ℕ → List (ℕ × Part) → Parts
parts_in limit ps = record { face = face_in limit ps; core = core_in limit ps }

-- the part of a number: a face up to the limit, then a core, and none past twice the limit
abbrev pub place_of : ℕ → Parts → ℕ → Part
place_of limit f n =
    if is_within limit n then f.face n
    else if is_within limit (n - limit) then f.core (n - limit)
    else part.Vacant

-- at each number stands a part of its kind
abbrev pub ArePlaced : ℕ → List (ℕ × Part) → Type 0
ArePlaced limit ps = (n : ℕ) → look ps n ≡ place_of limit (parts_in limit ps) n

-- a part as it is compared: of its place's kind, and without what was stored in loans
abbrev pub seen : ℕ → ℕ → Part → Part
seen limit n x =
    if is_within limit n then as_face x
    else if is_within limit (n - limit) then settled (as_core x)
    else part.Vacant

-- these are the parts of the state at their numbers, but for what was stored in loans
abbrev pub ArePartsOf : ℕ → Parts → List (ℕ × Part) → Type 0
ArePartsOf limit f ps = (n : ℕ) → has ps n ≡ true → place_of limit f n ≡ seen limit n (look ps n)
