-- The parts of all places at the opening.
use Rattle.std.specs.Prelude.{ℕ, List, [], ◌∷◌, set, Option, Some}

-- the listed parts, each put into its place
abbrev pub placed : {P : Type 0} → List (ℕ × P) → List (Option P) → List (Option P)
placed [] xs = xs
placed (c ∷ cs) xs = placed cs (set xs c.0 (Some c.1))
