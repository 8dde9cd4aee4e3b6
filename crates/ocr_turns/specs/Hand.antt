-- The parts of a clerk that stand at hand.
use Rattle.std.specs.Prelude.{ℕ, List, [], ◌∷◌, Option, Some, None}

module _ {P : Type 0} where
  abbrev pub with_item : ℕ → Option P → List (ℕ × P) → List (ℕ × P)
  with_item p None ps = ps
  with_item p (Some x) ps = (p, x) ∷ ps

  -- those that were not lifted, each with its place
  abbrev pub at_hand : List (ℕ × Option P) → List (ℕ × P)
  at_hand [] = []
  at_hand (x ∷ rest) = with_item x.0 x.1 (at_hand rest)
