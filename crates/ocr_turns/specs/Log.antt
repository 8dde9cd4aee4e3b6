-- A log: numbered entries, and for how many more it has room.
use Rattle.std.specs.Prelude.{ℕ, List}

pub record Logged (E : Type 0) : Type 0 where
  pub items : List (ℕ × E)
  pub room : ℕ
