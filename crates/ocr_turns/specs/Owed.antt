-- What a clerk owes: messages, each under the number of its entry and its index there, and for how
-- many more there is room.
use Rattle.std.specs.Prelude.{ℕ, List}

pub record Queued (N : Type 0) : Type 0 where
  pub items : List (ℕ × ℕ × N)
  pub room : ℕ
