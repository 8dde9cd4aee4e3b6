-- What a test tells.
use Rattle.std.specs.Prelude.{◌≡◌, Bool, true, false}

-- a test that tells whether something holds
pub record Whether (answer : Bool) (P : Type 0) : Type 0 where
  pub yes : answer ≡ true → P
  pub no : answer ≡ false → P → ⊥
