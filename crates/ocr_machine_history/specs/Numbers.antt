-- Lists of numbers.
use Rattle.std.specs.Prelude.{◌<◌, ℕ, List, [], ◌∷◌, Bool, false, ◌||◌, nat_lt, ◌==◌, if◌then◌else◌}

-- a number is in a list
abbrev pub is_in : ℕ → List ℕ → Bool
is_in n [] = false
is_in n (m ∷ rest) = (m == n) || is_in n rest

-- a number at its place in a rising list, once
abbrev pub placed : ℕ → List ℕ → List ℕ
placed n [] = n ∷ []
placed n (m ∷ rest) =
    if nat_lt n m then n ∷ m ∷ rest else if n == m then m ∷ rest else m ∷ placed n rest

-- the numbers rise from one that is greater than n, so each stands once
abbrev pub RisesFrom : ℕ → List ℕ → Type 0
RisesFrom n [] = Unit {0}
RisesFrom n (m ∷ rest) = (n < m) × RisesFrom m rest

abbrev pub IsRising : List ℕ → Type 0
IsRising [] = Unit {0}
IsRising (m ∷ rest) = RisesFrom m rest
