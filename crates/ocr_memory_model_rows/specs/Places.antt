-- Places, each with some that come right before it, and what comes before a place through others.
use Rattle.std.specs.Prelude.{◌≡◌, ◌≤◌, ◌<◌, ℕ, List, [], ◌∷◌, length, Bool, true, false, ◌||◌, ◌==◌, if◌then◌else◌}
use Rattle.std.specs.List.{list_any, AllByRecursion}

-- for each place those that come right before it, the newest place first
abbrev pub Graph : Type 0
Graph = List (List ℕ)

-- the place is b, or comes before it
abbrev pub reaches : Graph → ℕ → ℕ → Bool
reaches [] a b = false
reaches (causes ∷ g) a b =
    if b == length g then (a == b) || list_any (λ c. reaches g a c) causes else reaches g a b

-- it is one of these places, or comes before one
abbrev pub reaches_any : Graph → ℕ → List ℕ → Bool
reaches_any g a places = list_any (λ c. reaches g a c) places

-- THE SMALLEST TRANSITIVE RELATION with these pairs
pub data Closure (P : ℕ → ℕ → Type 0) : ℕ → ℕ → Type 0 where
  one : {a b : ℕ} → P a b → Closure P a b
  more : {a b c : ℕ} → Closure P a b → P b c → Closure P a c

-- a relation has the pairs of a graph
abbrev pub HasPairs : (ℕ → ℕ → Type 0) → Graph → Type 0
HasPairs P [] = Unit {0}
HasPairs P (causes ∷ g) = AllByRecursion (λ c. P c (length g)) causes × HasPairs P g

-- and no pair that the graph does not reach
abbrev pub IsReached : (ℕ → ℕ → Type 0) → Graph → Type 0
IsReached P g = (a b : ℕ) → P a b → (a < b) × (reaches g a b ≡ true)

-- THE LAWS. What is reached comes no later, and what reaches it through another reaches it
abbrev pub WithinLaw : Type 0
WithinLaw = (g : Graph) (a b : ℕ) → reaches g a b ≡ true → (a ≤ b) × (b < length g)

abbrev pub ThroughLaw : Type 0
ThroughLaw = (g : Graph) (a b c : ℕ) → reaches g a b ≡ true → reaches g b c ≡ true
    → reaches g a c ≡ true
