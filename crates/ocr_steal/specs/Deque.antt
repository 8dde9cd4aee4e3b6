-- A deque, with what each of its passes knows of it. The owner's pass has the number 0.
use Rattle.std.specs.Prelude.{◌≡◌, ℕ, suc, ◌+◌, List, [], ◌∷◌, ◌++◌, length, ◌^◌}
use Rattle.std.specs.List.{sum_by}
use mathlib.Core.Option.{some}
use lib.ListN.{get_elem?}
use Rattle.ocr_steal.specs.declared.account.Account.{Account}

abbrev pub all_parts : ℕ
all_parts = 2 ^ 32

-- a pass that pushed and took nothing
abbrev pub newcomer : ℕ → Account
newcomer parts = record { parts = parts; pushed = []; taken = [] }

abbrev pub joined : Account → Account → Account
joined v w = record { parts = v.parts + w.parts; pushed = v.pushed; taken = v.taken ++ w.taken }

-- the items with their places, from this place on
abbrev pub numbered : ℕ → List ℕ → List (ℕ × ℕ)
numbered n [] = []
numbered n (x ∷ xs) = (n, x) ∷ numbered (suc n) xs

-- what the owner pushed
abbrev pub pushed_by : List Account → List ℕ
pushed_by [] = []
pushed_by (p ∷ ps) = p.pushed

-- what these took, weighed
abbrev pub weight_taken : (ℕ × ℕ → ℕ) → List Account → ℕ
weight_taken f ps = sum_by (λ p. sum_by f p.taken) ps

-- What was pushed is what left the deque and then what is in it, in order. However the items and
-- their places are weighed, what all passes took is what left.
pub record IsState (gone items : List ℕ) (passes : List Account) : Type 0 where
  pub order : pushed_by passes ≡ gone ++ items
  pub once : (f : ℕ × ℕ → ℕ) → weight_taken f passes ≡ sum_by f (numbered 0 gone)
  pub parts : sum_by (λ p. p.parts) passes ≡ all_parts
  pub idle : (k : ℕ) (p : Account) → get_elem? passes k ≡ some p → p.parts ≡ 0 → p.taken ≡ []

-- the rule of a deque
abbrev pub IsDequeState : List ℕ → List Account → Type 0
IsDequeState items passes = (gone : List ℕ) × IsState gone items passes

-- At one step the deque held these items, when the pass with this number knew this. Which states
-- there may be at that step is what the rule says of it: all passes together account for the items.
pub record IsFound (port : ℕ) (items : List ℕ) (v : Account) : Type 0 where
  pub gone : List ℕ
  pub passes : List Account
  pub state : IsState gone items passes
  pub knows : get_elem? passes port ≡ some v

-- xs were the first items of the deque at that step, and left it: the pass keeps them, each with
-- its place among all that was pushed
pub record TakesFirst (port : ℕ) (v : Account) (xs : List ℕ) (w : Account) : Type 0 where
  pub rest : List ℕ
  pub found : IsFound port (xs ++ rest) v
  pub then_knows : w ≡ record v { taken = v.taken ++ numbered (length found.gone) xs }
