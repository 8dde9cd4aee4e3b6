-- How much fuel what a body does costs.
use Rattle.std.specs.Prelude.{◌≡◌, ◌≤◌, ◌<◌, ◌⊎◌, ◌+◌, ℕ, suc, List}
use Rattle.ocr_body_meaning.specs.Behaviour.{Behaviour, Ends, Stops, Asks, Asked, after, IsNextWith}
use Rattle.ocr_body_meaning.specs.Meaning.{Frame, State, Value, eval}
use Rattle.ocr_body_meaning.specs.Body.{Body, says}
use Rattle.ocr_program_tree.specs.Tree as tree
use Rattle.ocr_program_tree.specs.Tree.{Expression, Arguments}
use Rattle.ocr_body_meaning.specs.declared.call.BodyStop.TheVariants as stop

-- a body with another amount of fuel
abbrev pub with_fuel : Body → ℕ → Body
with_fuel b n = record b { fuel = n }

-- the same call comes next with the same private writes, or the same end
abbrev pub IsSameStep : Behaviour → Behaviour → Type 0
IsSameStep (Ends g holds) now = now ≡ Ends g holds
IsSameStep (Stops s) now = now ≡ Stops s
IsSameStep (Asks made writes next) now = IsNextWith made writes now

-- a body that is not stopped for want of fuel after these calls has spent so many units by then:
-- with fewer it is stopped for want of fuel, and with as many or more it does the same
pub record Costs (b : Body) (log : List Asked) (units : ℕ) : Type 0 where
  pub fuelled : says b log ≡ Stops stop.Fuel → ⊥
  pub fewer : (n : ℕ) → n < units → says (with_fuel b n) log ≡ Stops stop.Fuel
  pub enough : (n : ℕ) → units ≤ n → IsSameStep (says b log) (says (with_fuel b n) log)

-- a body ends, stops, or makes its next call, after at most as many units as its fuel; else it is
-- stopped for want of fuel, as it is with any less
abbrev pub UnitsLaw : Type 0
UnitsLaw = (b : Body) (log : List Asked)
    → ((says b log ≡ Stops stop.Fuel)
    × ((n : ℕ) → n ≤ b.fuel → says (with_fuel b n) log ≡ Stops stop.Fuel))
    ⊎ ((units : ℕ) × (units ≤ b.fuel) × Costs b log units)

-- the nodes of an expression. A name is no node
abbrev mutual
  pub nodes : Expression → ℕ
  nodes (tree.Paramv e) = suc (nodes e)
  nodes (tree.Depv e) = suc (nodes e)
  nodes (tree.Unary o e) = suc (nodes e)
  nodes (tree.Binary o a b) = suc (nodes a + nodes b)
  nodes (tree.Invoked made xs) = suc (nodes_of xs)
  nodes other = 1

  pub nodes_of : Arguments → ℕ
  nodes_of tree.empty = 0
  nodes_of (tree.value e rest) = nodes e + nodes_of rest
  nodes_of (tree.list es rest) = nodes_of es + nodes_of rest
  nodes_of (tree.named x rest) = nodes_of rest

-- after these calls, the newest of which stands first, an expression has this value, and leaves
-- this state to whatever goes on
abbrev pub ComesTo : (Value → Behaviour) → List Asked → ℕ → State → Type 0
ComesTo part log v now = (k : Value) → after log (part k) ≡ k v now

-- an expression that comes to a value has spent a unit for each of its nodes
abbrev pub NodesLaw : Type 0
NodesLaw = (f : Frame) (e : Expression) (st : State) (log : List Asked) (v : ℕ) (now : State)
    → ComesTo (eval f e st) log v now → now.fuel + nodes e ≡ st.fuel
