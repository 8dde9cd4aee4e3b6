-- A body of a program, and what it does.
use Rattle.std.specs.Prelude.{ℕ, List}
use Rattle.ocr_program_tree.specs.Functions.{statements_at, numbers_in}
use Rattle.ocr_program_tree.specs.Tree.{FunctionTree}
use Rattle.ocr_body_meaning.specs.Behaviour.{Behaviour, Ends, Asked, after}
use Rattle.ocr_body_meaning.specs.Holds.{Holds}
use Rattle.ocr_body_meaning.specs.Meaning.{exec_all, fresh_state}

-- a body: its function, what it was given, what its EDT holds at its start, and its fuel
pub record Body : Type 0 where
  pub program : List FunctionTree
  pub function : ℕ
  pub params : List ℕ
  pub depv : List ℕ
  pub holds : Holds
  pub fuel : ℕ

-- what a body does from its start
abbrev pub behaviour : Body → Behaviour
behaviour b =
    exec_all
    (record { params = b.params; depv = b.depv; function_of = numbers_in b.program })
    (statements_at b.program b.function)
    (fresh_state b.fuel b.holds)
    (λ st. Ends 0 st.holds)

-- what a body does after these calls, the newest of which stands first
abbrev pub says : Body → List Asked → Behaviour
says b log = after log (behaviour b)
