-- What the walker keeps of a body, as the meaning names it.
use Rattle.std.specs.Prelude.{◌≡◌, ℕ, List, [], ◌∷◌, true, bytes_eq, if◌then◌else◌, length}
use Rattle.ocr_program_tree.specs.Functions.{numbers_in}
use Rattle.ocr_body_meaning.specs.Holds.{Holds}
use Rattle.ocr_body_meaning.specs.Meaning.{State, Frame}
use Rattle.ocr_body_code.specs.Checked.{checked_tree}
use Rattle.ocr_body_code.specs.Code.{are_distinct}
use Rattle.ocr_body_steps.specs.declared.local.Frame as walker
use Rattle.ocr_body_steps.specs.declared.local.Local.{Local}

-- the value of a name, by the places of the names
abbrev pub value_in : List (List ℕ) → List ℕ → List ℕ → ℕ
value_in [] values y = 0
value_in (x ∷ names) [] y = 0
value_in (x ∷ names) (v ∷ values) y = if bytes_eq x y then v else value_in names values y

abbrev pub state_of : List (List ℕ) → Holds → Local → State
state_of names holds local = record {
  fuel = local.fuel;
  code = local.code;
  variables = λ y. value_in names local.values.items y;
  holds = holds;
}

-- the state of the body, whose EDT holds this
abbrev pub state_in : walker.Frame → Holds → Local → State
state_in f holds l = state_of f.names.now holds l

-- the numbers of the functions of a frame's program
abbrev pub numbers_of : walker.Frame → List ℕ → ℕ
numbers_of f = numbers_in (checked_tree f.program.now)

abbrev pub frame_of : walker.Frame → Frame
frame_of f = record { params = f.params.now; depv = f.deps.now; function_of = numbers_of f }

-- the names of the body's variables differ, and each has a place
pub record Fits (f : walker.Frame) (l : Local) : Type 0 where
  pub distinct : are_distinct f.names.now ≡ true
  pub room : length l.values.items ≡ length f.names.now

-- after a part that keeps its state
pub record KeepsLocal (before now : Local) : Type 0 where
  pub fuel : now.fuel ≡ before.fuel
  pub code : now.code ≡ before.code
  pub values : now.values ≡ before.values
