-- What an expression without calls comes to, and the fuel that it takes, and the same of arguments.
use Rattle.std.specs.Prelude.{◌≡◌, ℕ, List, [], Bool, Option}
use Rattle.ocr_program_tree.specs.Tree.{Expression, Arguments, names_in}
use Rattle.ocr_body_meaning.specs.Behaviour.{Behaviour}
use Rattle.ocr_body_meaning.specs.Holds.{Holds}
use Rattle.ocr_body_meaning.specs.Meaning.{Frame, State, Value, Given, nothing_given, with_list}
use Rattle.ocr_body_meaning.specs.Meaning.{eval, eval_all}
use Rattle.ocr_body_code.specs.Code.{is_placed, are_args_placed, expression_at, arguments_at}
use Rattle.ocr_body_code.specs.declared.code.ArgCode.{ArgCode}
use Rattle.ocr_body_code.specs.declared.code.ExprCode.{ExprCode}
use Rattle.ocr_body_code.specs.declared.code.Named.{Named}
use Rattle.ocr_body_steps.specs.Given.{given_of, IsFirst}
use Rattle.ocr_body_steps.specs.Local.{value_in, numbers_of, frame_of}
use Rattle.ocr_body_steps.specs.declared.given.Given as found
use Rattle.ocr_body_steps.specs.declared.local.Frame as walker
use Rattle.ocr_body_steps.specs.declared.local.Local.{Local}
use Rattle.ocr_body_steps.specs.declared.plain.Found.{Found}

-- code over the names of this body and the functions of its program
abbrev pub is_expr_in : walker.Frame → ExprCode → Bool
is_expr_in f e = is_placed (numbers_of f) f.names.now e

abbrev pub are_args_in : walker.Frame → ArgCode → Bool
are_args_in f args = are_args_placed (numbers_of f) f.names.now args

-- an expression has this value with so much fuel, this last code and these variables, makes no
-- call, and leaves so much, whatever is held
abbrev pub Leaves : Frame → Expression → (code : ℕ) → (variables : List ℕ → ℕ)
    → (before value left : ℕ) → Type 0
Leaves f e code variables before value left = (holds : Holds) (k : Value)
    → eval f e (record { fuel = before; code = code; variables = variables; holds = holds }) k
    ≡ k value (record { fuel = left; code = code; variables = variables; holds = holds })

-- an expression has this value with so much fuel, makes no call, and leaves so much
abbrev pub IsFound : walker.Frame → ExprCode → Local → ℕ → Found → Type 0
IsFound f e l fuel r =
    Leaves
    (frame_of f)
    (expression_at f.names.now e)
    l.code
    (λ y. value_in f.names.now l.values.items y)
    fuel
    r.value
    r.left

-- the same of arguments: they come to this after what was given before
abbrev pub LeavesGiven : Frame → Arguments → (code : ℕ) → (variables : List ℕ → ℕ)
    → (before : ℕ) → (old new : Given) → (left : ℕ) → Type 0
LeavesGiven f xs code variables before old new left =
    (holds : Holds) (k : Given → State → Behaviour) → eval_all f xs old (record {
      fuel = before;
      code = code;
      variables = variables;
      holds = holds;
    }) k ≡ k new (record { fuel = left; code = code; variables = variables; holds = holds })

-- code of arguments comes to this after what was given before, makes no call, and leaves so much
abbrev pub Comes : walker.Frame → ArgCode → Local → ℕ → (old new : Given) → ℕ → Type 0
Comes f args l =
    LeavesGiven
    (frame_of f)
    (arguments_at f.names.now args)
    l.code
    (λ y. value_in f.names.now l.values.items y)

abbrev pub AreFound : walker.Frame → ArgCode → Local → ℕ → (old new : found.Given) → ℕ → Type 0
AreFound f args l fuel old new left = Comes f args l fuel (given_of old) (given_of new) left

-- the first name among arguments, or that there is none
abbrev pub IsFirstIn : walker.Frame → ArgCode → Option Named → Type 0
IsFirstIn f args = IsFirst (numbers_of f) f.names.now (names_in (arguments_at f.names.now args))

-- what is given by the items of a list
abbrev pub items_given : List ℕ → Given
items_given items = record { values = items; lists = [] }

abbrev pub AreItems : walker.Frame → ArgCode → Local → ℕ → (old new : List ℕ) → ℕ → Type 0
AreItems f list l fuel old new left =
    Comes f list l fuel (items_given old) (items_given new) left

-- the items of a list are a list more
abbrev pub AreListed : walker.Frame → ArgCode → Local → ℕ → (old new : found.Given) → ℕ → Type 0
AreListed f list l fuel old new left =
    (items : List ℕ)
    × (given_of new ≡ with_list (given_of old) items)
    × Comes f list l fuel nothing_given (items_given items) left
