-- One hold, and the body that makes one load or one store of it.
use Rattle.std.specs.Prelude.{◌≡◌, ℕ, List, [], ◌∷◌, length, map, true, false, ◌==◌, if◌then◌else◌, Some, None}
use Rattle.ocr_program_tree.specs.Tree as tree
use Rattle.ocr_program_tree.specs.declared.tree.CallName.TheVariants as name
use Rattle.ocr_acquire.specs.declared.Mode.{Mode}
use Rattle.ocr_datablock.specs.Lent.{Loan}
use Rattle.ocr_body_meaning.specs.Behaviour.{Asked}
use Rattle.ocr_body_meaning.specs.Body.{Body}
use Rattle.ocr_body_meaning.specs.Holds as holds
use Rattle.ocr_body_meaning.specs.Holds.{Holds}
use Rattle.ocr_acquire.specs.Mode.{is_isolated}
use Rattle.ocr_body_meaning.specs.declared.call.Answer.{Answer}
use Rattle.ocr_body_meaning.specs.declared.call.Call.{Call}
use Rattle.ocr_tests_body.specs.declared.hold.Access.{Access}
use Rattle.ocr_tests_body.specs.declared.hold.Access.TheVariants as access
use Rattle.ocr_tests_body.specs.declared.hold.Hold.{Hold}
use Rattle.ocr_tests_body.specs.declared.hold.Hold.TheVariants as hold

-- a loan as a hold, and a hold of words that all share
abbrev pub lent_hold : Loan → holds.Hold
lent_hold l = record { mode = l.mode; size = length l.began; began = l.began; writes = l.writes }

abbrev pub shared_hold : Mode → List ℕ → holds.Hold
shared_hold m words = record { mode = m; size = length words; began = []; writes = [] }

abbrev pub hold_of : Hold → holds.Hold
hold_of (hold.Lent l) = lent_hold l
hold_of (hold.Shared m words) = shared_hold m words.items

-- the hold as it began
abbrev pub start_of : Hold → holds.Hold
start_of (hold.Lent l) =
    record { mode = l.mode; size = length l.began; began = l.began; writes = [] }
start_of (hold.Shared m words) = shared_hold m words.items

-- words on loan are those of a hold in EW or CONST
abbrev pub IsFitting : Hold → Type 0
IsFitting (hold.Lent l) = is_isolated l.mode ≡ true
IsFitting (hold.Shared m words) = is_isolated m ≡ false

-- one block is held
abbrev pub held : ℕ → holds.Hold → Holds
held d h = λ x. if d == x then Some h else None

-- calls with their answers
abbrev pub asked_of : List (Call × Answer) → List Asked
asked_of entries = map (λ e. record { call = e.0; answer = e.1 }) entries

-- the arguments that are these numbers
abbrev pub numbers : List ℕ → tree.Arguments
numbers [] = tree.empty
numbers (n ∷ rest) = tree.value (tree.Number n) (numbers rest)

-- the body makes this load or store, and returns what it finds
abbrev pub expression_of : Access → tree.Expression
expression_of (access.Load d w) = tree.Invoked name.Load (numbers (d ∷ w ∷ []))
expression_of (access.Store d w v) = tree.Invoked name.Store (numbers (d ∷ w ∷ v ∷ []))

abbrev pub function_of : tree.Statement → tree.FunctionTree
function_of s = record { name = []; body = tree.statement s tree.nothing }

abbrev pub body_of : Access → Holds → Body
body_of a before = record {
  program = function_of (tree.Return (expression_of a)) ∷ [];
  function = 1;
  params = [];
  depv = [];
  holds = before;
  fuel = 5;
}
