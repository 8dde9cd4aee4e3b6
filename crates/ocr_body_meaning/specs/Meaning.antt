-- The meaning of a body: what it does, computed from its tree. Each part is told what comes after.
use Rattle.std.specs.Prelude.{ℕ, zero, suc, ◌+◌, ◌-◌, ◌*◌, ◌/◌, ◌%◌, ◌^◌, List, [], ◌∷◌, ◌++◌}
use Rattle.std.specs.Prelude.{length, slice_index, slice_index_or, nat_lt, nat_le, ◌==◌, bytes_eq}
use Rattle.std.specs.Prelude.{Bool, true, false, if◌then◌else◌, bit_and, bit_or, bit_xor}
use Rattle.ocr_guid.specs.Code.{number_of}
use Rattle.ocr_program_tree.specs.Constant.{value_of}
use Rattle.ocr_program_tree.specs.Tree as tree
use Rattle.ocr_program_tree.specs.Tree.{Statement, Statements, Expression, Arguments, names_in}
use Rattle.ocr_body_meaning.specs.Behaviour.{Behaviour, Ends, Stops, Asks}
use Rattle.ocr_body_meaning.specs.Holds.{Holds, Access, Refused, Silent, Entered, load_of, store_of}
use Rattle.ocr_body_meaning.specs.Holds.{after_store, private_of, after_call}
use Rattle.ocr_body_meaning.specs.declared.call.BodyStop.TheVariants as stop
use Rattle.ocr_body_meaning.specs.declared.call.Answer.{Answer}
use Rattle.ocr_body_meaning.specs.declared.call.Call as calls
use Rattle.ocr_body_meaning.specs.declared.call.Call.TheVariants as call
use Rattle.ocr_program_tree.specs.declared.tree.CallName.{CallName}
use Rattle.ocr_program_tree.specs.declared.tree.CallName.TheVariants as name
use Rattle.ocr_program_tree.specs.declared.tree.UnaryOp.{UnaryOp}
use Rattle.ocr_program_tree.specs.declared.tree.UnaryOp.TheVariants as unary
use Rattle.ocr_program_tree.specs.declared.tree.BinaryOp.{BinaryOp}
use Rattle.ocr_program_tree.specs.declared.tree.BinaryOp.TheVariants as binary

-- what a body knows of itself that does not change: what it was given, and the numbers of the
-- program's functions by their names
pub record Frame : Type 0 where
  pub params : List ℕ
  pub depv : List ℕ
  pub function_of : List ℕ → ℕ

-- what it keeps: the fuel that is left, the code of its last call that has codes, its variables by
-- their names, and what its EDT holds
pub record State : Type 0 where
  pub fuel : ℕ
  pub code : ℕ
  pub variables : List ℕ → ℕ
  pub holds : Holds

-- before a body began: its fuel, no call, every variable 0, and what its EDT holds
abbrev pub fresh_state : ℕ → Holds → State
fresh_state fuel holds = record { fuel = fuel; code = 0; variables = λ x. 0; holds = holds }

-- goes on with a value
abbrev pub Value : Type 0
Value = ℕ → State → Behaviour

-- one unit of fuel
abbrev pub spend : State → (State → Behaviour) → Behaviour
spend st k = elim st.fuel as (λ _. Behaviour) [
  | zero ↦ Stops stop.Fuel
  | suc n ↦ k (record { fuel = n; code = st.code; variables = st.variables; holds = st.holds })
]

-- a variable gets a value
abbrev pub with_variable : List ℕ → ℕ → State → State
with_variable x v st = record {
  fuel = st.fuel;
  code = st.code;
  variables = λ y. if bytes_eq x y then v else st.variables y;
  holds = st.holds;
}

abbrev pub with_holds : Holds → State → State
with_holds holds st =
    record { fuel = st.fuel; code = st.code; variables = st.variables; holds = holds }

-- 1 for what holds
abbrev pub truth : Bool → ℕ
truth b = if b then 1 else 0

abbrev pub unary_value : UnaryOp → ℕ → ℕ
unary_value unary.Not x = truth (x == 0)
unary_value unary.Invert x = 2 ^ 64 - 1 - x
unary_value unary.Minus x = (2 ^ 64 - x) % 2 ^ 64

-- quotients and remainders, or the fault of a divisor 0
abbrev pub quotient_step : (ℕ → ℕ → ℕ) → ℕ → ℕ → (ℕ → Behaviour) → Behaviour
quotient_step by x y k = if y == 0 then Stops stop.ZeroDivisor else k (by x y)

abbrev pub binary_step : BinaryOp → ℕ → ℕ → (ℕ → Behaviour) → Behaviour
binary_step binary.Or x y k = k (bit_or x y)
binary_step binary.Xor x y k = k (bit_xor x y)
binary_step binary.And x y k = k (bit_and x y)
binary_step binary.Eq x y k = k (truth (x == y))
binary_step binary.Ne x y k = k (if x == y then 0 else 1)
binary_step binary.Lt x y k = k (truth (nat_lt x y))
binary_step binary.Le x y k = k (truth (nat_le x y))
binary_step binary.Gt x y k = k (truth (nat_lt y x))
binary_step binary.Ge x y k = k (truth (nat_le y x))
binary_step binary.Shl x y k = k ((x * 2 ^ (y % 64)) % 2 ^ 64)
binary_step binary.Shr x y k = k (x / 2 ^ (y % 64))
binary_step binary.Add x y k = k ((x + y) % 2 ^ 64)
binary_step binary.Sub x y k = k ((x + 2 ^ 64 - y) % 2 ^ 64)
binary_step binary.Mul x y k = k ((x * y) % 2 ^ 64)
binary_step binary.Div x y k = quotient_step (λ a b. a / b) x y k
binary_step binary.Rem x y k = quotient_step (λ a b. a % b) x y k

-- a word of a list, or the fault of an index past its end
abbrev pub element_step : List ℕ → ℕ → State → Value → Behaviour
element_step words i st k =
    if nat_lt i (length words) then k (slice_index words i) st else Stops stop.BadIndex

-- what the arguments of a call were found to be: its values and its lists of values, each in the
-- order of the text
pub record Given : Type 0 where
  pub values : List ℕ
  pub lists : List (List ℕ)

abbrev pub nothing_given : Given
nothing_given = record { values = []; lists = [] }

abbrev pub with_value : Given → ℕ → Given
with_value g v = record { values = g.values ++ v ∷ []; lists = g.lists }

abbrev pub with_list : Given → List ℕ → Given
with_list g l = record { values = g.values; lists = g.lists ++ l ∷ [] }

-- the value, or the list of values, at a place
abbrev pub value : Given → ℕ → ℕ
value g i = slice_index g.values i

abbrev pub values : Given → ℕ → List ℕ
values g i = slice_index_or g.lists i []

abbrev pub is_output : List (List ℕ) → Bool
is_output [] = false
is_output (x ∷ rest) = true

-- the variables get the output event of an answer
abbrev pub with_output : List (List ℕ) → ℕ → State → State
with_output [] event st = st
with_output (x ∷ rest) event st = with_variable x event st

-- after an answer: its code, the variable after `&`, and the holds
abbrev pub state_after_answer : calls.Call → List (List ℕ) → Answer → State → State
state_after_answer made outputs a st =
    with_output
    outputs
    a.output
    (record {
      fuel = st.fuel;
      code = number_of a.code;
      variables = st.variables;
      holds = after_call made a st.holds;
    })

-- makes a call that has codes, and goes on with the value of its answer
abbrev pub coded_call : calls.Call → List (List ℕ) → State → Value → Behaviour
coded_call made outputs st k =
    Asks made (private_of made st.holds) (λ a. k a.value (state_after_answer made outputs a st))

-- a load or a store, after which the state is so
abbrev pub access_step : Access → calls.Call → State → Value → Behaviour
access_step (Refused s) made now k = Stops s
access_step (Silent v) made now k = k v now
access_step Entered made now k = Asks made [] (λ a. k a.value now)

abbrev pub load_step : (block word : ℕ) → State → Value → Behaviour
load_step d w st k = access_step (load_of (st.holds d) w) (call.Load d w) st k

-- a store has the value 0
abbrev pub store_step : (block word value : ℕ) → State → Value → Behaviour
store_step d w v st k =
    access_step
    (store_of (st.holds d) w)
    (call.Store d w v)
    (with_holds (after_store (store_of (st.holds d) w) d w v st.holds) st)
    (λ _ now. k 0 now)

-- THE FORMS of the calls, one line a name: the call with these values and lists, where a function's
-- name or a variable after `&` stands among the arguments
abbrev pub function_in : Frame → Arguments → ℕ
function_in f xs = f.function_of (slice_index_or (names_in xs) 0 [])

abbrev pub call_of : Frame → CallName → Arguments → Given → calls.Call
call_of f name.DbCreate xs g = call.DbCreate (value g 0) (value g 1)
call_of f name.DbRelease xs g = call.DbRelease (value g 0)
call_of f name.DbDestroy xs g = call.DbDestroy (value g 0)
call_of f name.EventCreate xs g = call.EventCreate (value g 0) (value g 1)
call_of f name.EventCreateParams xs g =
    call.EventCreateParams (value g 0) (value g 1) (value g 2) (value g 3) (value g 4)
call_of f name.EventDestroy xs g = call.EventDestroy (value g 0)
call_of f name.Satisfy xs g = call.Satisfy (value g 0) (value g 1) 0
call_of f name.SatisfySlot xs g = call.Satisfy (value g 0) (value g 1) (value g 2)
call_of f name.AddDependence xs g =
    call.AddDependence (value g 0) (value g 1) (value g 2) (value g 3)
call_of f name.TemplateCreate xs g =
    call.TemplateCreate (function_in f xs) (value g 0) (value g 1)
call_of f name.TemplateDestroy xs g = call.TemplateDestroy (value g 0)
call_of f name.EdtCreate xs g =
    call.EdtCreate
    (value g 0)
    (value g 1)
    (values g 0)
    (value g 2)
    (values g 1)
    (value g 3)
    (is_output (names_in xs))
call_of f name.Shutdown xs g = call.Shutdown
call_of f name.Abort xs g = call.Abort (value g 0)
call_of f name.Load xs g = call.Load (value g 0) (value g 1)
call_of f name.Store xs g = call.Store (value g 0) (value g 1) (value g 2)

-- the variable that a call sets to its output event
abbrev pub outputs_of : CallName → Arguments → List (List ℕ)
outputs_of name.EdtCreate xs = names_in xs
outputs_of other xs = []

-- what a call does: two end the run, a load or store goes by the hold, and all others have codes
abbrev pub made_step : calls.Call → List (List ℕ) → State → Value → Behaviour
made_step call.Shutdown outputs st k = Stops stop.Shutdown
made_step (call.Abort code) outputs st k = Stops (stop.Abort code)
made_step (call.Load d w) outputs st k = load_step d w st k
made_step (call.Store d w v) outputs st k = store_step d w v st k
made_step other outputs st k = coded_call other outputs st k

abbrev pub call_step : Frame → CallName → Arguments → Given → State → Value → Behaviour
call_step f made xs g st k = made_step (call_of f made xs g) (outputs_of made xs) st k

abbrev mutual
  -- an expression, each node of which spends a unit of fuel
  pub eval : Frame → Expression → State → Value → Behaviour
  eval f (tree.Number n) st k = spend st (λ st. k n st)
  eval f (tree.Named c) st k = spend st (λ st. k (value_of c) st)
  eval f (tree.Var x) st k = spend st (λ st. k (st.variables x) st)
  eval f tree.Paramc st k = spend st (λ st. k (length f.params) st)
  eval f tree.Depc st k = spend st (λ st. k (length f.depv) st)
  eval f tree.LastCode st k = spend st (λ st. k st.code st)
  eval f (tree.Paramv e) st k = spend st (λ st. eval f e st (λ i st. element_step f.params i st k))
  eval f (tree.Depv e) st k = spend st (λ st. eval f e st (λ i st. element_step f.depv i st k))
  eval f (tree.Unary o e) st k = spend st (λ st. eval f e st (λ x st. k (unary_value o x) st))
  eval f (tree.Binary o a b) st k =
      spend st (λ st. eval f a st (λ x st. eval f b st (λ y st. binary_step o x y (λ v. k v st))))
  eval f (tree.Invoked made xs) st k =
      spend st (λ st. eval_all f xs nothing_given st (λ g st. call_step f made xs g st k))

  -- the arguments of a call, from left to right, after what was found of those before. A name is no
  -- node
  pub eval_all : Frame → Arguments → Given → State → (Given → State → Behaviour) → Behaviour
  eval_all f tree.empty g st k = k g st
  eval_all f (tree.value e rest) g st k =
      eval f e st (λ v st. eval_all f rest (with_value g v) st k)
  eval_all f (tree.list es rest) g st k =
      eval_all f es nothing_given st (λ of st. eval_all f rest (with_list g of.values) st k)
  eval_all f (tree.named x rest) g st k = eval_all f rest g st k

-- a call, which is a node
abbrev pub invoke : Frame → CallName → Arguments → State → Value → Behaviour
invoke f made xs st k =
    spend st (λ st. eval_all f xs nothing_given st (λ g st. call_step f made xs g st k))

-- at most so many turns of a loop, each of which spends a unit of fuel for its test
abbrev pub turns : ℕ → (State → Value → Behaviour) → (State → (State → Behaviour) → Behaviour)
    → State → (State → Behaviour) → Behaviour
turns zero test body st k = Stops stop.Fuel
turns (suc n) test body st k =
    spend st (λ st. test st (λ v st.
    if v == 0 then k st else body st (λ st. turns n test body st k)))

-- prints a value
abbrev pub print_step : ℕ → State → (State → Behaviour) → Behaviour
print_step v st k = Asks (call.Print v) [] (λ _. k st)

abbrev mutual
  -- a statement. Each but a loop spends a unit of fuel
  pub exec : Frame → Statement → State → (State → Behaviour) → Behaviour
  exec f (tree.Let x e) st k = spend st (λ st. eval f e st (λ v st. k (with_variable x v st)))
  exec f (tree.Assign x e) st k = spend st (λ st. eval f e st (λ v st. k (with_variable x v st)))
  exec f (tree.If e first second) st k =
      spend st (λ st. eval f e st (λ v st.
      if v == 0 then exec_all f second st k else exec_all f first st k))
  exec f (tree.While e body) st k = turns (suc st.fuel) (eval f e) (exec_all f body) st k
  exec f (tree.Print e) st k = spend st (λ st. eval f e st (λ v st. print_step v st k))
  exec f (tree.Return e) st k = spend st (λ st. eval f e st (λ v st. Ends v st.holds))
  exec f (tree.Do made xs) st k = spend st (λ st. invoke f made xs st (λ v st. k st))

  pub exec_all : Frame → Statements → State → (State → Behaviour) → Behaviour
  exec_all f tree.nothing st k = k st
  exec_all f (tree.statement s rest) st k = exec f s st (λ st. exec_all f rest st k)
