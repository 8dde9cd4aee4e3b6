-- Operators between leaves, dependences by their numbers, and the operands of loads and stores.
use Rattle.std.proofs.Common.{◌≡◌, ◌<◌, ◌≤◌, ◌-◌, ℕ, zero, suc, List, length, slice_index, Bool, if◌then◌else◌, arith, refl, ap, sym, subst, ◌∙◌}
use Rattle.std.proofs.lemmas.Bool.{lt-ltb}
use Rattle.ocr_body_meaning.specs.Behaviour.{Behaviour, Stops}
use Rattle.ocr_body_steps.specs.Plain.{Leaves}
use Rattle.ocr_body_meaning.specs.Meaning.{Frame, State, Value, Given, nothing_given, with_value, eval, eval_all, invoke, call_step, unary_value, binary_step, spend, load_step, store_step}
use Rattle.ocr_program_tree.specs.Tree as tree
use Rattle.ocr_program_tree.specs.Tree.{Expression, Arguments}
use Rattle.ocr_program_tree.specs.declared.tree.BinaryOp.{BinaryOp}
use Rattle.ocr_program_tree.specs.declared.tree.UnaryOp.{UnaryOp}
use Rattle.ocr_body_meaning.specs.Holds.{Holds}
use Rattle.ocr_body_meaning.specs.declared.call.BodyStop.TheVariants as stop
use Rattle.ocr_program_tree.specs.declared.tree.CallName.{CallName}
use Rattle.ocr_program_tree.specs.declared.tree.CallName.TheVariants as name

pub joined_number : (f : Frame) (op : BinaryOp) (x : List ℕ) (n code : ℕ) (variables : List ℕ → ℕ) (fuel v : ℕ) → 3 ≤ fuel
    → ((k : ℕ → Behaviour) → binary_step op (variables x) n k ≡ k v) → Leaves f (tree.Binary op (tree.Var x) (tree.Number n)) code variables fuel v (fuel - 3)
joined_number f op x n code variables zero v le is = absurd (omega (arith, le))
joined_number f op x n code variables (suc zero) v le is = absurd (omega (arith, le))
joined_number f op x n code variables (suc (suc zero)) v le is = absurd (omega (arith, le))
joined_number f op x n code variables (suc (suc (suc m))) v le is =
    let left : m ≡ suc (suc (suc m)) - 3 = omega arith in
    λ holds k.
    is (λ w. k w (record { fuel = m; code = code; variables = variables; holds = holds }))
    ∙ (λ i. k v (record { fuel = left i; code = code; variables = variables; holds = holds }))

pub joined_variable : (f : Frame) (op : BinaryOp) (x y : List ℕ) (code : ℕ) (variables : List ℕ → ℕ) (fuel v : ℕ) → 3 ≤ fuel
    → ((k : ℕ → Behaviour) → binary_step op (variables x) (variables y) k ≡ k v) → Leaves f (tree.Binary op (tree.Var x) (tree.Var y)) code variables fuel v (fuel - 3)
joined_variable f op x y code variables zero v le is = absurd (omega (arith, le))
joined_variable f op x y code variables (suc zero) v le is = absurd (omega (arith, le))
joined_variable f op x y code variables (suc (suc zero)) v le is = absurd (omega (arith, le))
joined_variable f op x y code variables (suc (suc (suc m))) v le is =
    let left : m ≡ suc (suc (suc m)) - 3 = omega arith in
    λ holds k.
    is (λ w. k w (record { fuel = m; code = code; variables = variables; holds = holds }))
    ∙ (λ i. k v (record { fuel = left i; code = code; variables = variables; holds = holds }))

-- a dependence by its number
pub dependence_leaves : (f : Frame) (n code : ℕ) (variables : List ℕ → ℕ) (fuel v : ℕ) → 2 ≤ fuel → n < length f.depv → slice_index f.depv n ≡ v
    → Leaves f (tree.Depv (tree.Number n)) code variables fuel v (fuel - 2)
dependence_leaves f n code variables zero v le less is = absurd (omega (arith, le))
dependence_leaves f n code variables (suc zero) v le less is = absurd (omega (arith, le))
dependence_leaves f n code variables (suc (suc m)) v le less is =
    let left : m ≡ suc (suc m) - 2 = omega arith in
    λ holds k.
    ap (λ (b : Bool). if b then k (slice_index f.depv n) (record { fuel = m; code = code; variables = variables; holds = holds }) else Stops stop.BadIndex) (lt-ltb n (length f.depv) less)
    ∙ (λ i. k (is i) (record { fuel = left i; code = code; variables = variables; holds = holds }))

-- an operator before or between expressions that make no call
pub unary_leaves : (f : Frame) (op : UnaryOp) (e : Expression) (code : ℕ) (variables : List ℕ → ℕ) (fuel before x v left : ℕ) → fuel ≡ suc before
    → Leaves f e code variables before x left → v ≡ unary_value op x → Leaves f (tree.Unary op e) code variables fuel v left
unary_leaves f op e code variables fuel before x v left is_fuel found is =
    subst (λ (n : ℕ). Leaves f (tree.Unary op e) code variables n v left) (sym is_fuel) (λ holds k.
    found holds (λ x st. k (unary_value op x) st) ∙ (λ i. k (sym is i) (record { fuel = left; code = code; variables = variables; holds = holds })))

pub binary_leaves : (f : Frame) (op : BinaryOp) (a b : Expression) (code : ℕ) (variables : List ℕ → ℕ) (fuel before x middle y v left : ℕ) → fuel ≡ suc before
    → Leaves f a code variables before x middle → Leaves f b code variables middle y left → ((k : ℕ → Behaviour) → binary_step op x y k ≡ k v)
    → Leaves f (tree.Binary op a b) code variables fuel v left
binary_leaves f op a b code variables fuel before x middle y v left is_fuel first second is =
    subst (λ (n : ℕ). Leaves f (tree.Binary op a b) code variables n v left) (sym is_fuel) (λ holds k.
    first holds (λ x st. eval f b st (λ y st. binary_step op x y (λ v. k v st)))
    ∙ second holds (λ y st. binary_step op x y (λ v. k v st))
    ∙ is (λ v. k v (record { fuel = left; code = code; variables = variables; holds = holds })))

-- a load whose operands make no call comes to the load of their values
pub load_leaves : (f : Frame) (d w : Expression) (code : ℕ) (variables : List ℕ → ℕ) (fuel before x middle y left : ℕ) → fuel ≡ suc before
    → Leaves f d code variables before x middle → Leaves f w code variables middle y left → (holds : Holds) (k : Value)
    → invoke f name.Load (tree.value d (tree.value w tree.empty)) (record { fuel = fuel; code = code; variables = variables; holds = holds }) k
    ≡ load_step x y (record { fuel = left; code = code; variables = variables; holds = holds }) k
load_leaves f d w code variables fuel before x middle y left is_fuel first second holds k =
    let made : Given → State → Behaviour = λ g st. call_step f name.Load (tree.value d (tree.value w tree.empty)) g st k in
    let given : Given = with_value nothing_given x in
    (λ i. invoke f name.Load (tree.value d (tree.value w tree.empty)) (record { fuel = is_fuel i; code = code; variables = variables; holds = holds }) k)
    ∙ first holds (λ x st. eval_all f (tree.value w tree.empty) (with_value nothing_given x) st made)
    ∙ second holds (λ y st. eval_all f tree.empty (with_value given y) st made)

-- and a store to the store of their values
pub store_leaves : (f : Frame) (d w e : Expression) (code : ℕ) (variables : List ℕ → ℕ) (fuel before x first_left y second_left v left : ℕ) → fuel ≡ suc before
    → Leaves f d code variables before x first_left → Leaves f w code variables first_left y second_left → Leaves f e code variables second_left v left → (holds : Holds) (k : Value)
    → invoke f name.Store (tree.value d (tree.value w (tree.value e tree.empty))) (record { fuel = fuel; code = code; variables = variables; holds = holds }) k
    ≡ store_step x y v (record { fuel = left; code = code; variables = variables; holds = holds }) k
store_leaves f d w e code variables fuel before x first_left y second_left v left is_fuel first second third holds k =
    let xs = tree.value d (tree.value w (tree.value e tree.empty)) in
    let made : Given → State → Behaviour = λ g st. call_step f name.Store xs g st k in
    let one : Given = with_value nothing_given x in
    let two : Given = with_value one y in
    (λ i. invoke f name.Store xs (record { fuel = is_fuel i; code = code; variables = variables; holds = holds }) k)
    ∙ first holds (λ x st. eval_all f (tree.value w (tree.value e tree.empty)) (with_value nothing_given x) st made)
    ∙ second holds (λ y st. eval_all f (tree.value e tree.empty) (with_value one y) st made)
    ∙ third holds (λ v st. eval_all f tree.empty (with_value two v) st made)

-- a call that is another comes to what the other comes to
pub invoke_alike : (f : Frame) (made other : CallName) (xs ys : Arguments) (st : State) (part : Value → Behaviour) → made ≡ other → xs ≡ ys → ((k : Value) → invoke f other ys st k ≡ part k)
    → (k : Value) → invoke f made xs st k ≡ part k
invoke_alike f made other xs ys st part is same alike k = (λ i. invoke f (is i) (same i) st k) ∙ alike k

-- a unit that is not there
pub spend_stopped : (st : State) (k : State → Behaviour) → st.fuel ≡ 0 → spend st k ≡ Stops stop.Fuel
spend_stopped st k none = rw none refl
