-- What holds of a step of a body once it holds of all that the step can come to.
use Rattle.std.proofs.Common.{◌≡◌, ◌/◌, ◌%◌, ◌==◌, ℕ, zero, suc, List, [], ◌∷◌, Option, Some, None, length, nat_lt, refl}
use Rattle.std.specs.Prelude.{slice_index}
use Rattle.std.proofs.lemmas.Bool.{cond_both}
use Rattle.ocr_body_meaning.specs.Behaviour.{Behaviour, Stops, Asks}
use Rattle.ocr_body_meaning.specs.Holds.{Hold, Holds, Access, Refused, Silent, Entered, word_of, load_of, store_of, with_hold, with_write, after_store}
use Rattle.ocr_acquire.specs.Mode.{is_isolated, is_writable}
use Rattle.ocr_body_meaning.specs.Meaning.{State, Value, spend, quotient_step, binary_step, element_step, access_step, load_step, store_step, with_holds, state_after_answer}
use Rattle.ocr_body_meaning.specs.declared.call.Answer.{Answer}
use Rattle.ocr_body_meaning.specs.declared.call.BodyStop.TheVariants as stop
use Rattle.ocr_body_meaning.specs.declared.call.Call.{Call}
use Rattle.ocr_body_meaning.specs.declared.call.Call.TheVariants as call
use Rattle.ocr_program_tree.specs.declared.tree.BinaryOp.{BinaryOp}
use Rattle.ocr_program_tree.specs.declared.tree.BinaryOp.TheVariants as binary

spend_case_at : (P : Behaviour → Type 0) (fuel code : ℕ) (variables : List ℕ → ℕ) (holds : Holds) (k : State → Behaviour) → P (Stops stop.Fuel)
    → ((left : ℕ) → suc left ≡ fuel → P (k (record { fuel = left; code = code; variables = variables; holds = holds })))
    → P (spend (record { fuel = fuel; code = code; variables = variables; holds = holds }) k)
spend_case_at P zero code variables holds k out rest = out
spend_case_at P (suc left) code variables holds k out rest = rest left refl

-- a unit of fuel
pub spend_case : (P : Behaviour → Type 0) (st : State) (k : State → Behaviour) → P (Stops stop.Fuel)
    → ((left : ℕ) → suc left ≡ st.fuel → P (k (record { fuel = left; code = st.code; variables = st.variables; holds = st.holds })))
    → P (spend st k)
spend_case P st k out rest = spend_case_at P st.fuel st.code st.variables st.holds k out rest

quotient_case : (P : Behaviour → Type 0) (by : ℕ → ℕ → ℕ) (x y : ℕ) (k : ℕ → Behaviour) → P (Stops stop.ZeroDivisor) → ((v : ℕ) → P (k v)) → P (quotient_step by x y k)
quotient_case P by x y k out rest = cond_both (y == 0) _ _ P (λ none. out) (λ some. rest (by x y))

pub binary_case : (P : Behaviour → Type 0) (o : BinaryOp) (x y : ℕ) (k : ℕ → Behaviour) → P (Stops stop.ZeroDivisor) → ((v : ℕ) → P (k v)) → P (binary_step o x y k)
binary_case P binary.Div x y k out rest = quotient_case P (λ a b. a / b) x y k out rest
binary_case P binary.Rem x y k out rest = quotient_case P (λ a b. a % b) x y k out rest
binary_case P other x y k out rest = rest _

-- a word of a list
pub element_case : (P : Behaviour → Type 0) (words : List ℕ) (i : ℕ) (st : State) (k : Value) → P (Stops stop.BadIndex) → P (k (slice_index words i) st) → P (element_step words i st k)
element_case P words i st k out rest = cond_both (nat_lt i (length words)) _ _ P (λ within. rest) (λ beyond. out)

load_of_case : (A : Access → Type 0) (o : Option Hold) (w : ℕ) → A (Refused stop.NotHeld) → A (Refused stop.BadIndex)
    → ((h : Hold) → o ≡ Some h → A (Silent (word_of h w))) → A Entered → A (load_of o w)
load_of_case A None w no_hold no_word silent entered = no_hold
load_of_case A (Some h) w no_hold no_word silent entered =
    cond_both (nat_lt w h.size) _ _ A
    (λ within. cond_both (is_isolated h.mode) _ _ A (λ alone. silent h refl) (λ shared. entered)) (λ beyond. no_word)

store_of_case : (A : Access → Type 0) (o : Option Hold) (w : ℕ) → A (Refused stop.NotHeld) → A (Refused stop.NotWritable) → A (Refused stop.BadIndex)
    → A (Silent 0) → A Entered → A (store_of o w)
store_of_case A None w no_hold no_store no_word silent entered = no_hold
store_of_case A (Some h) w no_hold no_store no_word silent entered =
    cond_both (is_writable h.mode) _ _ A
    (λ may. cond_both (nat_lt w h.size) _ _ A (λ within. cond_both (is_isolated h.mode) _ _ A (λ alone. silent) (λ shared. entered)) (λ beyond. no_word)) (λ may_not. no_store)

pub load_case : (P : Behaviour → Type 0) (d w : ℕ) (st : State) (k : Value) → P (Stops stop.NotHeld) → P (Stops stop.BadIndex)
    → ((h : Hold) → st.holds d ≡ Some h → P (k (word_of h w) st)) → P (Asks (call.Load d w) [] (λ a. k a.value st)) → P (load_step d w st k)
load_case P d w st k no_hold no_word silent entered =
    load_of_case (λ found. P (access_step found (call.Load d w) st k)) (st.holds d) w no_hold no_word silent entered

pub store_case : (P : Behaviour → Type 0) (d w v : ℕ) (st : State) (k : Value) → P (Stops stop.NotHeld) → P (Stops stop.NotWritable) → P (Stops stop.BadIndex)
    → P (k 0 (with_holds (with_hold d (with_write w v (st.holds d)) st.holds) st)) → P (Asks (call.Store d w v) [] (λ a. k 0 st)) → P (store_step d w v st k)
store_case P d w v st k no_hold no_store no_word silent entered =
    store_of_case
    (λ found. P (access_step found (call.Store d w v) (with_holds (after_store found d w v st.holds) st) (λ _ now. k 0 now)))
    (st.holds d) w no_hold no_store no_word silent entered

pub fuel_after_answer : (made : Call) (outputs : List (List ℕ)) (a : Answer) (st : State) → (state_after_answer made outputs a st).fuel ≡ st.fuel
fuel_after_answer made [] a st = refl
fuel_after_answer made (x ∷ rest) a st = refl
