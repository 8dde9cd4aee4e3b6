-- What a statement does once the value of its expression is found.
use Rattle.std.proofs.Common.{◌≡◌, ◌∙◌, ◌==◌, ◌⊎◌, inl, inr, ℕ, List, Bool, ap, sym, if◌then◌else◌, Result, Ok, Err, IfOk, refl}
use Rattle.std.proofs.lemmas.Bool.{ne_eqb}
use Rattle.ocr_body_meaning.specs.Behaviour.{Behaviour, Asked, Ends}
use Rattle.ocr_body_meaning.specs.Body.{Body, says}
use Rattle.ocr_body_meaning.specs.Meaning.{Frame, State, Value, spend, eval, exec, exec_all, print_step, with_variable}
use Rattle.ocr_program_tree.specs.Tree.{Statements}
use Rattle.ocr_body_code.specs.Code.{name_at, expression_at, statement_at}
use Rattle.ocr_body_code.specs.declared.code.ExprCode.{ExprCode}
use Rattle.ocr_body_code.specs.declared.code.StmtCode.{StmtCode}
use Rattle.ocr_body_code.specs.declared.code.StmtCode.TheVariants as step
use Rattle.ocr_body_steps.specs.declared.local.Flow.{Flow}
use Rattle.ocr_body_steps.specs.declared.local.Flow.TheVariants.{Next, Returned}
use Rattle.ocr_body_steps.specs.declared.local.Halt.{Halt}
use Rattle.ocr_body.specs.Walker.{Flows}

-- what comes after the value of an assignment, of a test, of a print and of a return
abbrev pub assigned : List ℕ → (State → Behaviour) → Value
assigned x k v st = k (with_variable x v st)

abbrev pub chosen : Frame → (first second : Statements) → (State → Behaviour) → Value
chosen f first second k v st = if v == 0 then exec_all f second st k else exec_all f first st k

abbrev pub printed : (State → Behaviour) → Value
printed k v st = print_step v st k

abbrev pub returned : Value
returned v st = Ends v st.holds

-- an assignment, be it the first or a later one
pub assigns : (f : Frame) (names : List (List ℕ)) (s : StmtCode) (place : ℕ) (e : ExprCode) (st : State) (k : State → Behaviour) → (s ≡ step.Let place e) ⊎ (s ≡ step.Assign place e)
    → exec f (statement_at names s) st k ≡ spend st (λ st. eval f (expression_at names e) st (assigned (name_at names place) k))
assigns f names s place e st k (inl is) = ap (λ (s : StmtCode). exec f (statement_at names s) st k) is
assigns f names s place e st k (inr is) = ap (λ (s : StmtCode). exec f (statement_at names s) st k) is

pub chosen_second : (f : Frame) (first second : Statements) (k : State → Behaviour) (v : ℕ) (st : State) → v ≡ 0 → chosen f first second k v st ≡ exec_all f second st k
chosen_second f first second k v st is = rw is refl

pub chosen_first : (f : Frame) (first second : Statements) (k : State → Behaviour) (v : ℕ) (st : State) → (v ≡ 0 → ⊥) → chosen f first second k v st ≡ exec_all f first st k
chosen_first f first second k v st not = ap (λ (b : Bool). if b then exec_all f second st k else exec_all f first st k) (ne_eqb v 0 not)

-- a part that comes to another flows as the other
pub flows_after : (b c : Body) (log0 log1 log2 : List Asked) (part other : (State → Behaviour) → Behaviour) (g : ℕ) (st : State) (r : Result Flow Halt) → c ≡ b
    → ((k : State → Behaviour) → says b log0 ≡ part k → says b log1 ≡ other k) → IfOk r (λ flow. Flows (says c log1) other flow g st (says c log2)) → IfOk r (λ flow. Flows (says b log0) part flow g st (says b log2))
flows_after b c log0 log1 log2 part other g st (Ok Next) same on flows = λ k was. ap (λ (s : Body). says s log2) (sym same) ∙ flows k (ap (λ (s : Body). says s log1) same ∙ on k was)
flows_after b c log0 log1 log2 part other g st (Ok Returned) same on flows = ap (λ (s : Body). says s log2) (sym same) ∙ flows
flows_after b c log0 log1 log2 part other g st (Err e) same on flows = flows
