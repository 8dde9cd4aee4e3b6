-- The words of the walker's contracts: which part of a body was done.
use Rattle.std.specs.Prelude.{◌≡◌, ℕ, List, Bool}
use Rattle.ocr_program_tree.specs.Tree.{While}
use Rattle.ocr_program_tree.specs.declared.tree.CallName.{CallName}
use Rattle.ocr_body_meaning.specs.Behaviour.{Behaviour, Ends}
use Rattle.ocr_body_meaning.specs.Holds.{Holds}
use Rattle.ocr_body_meaning.specs.Meaning.{State, Value, Given}
use Rattle.ocr_body_meaning.specs.Meaning as meaning
use Rattle.ocr_body_code.specs.Code.{is_call_placed, is_step_placed, are_placed}
use Rattle.ocr_body_code.specs.Code.{call_name, call_arguments, arguments_at}
use Rattle.ocr_body_code.specs.Code.{expression_at, statement_at, statements_in}
use Rattle.ocr_body_code.specs.declared.code.ArgCode.{ArgCode}
use Rattle.ocr_body_code.specs.declared.code.CallCode.{CallCode}
use Rattle.ocr_body_code.specs.declared.code.ExprCode.{ExprCode}
use Rattle.ocr_body_code.specs.declared.code.StmtCode.{StmtCode}
use Rattle.ocr_body_steps.specs.Given.{given_of}
use Rattle.ocr_body_steps.specs.Local.{state_in, frame_of, numbers_of}
use Rattle.ocr_body_steps.specs.declared.given.Given as found
use Rattle.ocr_body_steps.specs.declared.local.Flow.{Flow}
use Rattle.ocr_body_steps.specs.declared.local.Flow.TheVariants.{Next, Returned}
use Rattle.ocr_body_steps.specs.declared.local.Frame as walker
use Rattle.ocr_body_steps.specs.declared.local.Local.{Local}
use Rattle.ocr_body_steps.specs.Api.{IsDone}
use Rattle.ocr_body_steps.specs.Steps.{next_of, next_after}
use Rattle.ocr_body_steps.specs.declared.api.Api.{Ghosts}

-- code over the names of this body and the functions of its program
abbrev pub is_call_in : walker.Frame → CallCode → Bool
is_call_in f c = is_call_placed (numbers_of f) f.names.now c

abbrev pub is_stmt_in : walker.Frame → StmtCode → Bool
is_stmt_in f s = is_step_placed (numbers_of f) f.names.now s

abbrev pub are_stmts_in : walker.Frame → List StmtCode → Bool
are_stmts_in f ss = are_placed (numbers_of f) f.names.now ss

-- the parts of the body, from this state on: an expression, an expression after a unit of fuel, a
-- call, arguments, a list among them, a statement, statements, and a loop
abbrev pub expr_part : walker.Frame → ExprCode → Holds → Local → (Value → Behaviour)
expr_part f e holds l =
    meaning.eval (frame_of f) (expression_at f.names.now e) (state_in f holds l)

abbrev pub paid_part : walker.Frame → ExprCode → Holds → Local → (Value → Behaviour)
paid_part f e holds l k = meaning.spend (state_in f holds l) (λ st.
    meaning.eval (frame_of f) (expression_at f.names.now e) st k)

abbrev pub call_part : walker.Frame → CallCode → Holds → Local → (Value → Behaviour)
call_part f c holds l =
    meaning.invoke
    (frame_of f)
    (call_name c)
    (call_arguments f.names.now c)
    (state_in f holds l)

abbrev pub coded_part : walker.Frame → CallName → ArgCode → Holds → Local → (Value → Behaviour)
coded_part f name args holds l =
    meaning.invoke (frame_of f) name (arguments_at f.names.now args) (state_in f holds l)

abbrev pub args_part : walker.Frame → ArgCode → found.Given → Holds → Local
    → ((Given → State → Behaviour) → Behaviour)
args_part f args g holds l =
    meaning.eval_all (frame_of f) (arguments_at f.names.now args) (given_of g) (state_in f holds l)

abbrev pub list_part : walker.Frame → ArgCode → Holds → Local
    → ((Given → State → Behaviour) → Behaviour)
list_part f list holds l =
    meaning.eval_all
    (frame_of f)
    (arguments_at f.names.now list)
    meaning.nothing_given
    (state_in f holds l)

abbrev pub stmt_part : walker.Frame → StmtCode → Holds → Local
    → ((State → Behaviour) → Behaviour)
stmt_part f s holds l =
    meaning.exec (frame_of f) (statement_at f.names.now s) (state_in f holds l)

abbrev pub stmts_part : walker.Frame → List StmtCode → Holds → Local
    → ((State → Behaviour) → Behaviour)
stmts_part f ss holds l =
    meaning.exec_all (frame_of f) (statements_in f.names.now ss) (state_in f holds l)

abbrev pub loop_part : walker.Frame → ExprCode → List StmtCode → Holds → Local
    → ((State → Behaviour) → Behaviour)
loop_part f test body holds l =
    meaning.exec
    (frame_of f)
    (While (expression_at f.names.now test) (statements_in f.names.now body))
    (state_in f holds l)

-- statements were done, or ended the body, which returned this
abbrev pub Flows : Behaviour → ((State → Behaviour) → Behaviour) → Flow → ℕ → State → Behaviour
    → Type 0
Flows before part Next g st now = IsDone before part st now
Flows before part Returned g st now = now ≡ Ends g st.holds

-- these statements were done, and left this state, or ended the body, which returned what is kept
abbrev pub Leads : {A K : Type 0} → Ghosts A K → A → A → ((State → Behaviour) → Behaviour) → Flow
    → walker.Frame → Local → Type 0
Leads g before now part flow f l =
    Flows
    (next_of g before)
    part
    flow
    l.returned
    (state_in f (g.holds now) l)
    (next_after g before now)
