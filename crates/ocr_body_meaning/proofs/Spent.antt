-- Each call of a body costs fuel.
use Rattle.std.proofs.Common.{◌≤◌, ◌+◌, ◌==◌, ℕ, zero, suc, List, [], ◌∷◌, length, arith}
use Rattle.std.proofs.lemmas.Bool.{cond_both}
use Rattle.ocr_program_tree.specs.Constant.{value_of}
use Rattle.ocr_program_tree.specs.Functions.{statements_at, numbers_in}
use Rattle.ocr_program_tree.specs.Tree as tree
use Rattle.ocr_program_tree.specs.Tree.{Expression, Arguments, Statement, Statements}
use Rattle.ocr_body_meaning.specs.Behaviour.{Behaviour, Ends, Stops, Asks, Asked, after, after_answer, IsNext, IsTrace}
use Rattle.ocr_body_meaning.specs.Body.{behaviour}
use Rattle.ocr_body_meaning.specs.Laws.{FuelLaw}
use Rattle.ocr_body_meaning.specs.Meaning.{Frame, State, Value, Given, nothing_given, with_value, with_list, state_after_answer, spend, with_variable, unary_value, call_of, outputs_of, made_step, eval, eval_all, turns, print_step, exec, exec_all}
use Rattle.ocr_body_meaning.specs.declared.call.Answer.{Answer}
use Rattle.ocr_body_meaning.specs.declared.call.Call.{Call}
use Rattle.ocr_body_meaning.specs.declared.call.Call.TheVariants as call
use Rattle.ocr_body_meaning.proofs.Steps.{spend_case, binary_case, element_case, load_case, store_case, fuel_after_answer}

-- at most so many calls come
abbrev AtMost : ℕ → Behaviour → Type 0
AtMost n (Ends g holds) = Unit {0}
AtMost n (Stops s) = Unit {0}
AtMost n (Asks made writes next) = (m : ℕ) × (suc m ≤ n) × ((a : Answer) → AtMost m (next a))

more : (n m : ℕ) (b : Behaviour) → n ≤ m → AtMost n b → AtMost m b
more n m (Ends g holds) le most = tt
more n m (Stops s) le most = tt
more n m (Asks made writes next) le most = (most.0, omega (arith, le, most.1), most.2)

-- a unit of fuel is a call more that may come
spent_most : (c : ℕ) (st : State) (k : State → Behaviour) → ((now : State) → AtMost (now.fuel + suc c) (k now)) → AtMost (st.fuel + c) (spend st k)
spent_most c st k rest = spend_case (AtMost (st.fuel + c)) st k tt (λ left one. more (left + suc c) (st.fuel + c) _ (omega (arith, one)) (rest _))

less : (n c : ℕ) (b : Behaviour) → AtMost (n + c) b → AtMost (n + suc c) b
less n c b most = more (n + c) (n + suc c) b (omega arith) most

coded_most : (made : Call) (outputs : List (List ℕ)) (a : Answer) (c : ℕ) (st : State) (k : Value) → ((v : ℕ) (st : State) → AtMost (st.fuel + c) (k v st))
    → AtMost (st.fuel + c) (k a.value (state_after_answer made outputs a st))
coded_most made outputs a c st k rest =
    more ((state_after_answer made outputs a st).fuel + c) (st.fuel + c) _ (omega (arith, fuel_after_answer made outputs a st)) (rest a.value (state_after_answer made outputs a st))

made_most : (made : Call) (outputs : List (List ℕ)) (c : ℕ) (st : State) (k : Value) → ((v : ℕ) (st : State) → AtMost (st.fuel + c) (k v st))
    → AtMost (st.fuel + suc c) (made_step made outputs st k)
made_most call.Shutdown outputs c st k rest = tt
made_most (call.Abort code) outputs c st k rest = tt
made_most (call.Load d w) outputs c st k rest =
    load_case (AtMost (st.fuel + suc c)) d w st k tt tt (λ h is. less st.fuel c _ (rest _ st)) (st.fuel + c, omega arith, λ a. rest a.value st)
made_most (call.Store d w v) outputs c st k rest =
    store_case (AtMost (st.fuel + suc c)) d w v st k tt tt tt (less st.fuel c _ (rest 0 _)) (st.fuel + c, omega arith, λ a. rest 0 st)
made_most other outputs c st k rest = (st.fuel + c, omega arith, λ a. coded_most other outputs a c st k rest)

mutual
  eval_most : (f : Frame) (e : Expression) (c : ℕ) (st : State) (k : Value) → ((v : ℕ) (st : State) → AtMost (st.fuel + c) (k v st)) → AtMost (st.fuel + c) (eval f e st k)
  eval_most f (tree.Number n) c st k rest = spent_most c st _ (λ st. less st.fuel c _ (rest n st))
  eval_most f (tree.Named n) c st k rest = spent_most c st _ (λ st. less st.fuel c _ (rest (value_of n) st))
  eval_most f (tree.Var x) c st k rest = spent_most c st _ (λ st. less st.fuel c _ (rest (st.variables x) st))
  eval_most f tree.Paramc c st k rest = spent_most c st _ (λ st. less st.fuel c _ (rest (length f.params) st))
  eval_most f tree.Depc c st k rest = spent_most c st _ (λ st. less st.fuel c _ (rest (length f.depv) st))
  eval_most f tree.LastCode c st k rest = spent_most c st _ (λ st. less st.fuel c _ (rest st.code st))
  eval_most f (tree.Paramv e) c st k rest =
      spent_most c st _ (λ st. eval_most f e (suc c) st _ (λ i st. less st.fuel c _ (element_case (AtMost (st.fuel + c)) f.params i st k tt (rest _ st))))
  eval_most f (tree.Depv e) c st k rest =
      spent_most c st _ (λ st. eval_most f e (suc c) st _ (λ i st. less st.fuel c _ (element_case (AtMost (st.fuel + c)) f.depv i st k tt (rest _ st))))
  eval_most f (tree.Unary o e) c st k rest = spent_most c st _ (λ st. eval_most f e (suc c) st _ (λ x st. less st.fuel c _ (rest (unary_value o x) st)))
  eval_most f (tree.Binary o l r) c st k rest =
      spent_most c st _ (λ st. eval_most f l (suc c) st _ (λ x st. eval_most f r (suc c) st _ (λ y st. less st.fuel c _
      (binary_case (AtMost (st.fuel + c)) o x y _ tt (λ v. rest v st)))))
  eval_most f (tree.Invoked made xs) c st k rest =
      spent_most c st _ (λ st. all_most f xs nothing_given (suc c) st _ (λ g st. made_most (call_of f made xs g) (outputs_of made xs) c st k rest))

  all_most : (f : Frame) (xs : Arguments) (g : Given) (c : ℕ) (st : State) (k : Given → State → Behaviour)
      → ((g : Given) (st : State) → AtMost (st.fuel + c) (k g st)) → AtMost (st.fuel + c) (eval_all f xs g st k)
  all_most f tree.empty g c st k rest = rest g st
  all_most f (tree.value e others) g c st k rest = eval_most f e c st _ (λ v st. all_most f others (with_value g v) c st k rest)
  all_most f (tree.list es others) g c st k rest = all_most f es nothing_given c st _ (λ of st. all_most f others (with_list g of.values) c st k rest)
  all_most f (tree.named x others) g c st k rest = all_most f others g c st k rest

turns_most : (n c : ℕ) (test : State → Value → Behaviour) (body : State → (State → Behaviour) → Behaviour) (st : State) (k : State → Behaviour)
    → ((c : ℕ) (st : State) (k : Value) → ((v : ℕ) (st : State) → AtMost (st.fuel + c) (k v st)) → AtMost (st.fuel + c) (test st k))
    → ((c : ℕ) (st : State) (k : State → Behaviour) → ((st : State) → AtMost (st.fuel + c) (k st)) → AtMost (st.fuel + c) (body st k))
    → ((st : State) → AtMost (st.fuel + c) (k st)) → AtMost (st.fuel + c) (turns n test body st k)
turns_most zero c test body st k tests bodies rest = tt
turns_most (suc n) c test body st k tests bodies rest =
    spent_most c st _ (λ st. tests (suc c) st _ (λ v st. less st.fuel c _ (cond_both (v == 0) _ _ (AtMost (st.fuel + c))
    (λ done. rest st) (λ on. bodies c st _ (λ st. turns_most n c test body st k tests bodies rest)))))

printed_most : (n v : ℕ) (st : State) (k : State → Behaviour) → AtMost n (k st) → AtMost (suc n) (print_step v st k)
printed_most n v st k rest = (n, omega arith, λ a. rest)

mutual
  exec_most : (f : Frame) (s : Statement) (c : ℕ) (st : State) (k : State → Behaviour) → ((st : State) → AtMost (st.fuel + c) (k st)) → AtMost (st.fuel + c) (exec f s st k)
  exec_most f (tree.Let x e) c st k rest = spent_most c st _ (λ st. eval_most f e (suc c) st _ (λ v st. less st.fuel c _ (rest (with_variable x v st))))
  exec_most f (tree.Assign x e) c st k rest = spent_most c st _ (λ st. eval_most f e (suc c) st _ (λ v st. less st.fuel c _ (rest (with_variable x v st))))
  exec_most f (tree.If e first second) c st k rest =
      spent_most c st _ (λ st. eval_most f e (suc c) st _ (λ v st. less st.fuel c _ (cond_both (v == 0) _ _ (AtMost (st.fuel + c))
      (λ none. exec_all_most f second c st k rest) (λ some. exec_all_most f first c st k rest))))
  exec_most f (tree.While e body) c st k rest =
      turns_most (suc st.fuel) c (eval f e) (exec_all f body) st k (λ c st k next. eval_most f e c st k next) (λ c st k next. exec_all_most f body c st k next) rest
  exec_most f (tree.Print e) c st k rest =
      spent_most c st _ (λ st. eval_most f e (suc c) st (λ v st. print_step v st k) (λ v st.
      more (suc (st.fuel + c)) (st.fuel + suc c) (print_step v st k) (omega arith) (printed_most (st.fuel + c) v st k (rest st))))
  exec_most f (tree.Return e) c st k rest = spent_most c st _ (λ st. eval_most f e (suc c) st (λ v st. Ends v st.holds) (λ v st. tt))
  exec_most f (tree.Do made xs) c st k rest = spent_most c st _ (λ st. eval_most f (tree.Invoked made xs) (suc c) st _ (λ v st. less st.fuel c _ (rest st)))

  exec_all_most : (f : Frame) (ss : Statements) (c : ℕ) (st : State) (k : State → Behaviour) → ((st : State) → AtMost (st.fuel + c) (k st)) → AtMost (st.fuel + c) (exec_all f ss st k)
  exec_all_most f tree.nothing c st k rest = rest st
  exec_all_most f (tree.statement s others) c st k rest = exec_most f s c st _ (λ st. exec_all_most f others c st k rest)

-- a call that came leaves one fewer
next_most : (n : ℕ) (b : Behaviour) (made : Call) (a : Answer) → IsNext made b → AtMost n b → (m : ℕ) × (suc m ≤ n) × AtMost m (after_answer a b)
next_most n (Ends g holds) made a is most = absurd is
next_most n (Stops s) made a is most = absurd is
next_most n (Asks call writes next) made a is most = (most.0, most.1, most.2 a)

trace_most : (n : ℕ) (b : Behaviour) (log : List Asked) → IsTrace b log → AtMost n b → (m : ℕ) × (length log + m ≤ n) × AtMost m (after log b)
trace_most n b [] trace most = (n, omega arith, most)
trace_most n b (asked ∷ earlier) trace most =
    let before = trace_most n b earlier trace.0 most in
    let now = next_most before.0 (after earlier b) asked.call asked.answer trace.1 before.2 in
    (now.0, omega (arith, before.1, now.1), now.2)

pub fuel_law : FuelLaw
fuel_law b log trace =
    let f : Frame = record { params = b.params; depv = b.depv; function_of = numbers_in b.program } in
    let all : AtMost (b.fuel + 0) (behaviour b) = exec_all_most f (statements_at b.program b.function) 0 _ _ (λ st. tt) in
    let left = trace_most (b.fuel + 0) (behaviour b) log trace all in
    omega (arith, left.1)
