-- An expression that comes to a value has spent a unit for each of its nodes.
use Rattle.std.proofs.Common.{◌≡◌, ◌+◌, ℕ, suc, List, [], ◌∷◌, length, refl, subst, arith}
use Rattle.ocr_program_tree.specs.Constant.{value_of}
use Rattle.ocr_program_tree.specs.Tree as tree
use Rattle.ocr_program_tree.specs.Tree.{Expression, Arguments}
use Rattle.ocr_body_meaning.specs.Behaviour.{Behaviour, Ends, Stops, Asks, Asked, after, after_answer}
use Rattle.ocr_body_meaning.specs.Holds.{no_holds}
use Rattle.ocr_body_meaning.specs.Meaning.{Frame, State, Value, Given, nothing_given, with_value, with_list, state_after_answer, spend, unary_value, call_of, outputs_of, made_step, eval, eval_all}
use Rattle.ocr_body_meaning.specs.Units.{nodes, nodes_of, NodesLaw}
use Rattle.ocr_body_meaning.specs.declared.call.Answer.{Answer}
use Rattle.ocr_body_meaning.specs.declared.call.Call.{Call}
use Rattle.ocr_body_meaning.specs.declared.call.Call.TheVariants as call
use Rattle.ocr_body_meaning.proofs.Steps.{spend_case, binary_case, element_case, load_case, store_case, fuel_after_answer}

-- each end, after whatever answers, returns a number that is so
abbrev IsEachEnd : (ℕ → Type 0) → Behaviour → Type 0
IsEachEnd P (Ends g holds) = P g
IsEachEnd P (Stops s) = Unit {0}
IsEachEnd P (Asks made writes next) = (a : Answer) → IsEachEnd P (next a)

-- a unit less is left to what goes on
spent_each : (P : ℕ → Type 0) (st : State) (k : State → Behaviour) → ((now : State) → suc now.fuel ≡ st.fuel → IsEachEnd P (k now)) → IsEachEnd P (spend st k)
spent_each P st k rest = spend_case (IsEachEnd P) st k tt (λ left one. rest _ one)

-- a call costs no more than its node
made_each : (P : ℕ → Type 0) (made : Call) (outputs : List (List ℕ)) (st : State) (k : Value)
    → ((v : ℕ) (now : State) → now.fuel ≡ st.fuel → IsEachEnd P (k v now)) → IsEachEnd P (made_step made outputs st k)
made_each P call.Shutdown outputs st k rest = tt
made_each P (call.Abort code) outputs st k rest = tt
made_each P (call.Load d w) outputs st k rest = load_case (IsEachEnd P) d w st k tt tt (λ h is. rest _ st refl) (λ a. rest a.value st refl)
made_each P (call.Store d w v) outputs st k rest = store_case (IsEachEnd P) d w v st k tt tt tt (rest 0 _ refl) (λ a. rest 0 st refl)
made_each P other outputs st k rest = λ a. rest a.value (state_after_answer other outputs a st) (fuel_after_answer other outputs a st)

mutual
  eval_each : (P : ℕ → Type 0) (f : Frame) (e : Expression) (st : State) (k : Value)
      → ((v : ℕ) (now : State) → now.fuel + nodes e ≡ st.fuel → IsEachEnd P (k v now)) → IsEachEnd P (eval f e st k)
  eval_each P f (tree.Number n) st k rest = spent_each P st _ (λ now one. rest n now (omega (arith, one)))
  eval_each P f (tree.Named c) st k rest = spent_each P st _ (λ now one. rest (value_of c) now (omega (arith, one)))
  eval_each P f (tree.Var x) st k rest = spent_each P st _ (λ now one. rest (now.variables x) now (omega (arith, one)))
  eval_each P f tree.Paramc st k rest = spent_each P st _ (λ now one. rest (length f.params) now (omega (arith, one)))
  eval_each P f tree.Depc st k rest = spent_each P st _ (λ now one. rest (length f.depv) now (omega (arith, one)))
  eval_each P f tree.LastCode st k rest = spent_each P st _ (λ now one. rest now.code now (omega (arith, one)))
  eval_each P f (tree.Paramv e) st k rest =
      spent_each P st _ (λ mid one. eval_each P f e mid _ (λ i now all. element_case (IsEachEnd P) f.params i now k tt (rest _ now (omega (arith, one, all)))))
  eval_each P f (tree.Depv e) st k rest =
      spent_each P st _ (λ mid one. eval_each P f e mid _ (λ i now all. element_case (IsEachEnd P) f.depv i now k tt (rest _ now (omega (arith, one, all)))))
  eval_each P f (tree.Unary o e) st k rest =
      spent_each P st _ (λ mid one. eval_each P f e mid _ (λ x now all. rest (unary_value o x) now (omega (arith, one, all))))
  eval_each P f (tree.Binary o l r) st k rest =
      spent_each P st _ (λ mid one. eval_each P f l mid _ (λ x far left. eval_each P f r far _ (λ y now right.
      binary_case (IsEachEnd P) o x y _ tt (λ v. rest v now (omega (arith, one, left, right))))))
  eval_each P f (tree.Invoked made xs) st k rest =
      spent_each P st _ (λ mid one. all_each P f xs nothing_given mid _ (λ g far all.
      made_each P (call_of f made xs g) (outputs_of made xs) far k (λ v now same. rest v now (omega (arith, one, all, same)))))

  all_each : (P : ℕ → Type 0) (f : Frame) (xs : Arguments) (g : Given) (st : State) (k : Given → State → Behaviour)
      → ((g : Given) (now : State) → now.fuel + nodes_of xs ≡ st.fuel → IsEachEnd P (k g now)) → IsEachEnd P (eval_all f xs g st k)
  all_each P f tree.empty g st k rest = rest g st (omega arith)
  all_each P f (tree.value e others) g st k rest =
      eval_each P f e st _ (λ v mid first. all_each P f others (with_value g v) mid k (λ h now second. rest h now (omega (arith, first, second))))
  all_each P f (tree.list es others) g st k rest =
      all_each P f es nothing_given st _ (λ of mid first. all_each P f others (with_list g of.values) mid k (λ h now second. rest h now (omega (arith, first, second))))
  all_each P f (tree.named x others) g st k rest = all_each P f others g st k rest

answered_each : (P : ℕ → Type 0) (a : Answer) (b : Behaviour) → IsEachEnd P b → IsEachEnd P (after_answer a b)
answered_each P a (Ends g holds) each = each
answered_each P a (Stops s) each = each
answered_each P a (Asks made writes next) each = each a

after_each : (P : ℕ → Type 0) (log : List Asked) (b : Behaviour) → IsEachEnd P b → IsEachEnd P (after log b)
after_each P [] b each = each
after_each P (asked ∷ earlier) b each = answered_each P asked.answer (after earlier b) (after_each P earlier b each)

pub nodes_law : NodesLaw
nodes_law f e st log v now comes =
    let IsSpent : ℕ → Type 0 = λ left. left + nodes e ≡ st.fuel in
    let show : Value = λ v now. Ends now.fuel no_holds in
    let each : IsEachEnd IsSpent (eval f e st show) = eval_each IsSpent f e st show (λ v now all. all) in
    subst (λ (b : Behaviour). IsEachEnd IsSpent b) (comes show) (after_each IsSpent log (eval f e st show) each)
