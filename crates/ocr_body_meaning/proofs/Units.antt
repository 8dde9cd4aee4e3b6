-- A body's units of fuel are counted.
use Rattle.std.proofs.Common.{◌≡◌, ◌∙◌, ◌≤◌, ◌<◌, ◌+◌, ◌-◌, ◌/◌, ◌%◌, ◌==◌, ◌⊎◌, inl, inr, ℕ, zero, suc, List, [], ◌∷◌, Bool, true, false, if◌then◌else◌, length, nat_lt, refl, sym, ap, subst, arith}
use Rattle.std.specs.Prelude.{slice_index}
use Rattle.std.proofs.lemmas.Bool.{ltb-true, ltb-false}
use Rattle.ocr_body_meaning.specs.Behaviour.{Behaviour, Ends, Stops, Asks, Asked, after, after_answer, IsNextWith}
use Rattle.ocr_program_tree.specs.Constant.{value_of}
use Rattle.ocr_body_meaning.specs.Holds.{Holds, Access, Refused, Silent, Entered, load_of, store_of, after_store, private_of}
use Rattle.ocr_body_meaning.specs.Meaning.{Frame, State, Value, Given, nothing_given, with_value, with_list, fresh_state, state_after_answer, spend, with_variable, with_holds, unary_value, element_step, binary_step, quotient_step, coded_call, access_step, load_step, store_step, call_of, outputs_of, made_step, eval, eval_all, turns, print_step, exec, exec_all}
use Rattle.ocr_body_meaning.specs.Body.{Body, behaviour, says}
use Rattle.ocr_program_tree.specs.Functions.{statements_at, numbers_in}
use Rattle.ocr_program_tree.specs.Tree as tree
use Rattle.ocr_program_tree.specs.Tree.{Expression, Arguments, Statement, Statements}
use Rattle.ocr_body_meaning.specs.Units.{with_fuel, IsSameStep, UnitsLaw}
use Rattle.ocr_body_meaning.specs.declared.call.Answer.{Answer}
use Rattle.ocr_body_meaning.specs.declared.call.BodyStop.{BodyStop}
use Rattle.ocr_body_meaning.specs.declared.call.BodyStop.TheVariants as stop
use Rattle.ocr_body_meaning.specs.declared.call.Call.{Call}
use Rattle.ocr_body_meaning.specs.declared.call.Call.TheVariants as call
use Rattle.ocr_program_tree.specs.declared.tree.BinaryOp.{BinaryOp}
use Rattle.ocr_program_tree.specs.declared.tree.BinaryOp.TheVariants as binary

-- with more fuel the same is done, and goes on where the lesser was stopped for want of fuel
abbrev Extends : Behaviour → Behaviour → Type 0
Extends (Ends g holds) more = more ≡ Ends g holds
Extends (Stops s) more = (s ≡ stop.Fuel) ⊎ (more ≡ Stops s)
Extends (Asks made writes next) more = (onward : Answer → Behaviour) × (more ≡ Asks made writes onward) × ((a : Answer) → Extends (next a) (onward a))

-- a state with so many units more
abbrev lengthened : ℕ → State → State
lengthened d st = record { fuel = st.fuel + d; code = st.code; variables = st.variables; holds = st.holds }

chosen_extended : (b : Bool) (x y p q : Behaviour) → Extends x p → Extends y q → Extends (if b then x else y) (if b then p else q)
chosen_extended true x y p q first second = first
chosen_extended false x y p q first second = second

-- so many units are the whole difference
abbrev IsLonger : ℕ → State → State → Type 0
IsLonger d st now = now ≡ lengthened d st

at_longer : (d : ℕ) (st now : State) (x : Behaviour) (l : State → Behaviour) → IsLonger d st now → Extends x (l (lengthened d st)) → Extends x (l now)
at_longer d st now x l is rest = subst (λ (now : State). Extends x (l now)) (sym is) rest

spent_extended_at : (d fuel code : ℕ) (variables : List ℕ → ℕ) (holds : Holds) (k l : State → Behaviour) → ((st now : State) → IsLonger d st now → Extends (k st) (l now))
    → Extends (spend (record { fuel = fuel; code = code; variables = variables; holds = holds }) k) (spend (record { fuel = fuel + d; code = code; variables = variables; holds = holds }) l)
spent_extended_at d zero code variables holds k l rest = inl refl
spent_extended_at d (suc n) code variables holds k l rest =
    let same : suc (n + d) ≡ suc n + d = omega arith in
    let left : State = record { fuel = n; code = code; variables = variables; holds = holds } in
    subst (λ (m : ℕ). Extends (k left) (spend (record { fuel = m; code = code; variables = variables; holds = holds }) l)) same (rest left (lengthened d left) refl)

spent_extended : (d : ℕ) (st now : State) (k l : State → Behaviour) → IsLonger d st now → ((st now : State) → IsLonger d st now → Extends (k st) (l now)) → Extends (spend st k) (spend now l)
spent_extended d st now k l is rest = at_longer d st now (spend st k) (λ now. spend now l) is (spent_extended_at d st.fuel st.code st.variables st.holds k l rest)

divided_extended : (by : ℕ → ℕ → ℕ) (x y : ℕ) (k l : ℕ → Behaviour) → ((v : ℕ) → Extends (k v) (l v)) → Extends (quotient_step by x y k) (quotient_step by x y l)
divided_extended by x y k l rest = chosen_extended (y == 0) _ _ _ _ (inr refl) (rest (by x y))

operated_extended : (op : BinaryOp) (x y : ℕ) (k l : ℕ → Behaviour) → ((v : ℕ) → Extends (k v) (l v)) → Extends (binary_step op x y k) (binary_step op x y l)
operated_extended binary.Div x y k l rest = divided_extended (λ a b. a / b) x y k l rest
operated_extended binary.Rem x y k l rest = divided_extended (λ a b. a % b) x y k l rest
operated_extended other x y k l rest = rest _

-- what comes next does the same with so many units more
abbrev IsAlike : ℕ → Value → Value → Type 0
IsAlike d k l = (v : ℕ) (st now : State) → IsLonger d st now → Extends (k v st) (l v now)

abbrev IsAlikeAfter : ℕ → (State → Behaviour) → (State → Behaviour) → Type 0
IsAlikeAfter d k l = (st now : State) → IsLonger d st now → Extends (k st) (l now)

indexed_extended : (d : ℕ) (words : List ℕ) (i : ℕ) (st now : State) (k l : Value) → IsLonger d st now → IsAlike d k l → Extends (element_step words i st k) (element_step words i now l)
indexed_extended d words i st now k l is rest = chosen_extended (nat_lt i (length words)) _ _ _ _ (rest (slice_index words i) st now is) (inr refl)

answered_longer : (d : ℕ) (made : Call) (outputs : List (List ℕ)) (a : Answer) (st now : State) → IsLonger d st now
    → IsLonger d (state_after_answer made outputs a st) (state_after_answer made outputs a now)
answered_longer d made [] a st now is = ap (state_after_answer made [] a) is
answered_longer d made (x ∷ rest) a st now is = ap (state_after_answer made (x ∷ rest) a) is

access_extended : (d : ℕ) (found : Access) (made : Call) (st : State) (k l : Value) → IsAlike d k l → Extends (access_step found made st k) (access_step found made (lengthened d st) l)
access_extended d (Refused s) made st k l rest = inr refl
access_extended d (Silent v) made st k l rest = rest v st (lengthened d st) refl
access_extended d Entered made st k l rest = ((λ a. l a.value (lengthened d st)), refl, λ a. rest a.value st (lengthened d st) refl)

coded_extended : (d : ℕ) (made : Call) (outputs : List (List ℕ)) (st now : State) (k l : Value) → IsLonger d st now → IsAlike d k l → Extends (coded_call made outputs st k) (coded_call made outputs now l)
coded_extended d made outputs st now k l is rest = (
  (λ a. l a.value (state_after_answer made outputs a now)),
  ap (λ (s : State). Asks made (private_of made s.holds) (λ a. l a.value (state_after_answer made outputs a now))) is,
  λ a. rest a.value (state_after_answer made outputs a st) (state_after_answer made outputs a now) (answered_longer d made outputs a st now is),
)

made_extended : (d : ℕ) (made : Call) (outputs : List (List ℕ)) (st now : State) (k l : Value) → IsLonger d st now → IsAlike d k l → Extends (made_step made outputs st k) (made_step made outputs now l)
made_extended d call.Shutdown outputs st now k l is rest = inr refl
made_extended d (call.Abort code) outputs st now k l is rest = inr refl
made_extended d (call.Load b w) outputs st now k l is rest =
    at_longer d st now _ (λ now. load_step b w now l) is (access_extended d (load_of (st.holds b) w) (call.Load b w) st k l rest)
made_extended d (call.Store b w v) outputs st now k l is rest =
    let stored : State = with_holds (after_store (store_of (st.holds b) w) b w v st.holds) st in
    at_longer d st now _ (λ now. store_step b w v now l) is
    (access_extended d (store_of (st.holds b) w) (call.Store b w v) stored (λ _ now. k 0 now) (λ _ now. l 0 now) (λ v st now is. rest 0 st now is))
made_extended d other outputs st now k l is rest = coded_extended d other outputs st now k l is rest

mutual
  eval_extended : (f : Frame) (e : Expression) (d : ℕ) (st now : State) (k l : Value) → IsLonger d st now → IsAlike d k l → Extends (eval f e st k) (eval f e now l)
  eval_extended f (tree.Number n) d st now k l is rest = spent_extended d st now _ _ is (rest n)
  eval_extended f (tree.Named n) d st now k l is rest = spent_extended d st now _ _ is (rest (value_of n))
  eval_extended f (tree.Var x) d st now k l is rest =
      spent_extended d st now _ _ is (λ st now is. at_longer d st now _ (λ now. l (now.variables x) now) is (rest (st.variables x) st (lengthened d st) refl))
  eval_extended f tree.Paramc d st now k l is rest = spent_extended d st now _ _ is (rest (length f.params))
  eval_extended f tree.Depc d st now k l is rest = spent_extended d st now _ _ is (rest (length f.depv))
  eval_extended f tree.LastCode d st now k l is rest =
      spent_extended d st now _ _ is (λ st now is. at_longer d st now _ (λ now. l now.code now) is (rest st.code st (lengthened d st) refl))
  eval_extended f (tree.Paramv e) d st now k l is rest =
      spent_extended d st now _ _ is (λ st now is. eval_extended f e d st now _ _ is (λ i st now is. indexed_extended d f.params i st now k l is rest))
  eval_extended f (tree.Depv e) d st now k l is rest =
      spent_extended d st now _ _ is (λ st now is. eval_extended f e d st now _ _ is (λ i st now is. indexed_extended d f.depv i st now k l is rest))
  eval_extended f (tree.Unary o e) d st now k l is rest =
      spent_extended d st now _ _ is (λ st now is. eval_extended f e d st now _ _ is (λ x st now is. rest (unary_value o x) st now is))
  eval_extended f (tree.Binary o a b) d st now k l is rest =
      spent_extended d st now _ _ is (λ st now is. eval_extended f a d st now _ _ is (λ x st now is. eval_extended f b d st now _ _ is (λ y st now is.
      operated_extended o x y (λ v. k v st) (λ v. l v now) (λ v. rest v st now is))))
  eval_extended f (tree.Invoked made xs) d st now k l is rest =
      spent_extended d st now _ _ is (λ st now is. all_extended f xs nothing_given d st now _ _ is (λ g st now is. made_extended d (call_of f made xs g) (outputs_of made xs) st now k l is rest))

  all_extended : (f : Frame) (xs : Arguments) (g : Given) (d : ℕ) (st now : State) (k l : Given → State → Behaviour) → IsLonger d st now
      → ((g : Given) (st now : State) → IsLonger d st now → Extends (k g st) (l g now)) → Extends (eval_all f xs g st k) (eval_all f xs g now l)
  all_extended f tree.empty g d st now k l is rest = rest g st now is
  all_extended f (tree.value e others) g d st now k l is rest =
      eval_extended f e d st now _ _ is (λ v st now is. all_extended f others (with_value g v) d st now k l is rest)
  all_extended f (tree.list es others) g d st now k l is rest =
      all_extended f es nothing_given d st now _ _ is (λ of st now is. all_extended f others (with_list g of.values) d st now k l is rest)
  all_extended f (tree.named x others) g d st now k l is rest = all_extended f others g d st now k l is rest

turns_extended : (n m d : ℕ) (test : State → Value → Behaviour) (body : State → (State → Behaviour) → Behaviour) (st now : State) (k l : State → Behaviour) → n ≤ m
    → ((st now : State) (k l : Value) → IsLonger d st now → IsAlike d k l → Extends (test st k) (test now l))
    → ((st now : State) (k l : State → Behaviour) → IsLonger d st now → IsAlikeAfter d k l → Extends (body st k) (body now l))
    → IsLonger d st now → IsAlikeAfter d k l → Extends (turns n test body st k) (turns m test body now l)
turns_extended zero m d test body st now k l le tests bodies is rest = inl refl
turns_extended (suc n) zero d test body st now k l le tests bodies is rest = absurd (omega (arith, le))
turns_extended (suc n) (suc m) d test body st now k l le tests bodies is rest =
    let fewer : n ≤ m = omega (arith, le) in
    spent_extended d st now _ _ is (λ st now is. tests st now _ _ is (λ v st now is. chosen_extended (v == 0) _ _ _ _ (rest st now is)
    (bodies st now _ _ is (λ st now is. turns_extended n m d test body st now k l fewer tests bodies is rest))))

printed_extended : (v : ℕ) (st now : State) (k l : State → Behaviour) → Extends (k st) (l now) → Extends (print_step v st k) (print_step v now l)
printed_extended v st now k l rest = ((λ _. l now), refl, λ a. rest)

mutual
  exec_extended : (f : Frame) (s : Statement) (d : ℕ) (st now : State) (k l : State → Behaviour) → IsLonger d st now → IsAlikeAfter d k l → Extends (exec f s st k) (exec f s now l)
  exec_extended f (tree.Let x e) d st now k l is rest =
      spent_extended d st now _ _ is (λ st now is. eval_extended f e d st now _ _ is (λ v st now is. rest (with_variable x v st) (with_variable x v now) (ap (with_variable x v) is)))
  exec_extended f (tree.Assign x e) d st now k l is rest =
      spent_extended d st now _ _ is (λ st now is. eval_extended f e d st now _ _ is (λ v st now is. rest (with_variable x v st) (with_variable x v now) (ap (with_variable x v) is)))
  exec_extended f (tree.If e first second) d st now k l is rest =
      spent_extended d st now _ _ is (λ st now is. eval_extended f e d st now _ _ is (λ v st now is. chosen_extended (v == 0) _ _ _ _
      (exec_all_extended f second d st now k l is rest) (exec_all_extended f first d st now k l is rest)))
  exec_extended f (tree.While e body) d st now k l is rest =
      let more : suc st.fuel ≤ suc now.fuel = omega (arith, ap (λ (st : State). st.fuel) is) in
      turns_extended (suc st.fuel) (suc now.fuel) d (eval f e) (exec_all f body) st now k l more
      (λ st now k l is next. eval_extended f e d st now k l is next) (λ st now k l is next. exec_all_extended f body d st now k l is next) is rest
  exec_extended f (tree.Print e) d st now k l is rest =
      spent_extended d st now _ _ is (λ st now is. eval_extended f e d st now (λ v st. print_step v st k) (λ v st. print_step v st l) is (λ v st now is. printed_extended v st now k l (rest st now is)))
  exec_extended f (tree.Return e) d st now k l is rest = spent_extended d st now _ _ is (λ st now is. eval_extended f e d st now (λ v st. Ends v st.holds) (λ v st. Ends v st.holds) is (λ v st now is. ap (λ (s : State). Ends v s.holds) is))
  exec_extended f (tree.Do made xs) d st now k l is rest =
      spent_extended d st now _ _ is (λ st now is. eval_extended f (tree.Invoked made xs) d st now _ _ is (λ v st now is. rest st now is))

  exec_all_extended : (f : Frame) (ss : Statements) (d : ℕ) (st now : State) (k l : State → Behaviour) → IsLonger d st now → IsAlikeAfter d k l → Extends (exec_all f ss st k) (exec_all f ss now l)
  exec_all_extended f tree.nothing d st now k l is rest = rest st now is
  exec_all_extended f (tree.statement s others) d st now k l is rest =
      exec_extended f s d st now _ _ is (λ st now is. exec_all_extended f others d st now k l is rest)

answered_extended : (a : Answer) (less more : Behaviour) → Extends less more → Extends (after_answer a less) (after_answer a more)
answered_extended a (Ends g holds) more is = ap (after_answer a) is
answered_extended a (Stops s) more (inl want) = inl want
answered_extended a (Stops s) more (inr same) = inr (ap (after_answer a) same)
answered_extended a (Asks made writes next) more is = subst (λ (b : Behaviour). Extends (next a) (after_answer a b)) (sym is.1) (is.2 a)

after_extended : (log : List Asked) (less more : Behaviour) → Extends less more → Extends (after log less) (after log more)
after_extended [] less more is = is
after_extended (asked ∷ earlier) less more is = answered_extended asked.answer (after earlier less) (after earlier more) (after_extended earlier less more is)

-- what a body does with some fuel, and with so many units more
says_extended_by : (b : Body) (log : List Asked) (n d : ℕ) → Extends (says (with_fuel b n) log) (says (with_fuel b (n + d)) log)
says_extended_by b log n d =
    after_extended log (behaviour (with_fuel b n)) (behaviour (with_fuel b (n + d)))
    (exec_all_extended (record { params = b.params; depv = b.depv; function_of = numbers_in b.program }) (statements_at b.program b.function) d (fresh_state n b.holds) (fresh_state (n + d) b.holds) _ _ refl (λ st now is. ap (λ (s : State). Ends 0 s.holds) is))

says_extended : (b : Body) (log : List Asked) (n m : ℕ) → n ≤ m → Extends (says (with_fuel b n) log) (says (with_fuel b m) log)
says_extended b log n m le =
    let same : n + (m - n) ≡ m = omega (arith, le) in
    subst (λ (more : ℕ). Extends (says (with_fuel b n) log) (says (with_fuel b more) log)) same (says_extended_by b log n (m - n))

-- a body that was stopped for want of fuel
abbrev is_fuel_stop : Behaviour → Bool
is_fuel_stop (Stops stop.Fuel) = true
is_fuel_stop other = false

stop_wants : (s : BodyStop) → is_fuel_stop (Stops s) ≡ true → s ≡ stop.Fuel
stop_wants stop.Fuel is = refl
stop_wants other is = absurd (cc is)

stopped : (b : Behaviour) → is_fuel_stop b ≡ true → b ≡ Stops stop.Fuel
stopped (Stops s) is = ap (λ (s : BodyStop). Stops s) (stop_wants s is)
stopped other is = absurd (cc is)

fuel_is_wanted : (s : BodyStop) → is_fuel_stop (Stops s) ≡ false → s ≡ stop.Fuel → ⊥
fuel_is_wanted s not_so is = cc (not_so, ap (λ (s : BodyStop). is_fuel_stop (Stops s)) is)

-- what more fuel leaves the same of what was not stopped for want of it
same_above : (less here more : Behaviour) → is_fuel_stop less ≡ false → Extends less here → Extends less more → IsSameStep here more
same_above (Ends g holds) here more not_so first second = subst (λ (b : Behaviour). IsSameStep b more) (sym first) second
same_above (Stops s) here more not_so (inl want) second = absurd (fuel_is_wanted s not_so want)
same_above (Stops s) here more not_so (inr same) (inl want) = absurd (fuel_is_wanted s not_so want)
same_above (Stops s) here more not_so (inr same) (inr also) = subst (λ (b : Behaviour). IsSameStep b more) (sym same) also
same_above (Asks made writes next) here more not_so first second =
    subst (λ (b : Behaviour). IsSameStep b more) (sym first.1) (subst (λ (b : Behaviour). IsNextWith made writes b) (sym second.1) (refl, refl))

-- what was not stopped for want of fuel is not with more
fuelled_above : (less here : Behaviour) → is_fuel_stop less ≡ false → Extends less here → here ≡ Stops stop.Fuel → ⊥
fuelled_above (Ends g holds) here not_so first is = let no : Ends g holds ≡ Stops stop.Fuel = sym first ∙ is in cc
fuelled_above (Stops s) here not_so (inl want) is = fuel_is_wanted s not_so want
fuelled_above (Stops s) here not_so (inr same) is = let same_stop : Stops s ≡ Stops stop.Fuel = sym same ∙ is in cc (not_so, ap is_fuel_stop same_stop)
fuelled_above (Asks made writes next) here not_so first is = let no : Asks made writes first.0 ≡ Stops stop.Fuel = sym first.1 ∙ is in cc

-- the least number of units that is enough
abbrev IsLeast : (ℕ → Bool) → ℕ → Type 0
IsLeast wants n = (wants n ≡ false) × ((m : ℕ) → m < n → wants m ≡ true)

last_too : (wants : ℕ → Bool) (n m : ℕ) (b : Bool) → nat_lt m n ≡ b → ((m : ℕ) → m < n → wants m ≡ true) → wants n ≡ true → m < suc n → wants m ≡ true
last_too wants n m true below all last within = all m (ltb-true m n below)
last_too wants n m false above all last within =
    let same : m ≡ n = omega (arith, ltb-false m n above, within) in
    subst (λ (k : ℕ). wants k ≡ true) (sym same) last

decided : (wants : ℕ → Bool) (n : ℕ) (b : Bool) → wants n ≡ b → ((m : ℕ) → m < n → wants m ≡ true)
    → ((m : ℕ) → m < suc n → wants m ≡ true) ⊎ ((units : ℕ) × (units < suc n) × IsLeast wants units)
decided wants n true is all = inl (λ m within. last_too wants n m (nat_lt m n) refl all is within)
decided wants n false is all = inr (n, omega arith, (is, all))

-- of so many numbers of units either all are too few, or one is the least that is enough
sought : (wants : ℕ → Bool) (n : ℕ) → ((m : ℕ) → m < n → wants m ≡ true) ⊎ ((units : ℕ) × (units < n) × IsLeast wants units)
sought wants zero = inl (λ m below. absurd (omega (arith, below)))
sought wants (suc n) =
    elim (sought wants n) [
      | inl all ↦ decided wants n (wants n) refl all
      | inr found ↦ inr (found.0, omega (arith, found.1), found.2)
    ]

pub units_law : UnitsLaw
units_law b log =
    let wants : ℕ → Bool = λ n. is_fuel_stop (says (with_fuel b n) log) in
    elim (sought wants (suc b.fuel)) [
      | inl all ↦ inl (stopped (says b log) (all b.fuel (omega arith)), λ n le. stopped (says (with_fuel b n) log) (all n (omega (arith, le))))
      | inr found ↦
          let within : found.0 ≤ b.fuel = omega (arith, found.1) in
          inr (
            found.0,
            within,
            record {
              fuelled = fuelled_above (says (with_fuel b found.0) log) (says b log) found.2.0 (says_extended b log found.0 b.fuel within);
              fewer = λ n below. stopped (says (with_fuel b n) log) (found.2.1 n below);
              enough = λ n le. same_above (says (with_fuel b found.0) log) (says b log) (says (with_fuel b n) log) found.2.0
                  (says_extended b log found.0 b.fuel within) (says_extended b log found.0 n le);
            },
          )
    ]
