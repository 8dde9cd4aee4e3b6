-- What calls a body makes.
use Rattle.std.proofs.Common.{◌≡◌, ◌≤◌, ◌<◌, ◌+◌, ◌++◌, ◌==◌, bytes_eq, ap, sym, ◌∙◌, subst, length-append, append_assoc, ℕ, zero, suc, List, [], ◌∷◌, Bool, true, length, refl, arith}
use Rattle.std.specs.Prelude.{slice_index_or}
use Rattle.std.proofs.lemmas.Bool.{and_parts, cond_both, leb-true}
use Rattle.std.proofs.lemmas.List.{append-nil}
use Rattle.ocr_program_tree.specs.Constant.{value_of}
use Rattle.ocr_program_tree.specs.Each.{is_each_call, is_each_call_of_all, is_each_call_in, is_each_call_in_all, is_each_call_of}
use Rattle.ocr_program_tree.specs.Functions.{statements_at, number_named, numbers_in}
use Rattle.ocr_program_tree.specs.Rules.{is_function_named, is_list_short, are_short, count_of}
use Rattle.ocr_program_tree.specs.Tree as tree
use Rattle.ocr_program_tree.specs.Tree.{Expression, Arguments, Statement, Statements, FunctionTree}
use Rattle.ocr_body_meaning.specs.Behaviour.{Behaviour, Ends, Stops, Asks, Asked, after, after_answer}
use Rattle.ocr_body_meaning.specs.Body.{behaviour}
use Rattle.ocr_body_meaning.specs.Laws.{IsServed, MakesOnly, ServedLaw}
use Rattle.ocr_body_meaning.specs.Meaning.{Frame, State, Value, Given, nothing_given, with_value, with_list, state_after_answer, spend, with_variable, unary_value, call_of, outputs_of, made_step, eval, eval_all, turns, print_step, exec, exec_all}
use Rattle.ocr_body_meaning.specs.declared.call.Answer.{Answer}
use Rattle.ocr_body_meaning.specs.declared.call.Call.{Call}
use Rattle.ocr_body_meaning.specs.declared.call.Call.TheVariants as call
use Rattle.ocr_program_tree.specs.declared.tree.CallName.{CallName}
use Rattle.ocr_program_tree.specs.declared.tree.CallName.TheVariants as name
use Rattle.ocr_body_meaning.proofs.Steps.{spend_case, binary_case, element_case, load_case, store_case}

-- what is found of arguments after what was found before
abbrev Follows : Arguments → Given → Given → Type 0
Follows tree.empty g h = g ≡ h
Follows (tree.value e rest) g h = (v : ℕ) × Follows rest (with_value g v) h
Follows (tree.list es rest) g h = (l : List ℕ) × (length l ≤ count_of es) × Follows rest (with_list g l) h
Follows (tree.named x rest) g h = Follows rest g h

-- each argument gives at most one value
counted : (xs : Arguments) (g h : Given) → Follows xs g h → length h.values ≤ length g.values + count_of xs
counted tree.empty g h is = omega (arith, ap (λ (of : Given). length of.values) is)
counted (tree.value e rest) g h is = omega (arith, counted rest (with_value g is.0) h is.1, length-append g.values (is.0 ∷ []))
counted (tree.list es rest) g h is = omega (arith, counted rest (with_list g is.0) h is.2)
counted (tree.named x rest) g h is = omega (arith, counted rest g h is)

-- what is asked of the call that a node makes: a shutdown and an abort are no calls
abbrev IsAsked : (Call → Type 0) → Call → Type 0
IsAsked IsSuch call.Shutdown = Unit {0}
IsAsked IsSuch (call.Abort code) = Unit {0}
IsAsked IsSuch other = IsSuch other

made_makes : (IsSuch : Call → Type 0) (made : Call) (outputs : List (List ℕ)) (st : State) (k : Value) → IsAsked IsSuch made
    → ((v : ℕ) (st : State) → MakesOnly IsSuch (k v st)) → MakesOnly IsSuch (made_step made outputs st k)
made_makes IsSuch call.Shutdown outputs st k such rest = tt
made_makes IsSuch (call.Abort code) outputs st k such rest = tt
made_makes IsSuch (call.Load d w) outputs st k such rest = load_case (MakesOnly IsSuch) d w st k tt tt (λ h is. rest _ st) (such, λ a. rest a.value st)
made_makes IsSuch (call.Store d w v) outputs st k such rest = store_case (MakesOnly IsSuch) d w v st k tt tt tt (rest 0 _) (such, λ a. rest 0 st)
made_makes IsSuch other outputs st k such rest = (such, λ a. rest a.value (state_after_answer other outputs a st))

-- calls that meet two tests are such ones, and so are prints
module _ (f : Frame) (IsSuch : Call → Type 0) (p q : CallName → Arguments → Bool)
    (calls : (made : CallName) (xs : Arguments) (g : Given) → p made xs ≡ true → q made xs ≡ true → Follows xs nothing_given g → IsAsked IsSuch (call_of f made xs g))
    (prints : (v : ℕ) → IsSuch (call.Print v)) where
  abbrev IsFine : Behaviour → Type 0
  IsFine b = MakesOnly IsSuch b

  spent_makes : (st : State) (k : State → Behaviour) → ((st : State) → IsFine (k st)) → IsFine (spend st k)
  spent_makes st k rest = spend_case (MakesOnly IsSuch) st k tt (λ left one. rest _)

  mutual
    eval_makes : (e : Expression) (st : State) (k : Value) → is_each_call p e ≡ true → is_each_call q e ≡ true
        → ((v : ℕ) (st : State) → IsFine (k v st)) → IsFine (eval f e st k)
    eval_makes (tree.Number n) st k a b rest = spent_makes st _ (rest n)
    eval_makes (tree.Named c) st k a b rest = spent_makes st _ (rest (value_of c))
    eval_makes (tree.Var x) st k a b rest = spent_makes st _ (λ st. rest (st.variables x) st)
    eval_makes tree.Paramc st k a b rest = spent_makes st _ (rest (length f.params))
    eval_makes tree.Depc st k a b rest = spent_makes st _ (rest (length f.depv))
    eval_makes tree.LastCode st k a b rest = spent_makes st _ (λ st. rest st.code st)
    eval_makes (tree.Paramv e) st k a b rest =
        spent_makes st _ (λ st. eval_makes e st _ a b (λ i st. element_case IsFine f.params i st k tt (rest _ st)))
    eval_makes (tree.Depv e) st k a b rest =
        spent_makes st _ (λ st. eval_makes e st _ a b (λ i st. element_case IsFine f.depv i st k tt (rest _ st)))
    eval_makes (tree.Unary o e) st k a b rest = spent_makes st _ (λ st. eval_makes e st _ a b (λ x st. rest (unary_value o x) st))
    eval_makes (tree.Binary o l r) st k a b rest =
        spent_makes st _ (λ st. eval_makes l st _ (and_parts _ _ a).0 (and_parts _ _ b).0 (λ x st.
        eval_makes r st _ (and_parts _ _ a).1 (and_parts _ _ b).1 (λ y st. binary_case IsFine o x y _ tt (λ v. rest v st))))
    eval_makes (tree.Invoked made xs) st k a b rest =
        spent_makes st _ (λ st. all_makes xs nothing_given st _ (and_parts _ _ a).1 (and_parts _ _ b).1 (λ g st follows.
        made_makes IsSuch (call_of f made xs g) (outputs_of made xs) st k (calls made xs g (and_parts _ _ a).0 (and_parts _ _ b).0 follows) rest))

    all_makes : (xs : Arguments) (g : Given) (st : State) (k : Given → State → Behaviour) → is_each_call_of_all p xs ≡ true → is_each_call_of_all q xs ≡ true
        → ((h : Given) (st : State) → Follows xs g h → IsFine (k h st)) → IsFine (eval_all f xs g st k)
    all_makes tree.empty g st k a b rest = rest g st refl
    all_makes (tree.value e others) g st k a b rest =
        eval_makes e st _ (and_parts _ _ a).0 (and_parts _ _ b).0 (λ v st.
        all_makes others (with_value g v) st k (and_parts _ _ a).1 (and_parts _ _ b).1 (λ h st follows. rest h st (v, follows)))
    all_makes (tree.list es others) g st k a b rest =
        all_makes es nothing_given st _ (and_parts _ _ a).0 (and_parts _ _ b).0 (λ of st found.
        all_makes others (with_list g of.values) st k (and_parts _ _ a).1 (and_parts _ _ b).1 (λ h st follows.
        rest h st (of.values, omega (arith, counted es nothing_given of found), follows)))
    all_makes (tree.named x others) g st k a b rest = all_makes others g st k a b rest

  turns_make : (n : ℕ) (test : State → Value → Behaviour) (body : State → (State → Behaviour) → Behaviour) (st : State) (k : State → Behaviour)
      → ((st : State) (k : Value) → ((v : ℕ) (st : State) → IsFine (k v st)) → IsFine (test st k))
      → ((st : State) (k : State → Behaviour) → ((st : State) → IsFine (k st)) → IsFine (body st k))
      → ((st : State) → IsFine (k st)) → IsFine (turns n test body st k)
  turns_make zero test body st k tests bodies rest = tt
  turns_make (suc n) test body st k tests bodies rest =
      spent_makes st _ (λ st. tests st _ (λ v st.
      cond_both (v == 0) _ _ IsFine (λ done. rest st) (λ more. bodies st _ (λ st. turns_make n test body st k tests bodies rest))))

  mutual
    exec_makes : (s : Statement) (st : State) (k : State → Behaviour) → is_each_call_in p s ≡ true → is_each_call_in q s ≡ true
        → ((st : State) → IsFine (k st)) → IsFine (exec f s st k)
    exec_makes (tree.Let x e) st k a b rest = spent_makes st _ (λ st. eval_makes e st _ a b (λ v st. rest (with_variable x v st)))
    exec_makes (tree.Assign x e) st k a b rest = spent_makes st _ (λ st. eval_makes e st _ a b (λ v st. rest (with_variable x v st)))
    exec_makes (tree.If e first second) st k a b rest =
        let of_p = and_parts _ _ (and_parts _ _ a).1 in
        let of_q = and_parts _ _ (and_parts _ _ b).1 in
        spent_makes st _ (λ st. eval_makes e st _ (and_parts _ _ a).0 (and_parts _ _ b).0 (λ v st. cond_both (v == 0) _ _ IsFine
        (λ none. exec_all_makes second st k of_p.1 of_q.1 rest) (λ some. exec_all_makes first st k of_p.0 of_q.0 rest)))
    exec_makes (tree.While e body) st k a b rest =
        turns_make (suc st.fuel) (eval f e) (exec_all f body) st k
        (λ st k next. eval_makes e st k (and_parts _ _ a).0 (and_parts _ _ b).0 next) (λ st k next. exec_all_makes body st k (and_parts _ _ a).1 (and_parts _ _ b).1 next) rest
    exec_makes (tree.Print e) st k a b rest =
        spent_makes st _ (λ st. eval_makes e st (λ v st. print_step v st k) a b (λ v st. (prints v, λ of. rest st)))
    exec_makes (tree.Return e) st k a b rest = spent_makes st _ (λ st. eval_makes e st (λ v st. Ends v st.holds) a b (λ v st. tt))
    exec_makes (tree.Do made xs) st k a b rest = spent_makes st _ (λ st. eval_makes (tree.Invoked made xs) st _ a b (λ v st. rest st))

    exec_all_makes : (ss : Statements) (st : State) (k : State → Behaviour) → is_each_call_in_all p ss ≡ true → is_each_call_in_all q ss ≡ true
        → ((st : State) → IsFine (k st)) → IsFine (exec_all f ss st k)
    exec_all_makes tree.nothing st k a b rest = rest st
    exec_all_makes (tree.statement s others) st k a b rest =
        exec_makes s st _ (and_parts _ _ a).0 (and_parts _ _ b).0 (λ st. exec_all_makes others st k (and_parts _ _ a).1 (and_parts _ _ b).1 rest)

statements_each : (p : CallName → Arguments → Bool) (program : List FunctionTree) (n : ℕ) → is_each_call_of p program ≡ true → is_each_call_in_all p (statements_at program n) ≡ true
statements_each p [] n is = refl
statements_each p (f ∷ rest) zero is = refl
statements_each p (f ∷ rest) (suc zero) is = (and_parts _ _ is).0
statements_each p (f ∷ rest) (suc (suc n)) is = statements_each p rest (suc n) (and_parts _ _ is).1

-- what is left after an answer makes such calls too
answered_makes : (IsSuch : Call → Type 0) (b : Behaviour) (a : Answer) → MakesOnly IsSuch b → MakesOnly IsSuch (after_answer a b)
answered_makes IsSuch (Ends g holds) a makes = makes
answered_makes IsSuch (Stops s) a makes = makes
answered_makes IsSuch (Asks made writes next) a makes = makes.1 a

after_makes : (IsSuch : Call → Type 0) (log : List Asked) (b : Behaviour) → MakesOnly IsSuch b → MakesOnly IsSuch (after log b)
after_makes IsSuch [] b makes = makes
after_makes IsSuch (asked ∷ earlier) b makes = answered_makes IsSuch (after earlier b) asked.answer (after_makes IsSuch earlier b makes)

-- a frame that knows the functions of the program
abbrev framed : List FunctionTree → List ℕ → List ℕ → Frame
framed program params depv = record { params = params; depv = depv; function_of = numbers_in program }

pub number_positive : (x : List ℕ) (program : List FunctionTree) → 0 < number_named x program
number_positive x [] = omega arith
number_positive x (f ∷ rest) = cond_both (bytes_eq f.name x) 1 (number_named x rest + 1) (λ n. 0 < n) (λ here. omega arith) (λ later. omega arith)

-- lists that have at most so many members, the first fewer than the others
abbrev AreWithin : ℕ → List (List ℕ) → Type 0
AreWithin most [] = Unit {0}
AreWithin most (l ∷ ls) = (length l ≤ most) × AreWithin 32 ls

-- short lists are found where short ones are written
short_found : (most : ℕ) (xs : Arguments) (g h : Given) → are_short most xs ≡ true → Follows xs g h → (found : List (List ℕ)) × (h.lists ≡ g.lists ++ found) × AreWithin most found
short_found most tree.empty g h short follows = ([], sym (ap (λ (of : Given). of.lists) follows) ∙ sym (append-nil g.lists), tt)
short_found most (tree.value e rest) g h short follows = short_found most rest (with_value g follows.0) h short follows.1
short_found most (tree.list es rest) g h short follows =
    let few : length follows.0 ≤ most = omega (arith, leb-true (count_of es) most (and_parts _ _ short).0, follows.1) in
    let later = short_found 32 rest (with_list g follows.0) h (and_parts _ _ short).1 follows.2 in
    (follows.0 ∷ later.0, later.1 ∙ append_assoc g.lists (follows.0 ∷ []) later.0, (few, later.2))
short_found most (tree.named x rest) g h short follows = short_found most rest g h short follows

-- the two lists of a creation
two_within : (most : ℕ) (ls : List (List ℕ)) → AreWithin most ls → (length (slice_index_or ls 0 []) ≤ most) × (length (slice_index_or ls 1 []) ≤ 32)
two_within most [] within = (omega arith, omega arith)
two_within most (l ∷ []) within = (within.0, omega arith)
two_within most (l ∷ m ∷ ls) within = (within.0, within.1.0)

served_calls : (program : List FunctionTree) (params depv : List ℕ) (made : CallName) (xs : Arguments) (g : Given) → is_function_named program made xs ≡ true → is_list_short made xs ≡ true
    → Follows xs nothing_given g → IsAsked (IsServed (length program)) (call_of (framed program params depv) made xs g)
served_calls program params depv name.TemplateCreate xs g named short follows = (number_positive _ program, leb-true _ _ named)
served_calls program params depv name.EdtCreate xs g named short follows =
    let found = short_found 16 xs nothing_given g short follows in
    two_within 16 g.lists (subst (λ (ls : List (List ℕ)). AreWithin 16 ls) (sym found.1) found.2)
served_calls program params depv other xs g named short follows = tt

pub served_law : ServedLaw
served_law b log named short =
    let IsSuch : Call → Type 0 = IsServed (length b.program) in
    after_makes IsSuch log (behaviour b)
    (exec_all_makes
    (framed b.program b.params b.depv) IsSuch (is_function_named b.program) is_list_short (served_calls b.program b.params b.depv) (λ v. tt)
    (statements_at b.program b.function) _ _ (statements_each _ b.program b.function named) (statements_each _ b.program b.function short) (λ st. tt))
