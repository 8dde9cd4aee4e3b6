-- In a function that breaks no rule the functions that its calls name are there, and their lists are short.
use Rattle.std.proofs.Common.{◌≡◌, ◌≤◌, ◌+◌, ℕ, suc, nat_le, nat_lt, slice_index_or, Bool, true, false, ◌&&◌, ◌||◌, if◌then◌else◌, cond, List, [], ◌∷◌, length, Option, None, Some, refl, bytes_eq, arith}
use Rattle.std.proofs.lemmas.Bool.{le-leb, and_parts, and_from}
use Rattle.std.specs.Option.{option_or}
use Rattle.ocr_program_tree.specs.Tree.{Expression, Arguments, Statement, Statements, FunctionTree, names_in}
use Rattle.ocr_program_tree.specs.Tree as tree
use Rattle.ocr_program_tree.specs.Each.{is_each_call, is_each_call_of_all, is_each_call_in, is_each_call_in_all, is_each_call_of}
use Rattle.ocr_program_tree.specs.Rules.{has_function, is_function_named, are_functions_named, are_short, is_list_short, are_lists_short}
use Rattle.ocr_program_tree.specs.Functions.{number_named}
use Rattle.ocr_program_tree.specs.declared.tree.CallName.TheVariants as name
use Rattle.ocr_program_tree.specs.declared.tree.CallName.{CallName}
use Rattle.ocr_program_check.specs.Check.{FailsNowhere}
use Rattle.ocr_program_check.specs.Check as check
use Rattle.ocr_program_check.specs.Checked.{Declarations, Outcome, Passed, Broken, told, and_then, leaving, let_rule, value_rule, with_name, mention_rule, expression_rule, arguments_rule, statement_outcome, statements_outcome, rule_of, function_rule, no_declarations, BreaksSome}
use Rattle.ocr_program_tree.specs.declared.rules.TheConstants.{MOST_PARAMETERS, MOST_DEPENDENCES}
use Rattle.ocr_program_check.proofs.Mentions.{known_of}
use Rattle.ocr_program_check.proofs.Programs.{function_stops}

left_none : (a b : Option ℕ) → option_or a b ≡ None → a ≡ None
left_none None b e = refl
left_none (Some r) b e = e

right_none : (a b : Option ℕ) → option_or a b ≡ None → b ≡ None
right_none None b e = e
right_none (Some r) b e = absurd (cc)

-- what breaks no rule holds
held : (b : Bool) (rule : ℕ) → cond b (let n : Option ℕ = None in n) (Some rule) ≡ None → b ≡ true
held true rule e = refl
held false rule e = absurd (cc)

-- each call with a function's name that breaks no rule is so
abbrev pub IsKept : (known : List ℕ → Bool) → (CallName → Arguments → Bool) → Type 0
IsKept known p = (declared : List ℕ → Bool) (call : CallName) (xs : Arguments) → has_function call xs ≡ true
    → arguments_rule known declared call MOST_PARAMETERS xs ≡ None → p call xs ≡ true

mutual
  expression_keeps : (known : List ℕ → Bool) (p : CallName → Arguments → Bool) (kept : IsKept known p) (declared : List ℕ → Bool) (e : Expression)
      → is_each_call has_function e ≡ true → expression_rule known declared e ≡ None → is_each_call p e ≡ true
  expression_keeps known p kept declared (tree.Number n) has h = refl
  expression_keeps known p kept declared (tree.Named c) has h = refl
  expression_keeps known p kept declared (tree.Var x) has h = refl
  expression_keeps known p kept declared tree.Paramc has h = refl
  expression_keeps known p kept declared tree.Depc has h = refl
  expression_keeps known p kept declared tree.LastCode has h = refl
  expression_keeps known p kept declared (tree.Paramv e) has h = expression_keeps known p kept declared e has h
  expression_keeps known p kept declared (tree.Depv e) has h = expression_keeps known p kept declared e has h
  expression_keeps known p kept declared (tree.Unary op e) has h = expression_keeps known p kept declared e has h
  expression_keeps known p kept declared (tree.Binary op a b) has h =
      and_from (is_each_call p a) (is_each_call p b)
      (expression_keeps known p kept declared a (and_parts _ (is_each_call has_function b) has).0 (left_none (expression_rule known declared a) (expression_rule known declared b) h))
      (expression_keeps known p kept declared b (and_parts (is_each_call has_function a) _ has).1 (right_none (expression_rule known declared a) (expression_rule known declared b) h))
  expression_keeps known p kept declared (tree.Invoked call xs) has h =
      and_from (p call xs) (is_each_call_of_all p xs) (kept declared call xs (and_parts _ (is_each_call_of_all has_function xs) has).0 h)
      (arguments_keep known p kept declared call MOST_PARAMETERS xs (and_parts (has_function call xs) _ has).1 h)

  arguments_keep : (known : List ℕ → Bool) (p : CallName → Arguments → Bool) (kept : IsKept known p) (declared : List ℕ → Bool) (call : CallName) (most : ℕ) (xs : Arguments)
      → is_each_call_of_all has_function xs ≡ true → arguments_rule known declared call most xs ≡ None → is_each_call_of_all p xs ≡ true
  arguments_keep known p kept declared call most tree.empty has h = refl
  arguments_keep known p kept declared call most (tree.value e rest) has h =
      and_from (is_each_call p e) (is_each_call_of_all p rest)
      (expression_keeps known p kept declared e (and_parts _ (is_each_call_of_all has_function rest) has).0 (left_none (expression_rule known declared e) (arguments_rule known declared call most rest) h))
      (arguments_keep known p kept declared call most rest (and_parts (is_each_call has_function e) _ has).1 (right_none (expression_rule known declared e) (arguments_rule known declared call most rest) h))
  arguments_keep known p kept declared call most (tree.list es rest) has h =
      let members : Option ℕ = arguments_rule known declared call most es in
      let closed : Option ℕ = mention_rule known declared (check.ListClosed most (check.count_of es)) in
      let others : Option ℕ = arguments_rule known declared call MOST_DEPENDENCES rest in
      and_from (is_each_call_of_all p es) (is_each_call_of_all p rest)
      (arguments_keep known p kept declared call most es (and_parts _ (is_each_call_of_all has_function rest) has).0 (left_none members (option_or closed others) h))
      (arguments_keep known p kept declared call MOST_DEPENDENCES rest (and_parts (is_each_call_of_all has_function es) _ has).1
      (right_none closed others (right_none members (option_or closed others) h)))
  arguments_keep known p kept declared call most (tree.named x rest) has h =
      arguments_keep known p kept declared call most rest has
      (right_none (mention_rule known declared (check.mention_of_name call x)) (arguments_rule known declared call most rest) h)

-- a part that passes tells no rule
told_passes : (k m : Declarations) (o : Option ℕ) → told k o ≡ Passed m → o ≡ None
told_passes k m None e = refl
told_passes k m (Some r) e = absurd (cc)

-- what passes in two parts passes in the first, and in the second after it
first_passes : (o : Outcome) (next : Declarations → Outcome) (m : Declarations) → and_then o next ≡ Passed m → (k : Declarations) × (o ≡ Passed k) × (next k ≡ Passed m)
first_passes (Passed k) next m e = (k, refl, e)
first_passes (Broken r) next m e = absurd (cc)

inner_passes : (k m : Declarations) (o : Outcome) → leaving k o ≡ Passed m → (n : Declarations) × (o ≡ Passed n)
inner_passes k m (Passed n) e = (n, refl)
inner_passes k m (Broken r) e = absurd (cc)

value_keeps : (known : List ℕ → Bool) (p : CallName → Arguments → Bool) (kept : IsKept known p) (k m : Declarations) (e : Expression)
    → is_each_call has_function e ≡ true → told k (value_rule known k e) ≡ Passed m → is_each_call p e ≡ true
value_keeps known p kept k m e has h = expression_keeps known p kept (λ x. check.is_among x k.declared) e has (told_passes k m (value_rule known k e) h)

mutual
  statement_keeps : (known : List ℕ → Bool) (p : CallName → Arguments → Bool) (kept : IsKept known p) (s : Statement) (k m : Declarations)
      → is_each_call_in has_function s ≡ true → statement_outcome known s k ≡ Passed m → is_each_call_in p s ≡ true
  statement_keeps known p kept (tree.Let x e) k m has h =
      let part = first_passes (told k (option_or (let_rule k x) (value_rule known k e))) (λ n. Passed (with_name n x)) m h in
      expression_keeps known p kept (λ y. check.is_among y k.declared) e has
      (right_none (let_rule k x) (value_rule known k e) (told_passes k part.0 (option_or (let_rule k x) (value_rule known k e)) part.1))
  statement_keeps known p kept (tree.Assign x e) k m has h =
      let used : Option ℕ = mention_rule known (λ y. check.is_among y k.declared) (check.Used x) in
      expression_keeps known p kept (λ y. check.is_among y k.declared) e has
      (right_none used (value_rule known k e) (told_passes k m (option_or used (value_rule known k e)) h))
  statement_keeps known p kept (tree.If e first second) k m has h =
      let test = first_passes (told k (value_rule known k e))
      (λ n. and_then (leaving n (statements_outcome known first n)) (λ o. leaving o (statements_outcome known second o))) m h in
      let branch = first_passes (leaving test.0 (statements_outcome known first test.0)) (λ o. leaving o (statements_outcome known second o)) m test.2 in
      let inner = inner_passes test.0 branch.0 (statements_outcome known first test.0) branch.1 in
      let other = inner_passes branch.0 m (statements_outcome known second branch.0) branch.2 in
      let blocks : (is_each_call_in_all has_function first && is_each_call_in_all has_function second) ≡ true =
      (and_parts (is_each_call has_function e) _ has).1 in
      and_from (is_each_call p e) (is_each_call_in_all p first && is_each_call_in_all p second)
      (value_keeps known p kept k test.0 e (and_parts _ (is_each_call_in_all has_function first && is_each_call_in_all has_function second) has).0 test.1)
      (and_from (is_each_call_in_all p first) (is_each_call_in_all p second)
      (statements_keep known p kept first test.0 inner.0 (and_parts _ (is_each_call_in_all has_function second) blocks).0 inner.1)
      (statements_keep known p kept second branch.0 other.0 (and_parts (is_each_call_in_all has_function first) _ blocks).1 other.1))
  statement_keeps known p kept (tree.While e body) k m has h =
      let test = first_passes (told k (value_rule known k e)) (λ n. leaving n (statements_outcome known body n)) m h in
      let inner = inner_passes test.0 m (statements_outcome known body test.0) test.2 in
      and_from (is_each_call p e) (is_each_call_in_all p body)
      (value_keeps known p kept k test.0 e (and_parts _ (is_each_call_in_all has_function body) has).0 test.1)
      (statements_keep known p kept body test.0 inner.0 (and_parts (is_each_call has_function e) _ has).1 inner.1)
  statement_keeps known p kept (tree.Print e) k m has h = value_keeps known p kept k m e has h
  statement_keeps known p kept (tree.Return e) k m has h = value_keeps known p kept k m e has h
  statement_keeps known p kept (tree.Do call xs) k m has h = value_keeps known p kept k m (tree.Invoked call xs) has h

  statements_keep : (known : List ℕ → Bool) (p : CallName → Arguments → Bool) (kept : IsKept known p) (ss : Statements) (k m : Declarations)
      → is_each_call_in_all has_function ss ≡ true → statements_outcome known ss k ≡ Passed m → is_each_call_in_all p ss ≡ true
  statements_keep known p kept tree.nothing k m has h = refl
  statements_keep known p kept (tree.statement s rest) k m has h =
      let part = first_passes (statement_outcome known s k) (λ n. statements_outcome known rest n) m h in
      and_from (is_each_call_in p s) (is_each_call_in_all p rest)
      (statement_keeps known p kept s k part.0 (and_parts _ (is_each_call_in_all has_function rest) has).0 part.1)
      (statements_keep known p kept rest part.0 m (and_parts (is_each_call_in has_function s) _ has).1 part.2)

passed_or_broken : (known : List ℕ → Bool) (p : CallName → Arguments → Bool) (kept : IsKept known p) (ss : Statements) (o : Outcome)
    → is_each_call_in_all has_function ss ≡ true → statements_outcome known ss no_declarations ≡ o → rule_of o ≡ None → is_each_call_in_all p ss ≡ true
passed_or_broken known p kept ss (Passed m) has is h = statements_keep known p kept ss no_declarations m has is
passed_or_broken known p kept ss (Broken r) has is h = absurd (cc)

-- a function that breaks no rule, by whether it does
function_keeps : (names : List (List ℕ)) (p : CallName → Arguments → Bool) (kept : IsKept (known_of names) p) (f : FunctionTree) (o : Option ℕ)
    → is_each_call_in_all has_function f.body ≡ true → function_rule (known_of names) f ≡ o → (BreaksSome names [] f → ⊥)
    → is_each_call_in_all p f.body ≡ true
function_keeps names p kept f None has is keeps = passed_or_broken (known_of names) p kept f.body (statements_outcome (known_of names) f.body no_declarations) has refl is
function_keeps names p kept f (Some r) has is keeps = absurd (keeps (r, function_stops (known_of names) names (λ x. refl) f r is))

-- where no function breaks a rule, each call is so
keeps_each : (names : List (List ℕ)) (p : CallName → Arguments → Bool) (kept : IsKept (known_of names) p) (fs : List FunctionTree)
    → is_each_call_of has_function fs ≡ true → FailsNowhere (BreaksSome names) fs → is_each_call_of p fs ≡ true
keeps_each names p kept [] has none = refl
keeps_each names p kept (f ∷ fs) has none =
    and_from (is_each_call_in_all p f.body) (is_each_call_of p fs)
    (function_keeps names p kept f (function_rule (known_of names) f) (and_parts _ (is_each_call_of has_function fs) has).0 refl (none [] fs f refl))
    (keeps_each names p kept fs (and_parts (is_each_call_in_all has_function f.body) _ has).1 (λ before after g is b. none (f ∷ before) after g (λ i. f ∷ is i) b))

-- NAMED
here : (b c : Bool) (n most : ℕ) → (b || c) ≡ true → (c ≡ true → n ≤ most) → (if b then 1 else n + 1) ≤ suc most
here true c n most among rest = omega arith
here false c n most among rest = omega (arith, rest among)

-- a function that is there has a number
pub named_within : (name : List ℕ) (program : List FunctionTree) → check.is_among name (check.names_of program) ≡ true → number_named name program ≤ length program
named_within name [] among = cc among
named_within name (f ∷ rest) among =
    here (bytes_eq f.name name) (check.is_among name (check.names_of rest)) (number_named name rest) (length rest) among (named_within name rest)

-- the first name among the arguments of ocrEdtTemplateCreate is a function's
first_known : (known declared : List ℕ → Bool) (most : ℕ) (xs : Arguments) → nat_lt 0 (length (names_in xs)) ≡ true
    → arguments_rule known declared name.TemplateCreate most xs ≡ None → known (slice_index_or (names_in xs) 0 []) ≡ true
first_known known declared most tree.empty has h = absurd (cc)
first_known known declared most (tree.value e rest) has h =
    first_known known declared most rest has (right_none (expression_rule known declared e) (arguments_rule known declared name.TemplateCreate most rest) h)
first_known known declared most (tree.list es rest) has h =
    let closed : Option ℕ = mention_rule known declared (check.ListClosed most (check.count_of es)) in
    let others : Option ℕ = arguments_rule known declared name.TemplateCreate MOST_DEPENDENCES rest in
    first_known known declared MOST_DEPENDENCES rest has (right_none closed others (right_none (arguments_rule known declared name.TemplateCreate most es) (option_or closed others) h))
first_known known declared most (tree.named f rest) has h =
    held (known f) 5 (left_none (mention_rule known declared (check.FunctionNamed f)) (arguments_rule known declared name.TemplateCreate most rest) h)

named_kept : (program : List FunctionTree) → IsKept (known_of (check.names_of program)) (is_function_named program)
named_kept program declared name.TemplateCreate xs has arguments =
    let first : List ℕ = slice_index_or (names_in xs) 0 [] in
    le-leb (number_named first program) (length program)
    (named_within first program (first_known (known_of (check.names_of program)) declared MOST_PARAMETERS xs has arguments))
named_kept program declared other xs has arguments = refl

pub keeps_named : (fs : List FunctionTree) → is_each_call_of has_function fs ≡ true → FailsNowhere (BreaksSome (check.names_of fs)) fs → are_functions_named fs ≡ true
keeps_named fs has none = keeps_each (check.names_of fs) (is_function_named fs) (named_kept fs) fs has none

-- SHORT
short_arguments : (known declared : List ℕ → Bool) (call : CallName) (most : ℕ) (xs : Arguments) → arguments_rule known declared call most xs ≡ None → are_short most xs ≡ true
short_arguments known declared call most tree.empty h = refl
short_arguments known declared call most (tree.value e rest) h =
    short_arguments known declared call most rest (right_none (expression_rule known declared e) (arguments_rule known declared call most rest) h)
short_arguments known declared call most (tree.list es rest) h =
    let members : Option ℕ = arguments_rule known declared call most es in
    let closed : Option ℕ = mention_rule known declared (check.ListClosed most (check.count_of es)) in
    let others : Option ℕ = arguments_rule known declared call MOST_DEPENDENCES rest in
    and_from (nat_le (check.count_of es) most) (are_short 32 rest)
    (held (nat_le (check.count_of es) most) 6 (left_none closed others (right_none members (option_or closed others) h)))
    (short_arguments known declared call MOST_DEPENDENCES rest (right_none closed others (right_none members (option_or closed others) h)))
short_arguments known declared call most (tree.named x rest) h =
    short_arguments known declared call most rest (right_none (mention_rule known declared (check.mention_of_name call x)) (arguments_rule known declared call most rest) h)

short_kept : (known : List ℕ → Bool) → IsKept known is_list_short
short_kept known declared call xs has arguments = short_arguments known declared call MOST_PARAMETERS xs arguments

pub keeps_short : (names : List (List ℕ)) (fs : List FunctionTree) → is_each_call_of has_function fs ≡ true → FailsNowhere (BreaksSome names) fs → are_lists_short fs ≡ true
keeps_short names fs has none = keeps_each names is_list_short (short_kept (known_of names)) fs has none
