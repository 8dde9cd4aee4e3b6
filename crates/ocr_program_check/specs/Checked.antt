-- What the walk over a tree finds at each place, with the names that it keeps: the way from the
-- tree in memory to its breach.
use Rattle.std.specs.Prelude.{ℕ, Bool, cond, nat_lt, nat_le, List, [], ◌∷◌, ◌++◌, length, reverse, Option, None, Some, IsSome}
use Rattle.std.specs.Option.{option_or}
use Rattle.ocr_program_tree.specs.Tree.{Expression, Arguments, Statement, Statements, FunctionTree}
use Rattle.ocr_program_tree.specs.Tree as tree
use Rattle.ocr_program_check.specs.Check.{Mention, Breaks, rule_broken, is_among, mention_of_name, count_of}
use Rattle.ocr_program_check.specs.Check as check
use Rattle.ocr_program_check.specs.declared.names.TheConstants.{MOST_LETS}
use Rattle.ocr_program_tree.specs.declared.tree.CallName.{CallName}
use Rattle.ocr_program_tree.specs.declared.rules.TheConstants.{MOST_PARAMETERS, MOST_DEPENDENCES}

-- the rule that a mention of an expression breaks, where `known` are the functions and `declared`
-- the variables
abbrev pub mention_rule : (known declared : List ℕ → Bool) → Mention → Option ℕ
mention_rule known declared (check.LetBegins x) = None
mention_rule known declared (check.Declared x) = None
mention_rule known declared (check.Used x) = cond (declared x) None (Some 4)
mention_rule known declared (check.FunctionNamed f) = cond (known f) None (Some 5)
mention_rule known declared (check.ListClosed most n) =
    cond (nat_le n most) None (Some 6)
mention_rule known declared check.BlockOpened = None
mention_rule known declared check.BlockClosed = None

abbrev mutual
  pub expression_rule : (known declared : List ℕ → Bool) → Expression → Option ℕ
  expression_rule known declared (tree.Number n) = None
  expression_rule known declared (tree.Named c) = None
  expression_rule known declared (tree.Var x) = mention_rule known declared (check.Used x)
  expression_rule known declared tree.Paramc = None
  expression_rule known declared tree.Depc = None
  expression_rule known declared tree.LastCode = None
  expression_rule known declared (tree.Paramv e) = expression_rule known declared e
  expression_rule known declared (tree.Depv e) = expression_rule known declared e
  expression_rule known declared (tree.Unary op e) = expression_rule known declared e
  expression_rule known declared (tree.Binary op a b) =
      option_or (expression_rule known declared a) (expression_rule known declared b)
  expression_rule known declared (tree.Invoked call arguments) =
      arguments_rule known declared call MOST_PARAMETERS arguments

  pub arguments_rule : (known declared : List ℕ → Bool) → CallName → ℕ → Arguments → Option ℕ
  arguments_rule known declared call most tree.empty = None
  arguments_rule known declared call most (tree.value e rest) =
      option_or (expression_rule known declared e) (arguments_rule known declared call most rest)
  arguments_rule known declared call most (tree.list members rest) =
      option_or (arguments_rule known declared call most members)
      (option_or (mention_rule known declared (check.ListClosed most (count_of members)))
      (arguments_rule known declared call MOST_DEPENDENCES rest))
  arguments_rule known declared call most (tree.named x rest) =
      option_or (mention_rule known declared (mention_of_name call x))
      (arguments_rule known declared call most rest)

-- the names that the walk of a function keeps: those that were let, and those of them that are
-- declared where it stands
pub record Declarations : Type 0 where
  pub lets : List (List ℕ)
  pub declared : List (List ℕ)

-- where a part of a function leads
pub data Outcome : Type 0 where
  Passed : (kept : Declarations) → Outcome
  Broken : (rule : ℕ) → Outcome

-- a part that lets no name
abbrev pub told : Declarations → Option ℕ → Outcome
told k None = Passed k
told k (Some rule) = Broken rule

-- one part after another
abbrev pub and_then : Outcome → (Declarations → Outcome) → Outcome
and_then (Passed k) next = next k
and_then (Broken rule) next = Broken rule

-- a block is left: the names that were declared in it are no more
abbrev pub leaving : Declarations → Outcome → Outcome
leaving k (Passed inner) = Passed (record { lets = inner.lets; declared = k.declared })
leaving k (Broken rule) = Broken rule

-- the name of a `let`
abbrev pub let_rule : Declarations → List ℕ → Option ℕ
let_rule k x =
    cond (is_among x k.lets) (Some 3) (cond (nat_lt (length k.lets) MOST_LETS) None (Some 7))

-- a name is declared
abbrev pub with_name : Declarations → List ℕ → Declarations
with_name k x = record { lets = k.lets ++ (x ∷ []); declared = k.declared ++ (x ∷ []) }

-- the rule that an expression breaks where these names are declared
abbrev pub value_rule : (known : List ℕ → Bool) → Declarations → Expression → Option ℕ
value_rule known k e = expression_rule known (λ x. is_among x k.declared) e

abbrev mutual
  pub statement_outcome : (known : List ℕ → Bool) → Statement → Declarations → Outcome
  statement_outcome known (tree.Let x e) k = and_then
      (told k (option_or (let_rule k x) (value_rule known k e))) (λ m. Passed (with_name m x))
  statement_outcome known (tree.Assign x e) k =
      told k (option_or (mention_rule known (λ y. is_among y k.declared) (check.Used x))
      (value_rule known k e))
  statement_outcome known (tree.If e first second) k =
      and_then (told k (value_rule known k e))
      (λ m. and_then (leaving m (statements_outcome known first m))
      (λ n. leaving n (statements_outcome known second n)))
  statement_outcome known (tree.While e body) k =
      and_then (told k (value_rule known k e)) (λ m. leaving m (statements_outcome known body m))
  statement_outcome known (tree.Print e) k = told k (value_rule known k e)
  statement_outcome known (tree.Return e) k = told k (value_rule known k e)
  statement_outcome known (tree.Do call arguments) k =
      told k (arguments_rule known (λ x. is_among x k.declared) call MOST_PARAMETERS arguments)

  pub statements_outcome : (known : List ℕ → Bool) → Statements → Declarations → Outcome
  statements_outcome known tree.nothing k = Passed k
  statements_outcome known (tree.statement s rest) k =
      and_then (statement_outcome known s k) (λ m. statements_outcome known rest m)

-- the rule in an outcome
abbrev pub rule_of : Outcome → Option ℕ
rule_of (Passed k) = None
rule_of (Broken rule) = Some rule

-- no name is known
abbrev pub no_declarations : Declarations
no_declarations = record { lets = []; declared = [] }

-- the rule that a function breaks first
abbrev pub function_rule : (known : List ℕ → Bool) → FunctionTree → Option ℕ
function_rule known f = rule_of (statements_outcome known f.body no_declarations)

-- a mention breaks a rule
abbrev pub BreaksRule : List (List ℕ) → List Mention → Mention → Type 0
BreaksRule names before mention = IsSome (rule_broken names (reverse before) mention)

-- some mention of a function breaks a rule
abbrev pub BreaksSome : List (List ℕ) → List FunctionTree → FunctionTree → Type 0
BreaksSome names before f = (rule : ℕ) × Breaks names f rule

-- the mentions of a function
abbrev pub mentions_of : FunctionTree → List Mention
mentions_of f = check.mentions_of_statements f.body
