-- The rules that a task program keeps, and which one a program breaks first. The body of a function
-- is told as the mentions that stand in its text, from its start to its end. What a mention may be
-- rests on the mentions before it, so the first mention that breaks a rule is the breach of its
-- function.
use Rattle.std.specs.Prelude.{◌≡◌, ℕ, zero, suc, ◌+◌, Bool, true, false, cond, ◌||◌, nat_lt, nat_le, List, [], ◌∷◌, ◌++◌, map, length, reverse, Option, None, Some, IsSome}
use Rattle.std.specs.Str.{bytes_eq}
use Rattle.std.specs.List.{list_any}
use Rattle.ocr_program_tree.specs.Tree.{Expression, Arguments, Statement, Statements, FunctionTree, Assign, Binary, Depv, Do, If, Invoked, Let, Paramv, Print, Return, Unary, Var, While, empty, list, named, nothing, statement, value}
pub use Rattle.ocr_program_tree.specs.Rules.{count_of}
use Rattle.ocr_program_tree.specs.Functions.{main_name}
use Rattle.ocr_program_tree.specs.declared.tree.CallName.{CallName}
use Rattle.ocr_program_tree.specs.declared.tree.CallName.TheVariants as name
use Rattle.ocr_program_tree.specs.declared.rules.TheConstants.{MOST_PARAMETERS, MOST_DEPENDENCES}
use Rattle.ocr_program_check.specs.declared.names.TheConstants.{MOST_LETS}

-- whether a name is among others
abbrev pub is_among : List ℕ → List (List ℕ) → Bool
is_among x names = list_any (λ y. bytes_eq y x) names

-- the names of functions
abbrev pub names_of : List FunctionTree → List (List ℕ)
names_of functions = map (λ f. f.name) functions

-- what stands in the text of a function
pub data Mention : Type 0 where
  -- a `let` begins
  LetBegins : (name : List ℕ) → Mention
  -- the expression of a `let` is over: from here on there is the variable
  Declared : (name : List ℕ) → Mention
  -- a variable is read, assigned, or written after `&`
  Used : (name : List ℕ) → Mention
  -- a function is named as the code of a template
  FunctionNamed : (name : List ℕ) → Mention
  -- a list is closed that may have so many members
  ListClosed : (most members : ℕ) → Mention
  BlockOpened : Mention
  BlockClosed : Mention

-- a name among the arguments of a call: a function in ocrEdtTemplateCreate, else a variable after
-- `&`
abbrev pub mention_of_name : CallName → List ℕ → Mention
mention_of_name name.TemplateCreate x = FunctionNamed x
mention_of_name other x = Used x

abbrev mutual
  pub mentions_of_expression : Expression → List Mention
  mentions_of_expression (Var x) = Used x ∷ []
  mentions_of_expression (Paramv e) = mentions_of_expression e
  mentions_of_expression (Depv e) = mentions_of_expression e
  mentions_of_expression (Unary op e) = mentions_of_expression e
  mentions_of_expression (Binary op a b) = mentions_of_expression a ++ mentions_of_expression b
  mentions_of_expression (Invoked call arguments) =
      mentions_of_arguments call MOST_PARAMETERS arguments
  mentions_of_expression other = []

  -- the mentions of the arguments of a call; the next list may have `most` members
  pub mentions_of_arguments : CallName → ℕ → Arguments → List Mention
  mentions_of_arguments call most empty = []
  mentions_of_arguments call most (value e rest) =
      mentions_of_expression e ++ mentions_of_arguments call most rest
  mentions_of_arguments call most (list members rest) =
      mentions_of_arguments call most members
      ++ (ListClosed most (count_of members) ∷ mentions_of_arguments call MOST_DEPENDENCES rest)
  mentions_of_arguments call most (named x rest) =
      mention_of_name call x ∷ mentions_of_arguments call most rest

abbrev mutual
  pub mentions_of_statement : Statement → List Mention
  mentions_of_statement (Let x e) = LetBegins x ∷ (mentions_of_expression e ++ (Declared x ∷ []))
  mentions_of_statement (Assign x e) = Used x ∷ mentions_of_expression e
  mentions_of_statement (If e first second) =
      mentions_of_expression e
      ++ ((BlockOpened ∷ (mentions_of_statements first ++ (BlockClosed ∷ [])))
      ++ (BlockOpened ∷ (mentions_of_statements second ++ (BlockClosed ∷ []))))
  mentions_of_statement (While e body) = mentions_of_expression e
      ++ (BlockOpened ∷ (mentions_of_statements body ++ (BlockClosed ∷ [])))
  mentions_of_statement (Print e) = mentions_of_expression e
  mentions_of_statement (Return e) = mentions_of_expression e
  mentions_of_statement (Do call arguments) = mentions_of_arguments call MOST_PARAMETERS arguments

  pub mentions_of_statements : Statements → List Mention
  mentions_of_statements nothing = []
  mentions_of_statements (statement s rest) = mentions_of_statement s ++ mentions_of_statements rest

-- the names that were let, newest first
abbrev pub let_names : List Mention → List (List ℕ)
let_names [] = []
let_names (LetBegins x ∷ past) = x ∷ let_names past
let_names (other ∷ past) = let_names past

-- whether a variable was declared in the same block or in an enclosing one. The mentions come
-- newest first, and `depth` is how many blocks deeper the oldest mention in sight stands
abbrev pub is_declared : (depth : ℕ) → List ℕ → List Mention → Bool
is_declared depth x [] = false
is_declared depth x (BlockClosed ∷ past) = is_declared (suc depth) x past
is_declared (suc depth) x (BlockOpened ∷ past) = is_declared depth x past
is_declared zero x (Declared y ∷ past) = bytes_eq y x || is_declared zero x past
is_declared depth x (other ∷ past) = is_declared depth x past

-- the rule that a mention breaks after the mentions of its function before it, newest first.
-- `names` are the functions' names
abbrev pub rule_broken : (names : List (List ℕ)) (past : List Mention) → Mention → Option ℕ
rule_broken names past (LetBegins x) = cond (is_among x (let_names past)) (Some 3)
    (cond (nat_lt (length (let_names past)) MOST_LETS) None (Some 7))
rule_broken names past (Used x) = cond (is_declared 0 x past) None (Some 4)
rule_broken names past (FunctionNamed f) = cond (is_among f names) None (Some 5)
rule_broken names past (ListClosed most n) = cond (nat_le n most) None (Some 6)
rule_broken names past other = None

-- none of the items fails, given the items before it
abbrev pub FailsNowhere : {X : Type 0} → (List X → X → Type 0) → List X → Type 0
FailsNowhere {X} Fails items =
    (before after : List X) (item : X) → items ≡ before ++ (item ∷ after) → Fails before item → ⊥

-- `here` is the first of the items that fails, given the items `before` it
pub record IsFirst {X : Type 0} (Fails : List X → X → Type 0)
    (items before : List X) (here : X) : Type 0 where
  pub after : List X
  pub whole : items ≡ before ++ (here ∷ after)
  pub fails : Fails before here
  pub earlier : FailsNowhere Fails before

-- the first mention of a function that breaks a rule breaks this one
pub record Breaks (names : List (List ℕ)) (f : FunctionTree) (rule : ℕ) : Type 0 where
  pub before : List Mention
  pub mention : Mention
  pub first : IsFirst (λ past m. IsSome (rule_broken names (reverse past) m))
      (mentions_of_statements f.body) before mention
  pub broken : rule_broken names (reverse before) mention ≡ Some rule

-- a function has the name of one before it
abbrev pub HasNamesake : List FunctionTree → FunctionTree → Type 0
HasNamesake before f = is_among f.name (names_of before) ≡ true

-- the rule that a program breaks first, and the number of the function in which it does
pub data IsBreach (program : List FunctionTree) : (rule function : ℕ) → Type 0 where
  -- the later of two functions of one name
  same_name : (before : List FunctionTree) (f : FunctionTree)
      → IsFirst HasNamesake program before f → IsBreach program 1 (length before + 1)
  -- no function that the first EDT runs
  no_main : FailsNowhere HasNamesake program → is_among main_name (names_of program) ≡ false
      → IsBreach program 2 0
  -- a mention of the body of the first function that has one
  in_body : (before : List FunctionTree) (f : FunctionTree) (rule : ℕ)
      → FailsNowhere HasNamesake program → is_among main_name (names_of program) ≡ true
      → IsFirst (λ _ g. (n : ℕ) × Breaks (names_of program) g n) program before f
      → Breaks (names_of program) f rule → IsBreach program rule (length before + 1)

-- the program breaks no rule
abbrev pub BreaksNoRule : List FunctionTree → Type 0
BreaksNoRule program = (rule function : ℕ) → IsBreach program rule function → ⊥

-- a program has at most one first breach
abbrev pub BreachLaw : Type 0
BreachLaw = (program : List FunctionTree) (rule function other_rule other_function : ℕ)
    → IsBreach program rule function → IsBreach program other_rule other_function
    → (rule ≡ other_rule) × (function ≡ other_function)
