-- The mentions of a function one after the other: what they leave to the mentions after them.
use Rattle.std.proofs.Common.{◌≡◌, ℕ, suc, Bool, List, [], ◌∷◌, ◌++◌, Option, None, Some, refl, sym, ap, ◌∙◌}
use Rattle.std.specs.Option.{option_or}
use Rattle.ocr_program_tree.specs.Tree.{Expression, Arguments, Statement, Statements}
use Rattle.ocr_program_tree.specs.Tree as tree
use Rattle.ocr_program_check.specs.Check.{Mention, rule_broken, is_among, is_declared, let_names, mention_of_name, count_of, mentions_of_expression, mentions_of_arguments, mentions_of_statement, mentions_of_statements}
use Rattle.ocr_program_check.specs.Check as check
use Rattle.ocr_program_check.specs.Checked.{mention_rule, expression_rule, arguments_rule}
use Rattle.ocr_program_tree.specs.declared.tree.CallName.{CallName}
use Rattle.ocr_program_tree.specs.declared.tree.CallName.TheVariants as name
use Rattle.ocr_program_tree.specs.declared.rules.TheConstants.{MOST_PARAMETERS, MOST_DEPENDENCES}

-- the mentions after these, newest first
abbrev pub onto : List Mention → List Mention → List Mention
onto past [] = past
onto past (e ∷ mentions) = onto (e ∷ past) mentions

pub onto-append : (past xs ys : List Mention) → onto past (xs ++ ys) ≡ onto (onto past xs) ys
onto-append past [] ys = refl
onto-append past (x ∷ xs) ys = onto-append (x ∷ past) xs ys

-- the rule that is broken first among the mentions
abbrev pub first_broken : List (List ℕ) → List Mention → List Mention → Option ℕ
first_broken names past [] = None
first_broken names past (e ∷ mentions) = option_or (rule_broken names past e) (first_broken names (e ∷ past) mentions)

pub option_or-assoc : (a b c : Option ℕ) → option_or (option_or a b) c ≡ option_or a (option_or b c)
option_or-assoc None b c = refl
option_or-assoc (Some x) b c = refl

pub option_or-None : (a : Option ℕ) → option_or a None ≡ a
option_or-None None = refl
option_or-None (Some x) = refl

pub first_broken-append : (names : List (List ℕ)) (past xs ys : List Mention)
    → first_broken names past (xs ++ ys) ≡ option_or (first_broken names past xs) (first_broken names (onto past xs) ys)
first_broken-append names past [] ys = refl
first_broken-append names past (x ∷ xs) ys =
    ap (λ (o : Option ℕ). option_or (rule_broken names past x) o) (first_broken-append names (x ∷ past) xs ys)
    ∙ sym (option_or-assoc (rule_broken names past x) (first_broken names (x ∷ past) xs) (first_broken names (onto (x ∷ past) xs) ys))

-- the mentions let no name, declare none, and stay in their block
pub record IsQuiet (mentions : List Mention) : Type 0 where
  pub lets : (past : List Mention) → let_names (onto past mentions) ≡ let_names past
  pub declared : (past : List Mention) (n : ℕ) (x : List ℕ) → is_declared n x (onto past mentions) ≡ is_declared n x past

quiet-nil : IsQuiet []
quiet-nil = record { lets = λ past. refl; declared = λ past n x. refl }

quiet-append : (xs ys : List Mention) → IsQuiet xs → IsQuiet ys → IsQuiet (xs ++ ys)
quiet-append xs ys p q = record {
  lets = λ past. ap let_names (onto-append past xs ys) ∙ q.lets (onto past xs) ∙ p.lets past;
  declared = λ past n x. ap (λ (es : List Mention). is_declared n x es) (onto-append past xs ys) ∙ q.declared (onto past xs) n x ∙ p.declared past n x;
}

pub quiet-used : (y : List ℕ) (es : List Mention) → IsQuiet es → IsQuiet (check.Used y ∷ es)
quiet-used y es q = record { lets = λ past. q.lets (check.Used y ∷ past); declared = λ past n x. q.declared (check.Used y ∷ past) n x }

quiet-function : (y : List ℕ) (es : List Mention) → IsQuiet es → IsQuiet (check.FunctionNamed y ∷ es)
quiet-function y es q = record { lets = λ past. q.lets (check.FunctionNamed y ∷ past); declared = λ past n x. q.declared (check.FunctionNamed y ∷ past) n x }

quiet-list : (most : ℕ) (k : ℕ) (es : List Mention) → IsQuiet es → IsQuiet (check.ListClosed most k ∷ es)
quiet-list most k es q = record { lets = λ past. q.lets (check.ListClosed most k ∷ past); declared = λ past n x. q.declared (check.ListClosed most k ∷ past) n x }

quiet-mention_of_name : (call : CallName) (y : List ℕ) (es : List Mention) → IsQuiet es → IsQuiet (mention_of_name call y ∷ es)
quiet-mention_of_name name.TemplateCreate y es q = quiet-function y es q
quiet-mention_of_name other y es q = quiet-used y es q

mutual
  pub quiet-expression : (e : Expression) → IsQuiet (mentions_of_expression e)
  quiet-expression (tree.Number n) = quiet-nil
  quiet-expression (tree.Named c) = quiet-nil
  quiet-expression (tree.Var x) = quiet-used x [] quiet-nil
  quiet-expression tree.Paramc = quiet-nil
  quiet-expression tree.Depc = quiet-nil
  quiet-expression tree.LastCode = quiet-nil
  quiet-expression (tree.Paramv e) = quiet-expression e
  quiet-expression (tree.Depv e) = quiet-expression e
  quiet-expression (tree.Unary op e) = quiet-expression e
  quiet-expression (tree.Binary op a b) = quiet-append (mentions_of_expression a) (mentions_of_expression b) (quiet-expression a) (quiet-expression b)
  quiet-expression (tree.Invoked call xs) = quiet-arguments call MOST_PARAMETERS xs

  pub quiet-arguments : (call : CallName) (most : ℕ) (xs : Arguments) → IsQuiet (mentions_of_arguments call most xs)
  quiet-arguments call most tree.empty = quiet-nil
  quiet-arguments call most (tree.value e rest) =
      quiet-append (mentions_of_expression e) (mentions_of_arguments call most rest) (quiet-expression e) (quiet-arguments call most rest)
  quiet-arguments call most (tree.list members rest) =
      quiet-append (mentions_of_arguments call most members) (check.ListClosed most (count_of members) ∷ mentions_of_arguments call MOST_DEPENDENCES rest) (quiet-arguments call most members)
      (quiet-list most (count_of members) (mentions_of_arguments call MOST_DEPENDENCES rest) (quiet-arguments call MOST_DEPENDENCES rest))
  quiet-arguments call most (tree.named x rest) = quiet-mention_of_name call x (mentions_of_arguments call most rest) (quiet-arguments call most rest)

-- the functions and the variables that a mention of an expression may name
abbrev pub known_of : List (List ℕ) → List ℕ → Bool
known_of names x = is_among x names

abbrev pub declared_of : List Mention → List ℕ → Bool
declared_of past x = is_declared 0 x past

name_mention_rule : (names : List (List ℕ)) (past : List Mention) (call : CallName) (y : List ℕ)
    → rule_broken names past (mention_of_name call y) ≡ mention_rule (known_of names) (declared_of past) (mention_of_name call y)
name_mention_rule names past name.TemplateCreate y = refl
name_mention_rule names past other y = refl

-- quiet mentions leave the same variables declared
still : (past mentions : List Mention) → IsQuiet mentions → declared_of (onto past mentions) ≡ declared_of past
still past mentions q = λ i x. q.declared past 0 x i

mutual
  pub expression_agrees : (names : List (List ℕ)) (past : List Mention) (e : Expression)
      → first_broken names past (mentions_of_expression e) ≡ expression_rule (known_of names) (declared_of past) e
  expression_agrees names past (tree.Number n) = refl
  expression_agrees names past (tree.Named c) = refl
  expression_agrees names past (tree.Var x) = option_or-None (rule_broken names past (check.Used x))
  expression_agrees names past tree.Paramc = refl
  expression_agrees names past tree.Depc = refl
  expression_agrees names past tree.LastCode = refl
  expression_agrees names past (tree.Paramv e) = expression_agrees names past e
  expression_agrees names past (tree.Depv e) = expression_agrees names past e
  expression_agrees names past (tree.Unary op e) = expression_agrees names past e
  expression_agrees names past (tree.Binary op a b) =
      first_broken-append names past (mentions_of_expression a) (mentions_of_expression b)
      ∙ (λ i. option_or (expression_agrees names past a i) (expression_agrees names (onto past (mentions_of_expression a)) b i))
      ∙ ap (λ (d : List ℕ → Bool). option_or (expression_rule (known_of names) (declared_of past) a) (expression_rule (known_of names) d b))
      (still past (mentions_of_expression a) (quiet-expression a))
  expression_agrees names past (tree.Invoked call xs) = arguments_agree names past call MOST_PARAMETERS xs

  pub arguments_agree : (names : List (List ℕ)) (past : List Mention) (call : CallName) (most : ℕ) (xs : Arguments)
      → first_broken names past (mentions_of_arguments call most xs) ≡ arguments_rule (known_of names) (declared_of past) call most xs
  arguments_agree names past call most tree.empty = refl
  arguments_agree names past call most (tree.value e rest) =
      first_broken-append names past (mentions_of_expression e) (mentions_of_arguments call most rest)
      ∙ (λ i. option_or (expression_agrees names past e i) (arguments_agree names (onto past (mentions_of_expression e)) call most rest i))
      ∙ ap (λ (d : List ℕ → Bool). option_or (expression_rule (known_of names) (declared_of past) e) (arguments_rule (known_of names) d call most rest))
      (still past (mentions_of_expression e) (quiet-expression e))
  arguments_agree names past call most (tree.list members rest) =
      let inner : List Mention = mentions_of_arguments call most members in
      let close : Mention = check.ListClosed most (count_of members) in
      first_broken-append names past inner (close ∷ mentions_of_arguments call MOST_DEPENDENCES rest)
      ∙ (λ i. option_or (arguments_agree names past call most members i) (option_or (rule_broken names past close) (arguments_agree names (close ∷ onto past inner) call MOST_DEPENDENCES rest i)))
      ∙ ap (λ (d : List ℕ → Bool). option_or (arguments_rule (known_of names) (declared_of past) call most members) (option_or (rule_broken names past close) (arguments_rule (known_of names) d call MOST_DEPENDENCES rest)))
      (still past inner (quiet-arguments call most members))
  arguments_agree names past call most (tree.named x rest) =
      (λ i. option_or (name_mention_rule names past call x i) (arguments_agree names (mention_of_name call x ∷ past) call most rest i))
      ∙ ap (λ (d : List ℕ → Bool). option_or (mention_rule (known_of names) (declared_of past) (mention_of_name call x)) (arguments_rule (known_of names) d call most rest))
      (still past (mention_of_name call x ∷ []) (quiet-mention_of_name call x [] quiet-nil))

-- the mentions of a block with these inside
abbrev pub block : List Mention → List Mention
block inner = check.BlockOpened ∷ (inner ++ (check.BlockClosed ∷ []))

-- what is declared in a block that was left is not seen
pub record IsInner (mentions : List Mention) : Type 0 where
  pub unseen : (past : List Mention) (n : ℕ) (x : List ℕ) → is_declared (suc n) x (onto past mentions) ≡ is_declared (suc n) x past

inner-nil : IsInner []
inner-nil = record { unseen = λ past n x. refl }

inner-append : (xs ys : List Mention) → IsInner xs → IsInner ys → IsInner (xs ++ ys)
inner-append xs ys p q = record {
  unseen = λ past n x. ap (λ (es : List Mention). is_declared (suc n) x es) (onto-append past xs ys) ∙ q.unseen (onto past xs) n x ∙ p.unseen past n x;
}

inner-quiet : (xs : List Mention) → IsQuiet xs → IsInner xs
inner-quiet xs q = record { unseen = λ past n x. q.declared past (suc n) x }

-- a block leaves what was declared before it
pub block-declared : (inner : List Mention) → IsInner inner → (past : List Mention) (n : ℕ) (x : List ℕ)
    → is_declared n x (onto past (block inner)) ≡ is_declared n x past
block-declared inner p past n x =
    ap (λ (es : List Mention). is_declared n x es) (onto-append (check.BlockOpened ∷ past) inner (check.BlockClosed ∷ []))
    ∙ p.unseen (check.BlockOpened ∷ past) n x

inner-block : (inner : List Mention) → IsInner inner → IsInner (block inner)
inner-block inner p = record { unseen = λ past n x. block-declared inner p past (suc n) x }

inner-let : (x : List ℕ) (e : Expression) → IsInner (check.LetBegins x ∷ (mentions_of_expression e ++ (check.Declared x ∷ [])))
inner-let y e = record {
  unseen = λ past n x. ap (λ (es : List Mention). is_declared (suc n) x es) (onto-append (check.LetBegins y ∷ past) (mentions_of_expression e) (check.Declared y ∷ []))
      ∙ (quiet-expression e).declared (check.LetBegins y ∷ past) (suc n) x;
}

mutual
  pub inner-statement : (s : Statement) → IsInner (mentions_of_statement s)
  inner-statement (tree.Let x e) = inner-let x e
  inner-statement (tree.Assign x e) = inner-quiet (check.Used x ∷ mentions_of_expression e) (quiet-used x (mentions_of_expression e) (quiet-expression e))
  inner-statement (tree.If e first second) =
      inner-append (mentions_of_expression e) (block (mentions_of_statements first) ++ block (mentions_of_statements second)) (inner-quiet (mentions_of_expression e) (quiet-expression e))
      (inner-append (block (mentions_of_statements first)) (block (mentions_of_statements second)) (inner-block (mentions_of_statements first) (inner-statements first))
      (inner-block (mentions_of_statements second) (inner-statements second)))
  inner-statement (tree.While e body) =
      inner-append (mentions_of_expression e) (block (mentions_of_statements body)) (inner-quiet (mentions_of_expression e) (quiet-expression e))
      (inner-block (mentions_of_statements body) (inner-statements body))
  inner-statement (tree.Print e) = inner-quiet (mentions_of_expression e) (quiet-expression e)
  inner-statement (tree.Return e) = inner-quiet (mentions_of_expression e) (quiet-expression e)
  inner-statement (tree.Do call xs) = inner-quiet (mentions_of_expression (tree.Invoked call xs)) (quiet-expression (tree.Invoked call xs))

  pub inner-statements : (ss : Statements) → IsInner (mentions_of_statements ss)
  inner-statements tree.nothing = inner-nil
  inner-statements (tree.statement s rest) = inner-append (mentions_of_statement s) (mentions_of_statements rest) (inner-statement s) (inner-statements rest)
