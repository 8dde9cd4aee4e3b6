-- What the walk over a tree finds is what its mentions say.
use Rattle.std.proofs.Common.{◌≡◌, ℕ, suc, Bool, true, false, cond, ◌||◌, List, [], ◌∷◌, ◌++◌, length, Option, None, Some, refl, sym, ap, ◌∙◌, subst, length-append, add-one}
use Rattle.std.proofs.Math.Bool.{or_comm}
use Rattle.std.proofs.lemmas.List.Folds.{list_any-append}
use Rattle.std.specs.Bool.{nat_lt}
use Rattle.std.specs.Option.{option_or}
use Rattle.std.specs.Str.{bytes_eq}
use Rattle.ocr_program_tree.specs.Tree.{Expression, Statement, Statements, FunctionTree}
use Rattle.ocr_program_tree.specs.Tree as tree
use Rattle.ocr_program_check.specs.Check.{Mention, rule_broken, is_among, is_declared, let_names, mentions_of_expression, mentions_of_statement, mentions_of_statements}
use Rattle.ocr_program_check.specs.declared.names.TheConstants.{MOST_LETS}
use Rattle.ocr_program_check.specs.Check as check
use Rattle.ocr_program_check.specs.Checked.{mention_rule, expression_rule, value_rule, let_rule, with_name, Declarations, Outcome, Passed, Broken, told, and_then, leaving, statement_outcome, statements_outcome, rule_of, function_rule, no_declarations, mentions_of}
use Rattle.ocr_program_check.proofs.Parts.{or_of_none, or_first}
use Rattle.ocr_program_check.proofs.Mentions.{onto, onto-append, first_broken, first_broken-append, option_or-None, IsQuiet, quiet-used, quiet-expression, IsInner, inner-statements, block, block-declared, known_of, expression_agrees}

-- the names that are kept are those that the mentions tell of
pub record Tracks (k : Declarations) (past : List Mention) : Type 0 where
  pub lets : (x : List ℕ) → is_among x k.lets ≡ is_among x (let_names past)
  pub count : length k.lets ≡ length (let_names past)
  pub declared : (x : List ℕ) → is_among x k.declared ≡ is_declared 0 x past

-- an outcome is what the mentions after these say
abbrev pub Tells : List (List ℕ) → List Mention → Outcome → List Mention → Type 0
Tells names past (Passed k) mentions = (first_broken names past mentions ≡ None) × Tracks k (onto past mentions)
Tells names past (Broken r) mentions = first_broken names past mentions ≡ Some r

tracks-quiet : (k : Declarations) (past mentions : List Mention) → IsQuiet mentions → Tracks k past → Tracks k (onto past mentions)
tracks-quiet k past mentions q t = record {
  lets = λ x. t.lets x ∙ ap (λ (ys : List (List ℕ)). is_among x ys) (sym (q.lets past));
  count = t.count ∙ ap (λ (ys : List (List ℕ)). length ys) (sym (q.lets past));
  declared = λ x. t.declared x ∙ sym (q.declared past 0 x);
}

tells-told : (names : List (List ℕ)) (past : List Mention) (k : Declarations) (o : Option ℕ) (mentions : List Mention) → IsQuiet mentions → Tracks k past → first_broken names past mentions ≡ o → Tells names past (told k o) mentions
tells-told names past k None mentions q t e = (e, tracks-quiet k past mentions q t)
tells-told names past k (Some r) mentions q t e = e

tells-after : (names : List (List ℕ)) (past xs ys : List Mention) (o : Outcome) → first_broken names past xs ≡ None → Tells names (onto past xs) o ys → Tells names past o (xs ++ ys)
tells-after names past xs ys (Passed k) e t = (
  first_broken-append names past xs ys ∙ or_of_none (first_broken names past xs) (first_broken names (onto past xs) ys) e ∙ t.0,
  subst (λ (es : List Mention). Tracks k es) (sym (onto-append past xs ys)) t.1,
)
tells-after names past xs ys (Broken r) e t =
    first_broken-append names past xs ys ∙ or_of_none (first_broken names past xs) (first_broken names (onto past xs) ys) e ∙ t

-- one part after another
tells-then : (names : List (List ℕ)) (past xs ys : List Mention) (o : Outcome) (next : Declarations → Outcome) → Tells names past o xs → ((k : Declarations) → Tracks k (onto past xs) → Tells names (onto past xs) (next k) ys) → Tells names past (and_then o next) (xs ++ ys)
tells-then names past xs ys (Passed k) next t more = tells-after names past xs ys (next k) t.0 (more k t.1)
tells-then names past xs ys (Broken r) next t more =
    first_broken-append names past xs ys ∙ or_first (first_broken names past xs) (first_broken names (onto past xs) ys) r t

-- a block that is left
tells-leaving : (names : List (List ℕ)) (past inner : List Mention) (k : Declarations) (o : Outcome) → IsInner inner → Tracks k past → Tells names (check.BlockOpened ∷ past) o inner → Tells names past (leaving k o) (block inner)
tells-leaving names past inner k (Passed m) p t u = (
  first_broken-append names (check.BlockOpened ∷ past) inner (check.BlockClosed ∷ [])
      ∙ or_of_none (first_broken names (check.BlockOpened ∷ past) inner) None u.0,
  record {
    lets = λ x. u.1.lets x ∙ ap (λ (es : List Mention). is_among x (let_names es)) (sym (onto-append (check.BlockOpened ∷ past) inner (check.BlockClosed ∷ [])));
    count = u.1.count ∙ ap (λ (es : List Mention). length (let_names es)) (sym (onto-append (check.BlockOpened ∷ past) inner (check.BlockClosed ∷ [])));
    declared = λ x. t.declared x ∙ sym (block-declared inner p past 0 x);
  },
)
tells-leaving names past inner k (Broken r) p t u =
    first_broken-append names (check.BlockOpened ∷ past) inner (check.BlockClosed ∷ [])
    ∙ or_first (first_broken names (check.BlockOpened ∷ past) inner) None r u

tracks-block : (k : Declarations) (past : List Mention) → Tracks k past → Tracks k (check.BlockOpened ∷ past)
tracks-block k past t = record { lets = λ x. t.lets x; count = t.count; declared = λ x. t.declared x }

-- the rule of a value, by the names that are kept
value_agrees : (names : List (List ℕ)) (past : List Mention) (k : Declarations) (e : Expression) → Tracks k past → first_broken names past (mentions_of_expression e) ≡ value_rule (known_of names) k e
value_agrees names past k e t =
    expression_agrees names past e ∙ (λ i. expression_rule (known_of names) (λ x. sym (t.declared x) i) e)

let_agrees : (names : List (List ℕ)) (past : List Mention) (k : Declarations) (x : List ℕ) → Tracks k past → rule_broken names past (check.LetBegins x) ≡ let_rule k x
let_agrees names past k x t = λ i. cond (sym (t.lets x) i) (Some 3) (cond (nat_lt (sym t.count i) MOST_LETS) None (Some 7))

-- after a `let` its name is let and declared
among-push : (x y : List ℕ) (ys : List (List ℕ)) (b : Bool) → is_among y ys ≡ b → is_among y (ys ++ (x ∷ [])) ≡ (bytes_eq x y || b)
among-push x y ys b e =
    list_any-append (λ (z : List ℕ). bytes_eq z y) ys (x ∷ [])
    ∙ or_comm (is_among y ys) (bytes_eq x y || false)
    ∙ (λ i. or_false (bytes_eq x y) i || e i)
  where
    or_false : (c : Bool) → (c || false) ≡ c
    or_false true = refl
    or_false false = refl

tracks-let : (k : Declarations) (past middle : List Mention) (x : List ℕ) → IsQuiet middle → Tracks k past → Tracks (with_name k x) (check.Declared x ∷ onto (check.LetBegins x ∷ past) middle)
tracks-let k past middle x q t = record {
  lets = λ y. among-push x y k.lets (is_among y (let_names past)) (t.lets y) ∙ ap (λ (ys : List (List ℕ)). is_among y ys) (sym (q.lets (check.LetBegins x ∷ past)));
  count = length-append k.lets (x ∷ []) ∙ add-one (length k.lets) ∙ ap (λ (n : ℕ). suc n) t.count ∙ ap (λ (ys : List (List ℕ)). length ys) (sym (q.lets (check.LetBegins x ∷ past)));
  declared = λ y. among-push x y k.declared (is_declared 0 y past) (t.declared y) ∙ ap (λ (b : Bool). bytes_eq x y || b) (sym (q.declared (check.LetBegins x ∷ past) 0 y));
}

let_parts : (names : List (List ℕ)) (past : List Mention) (k : Declarations) (x : List ℕ) (e : Expression) → Tracks k past
    → first_broken names past (check.LetBegins x ∷ (mentions_of_expression e ++ (check.Declared x ∷ []))) ≡ option_or (let_rule k x) (value_rule (known_of names) k e)
let_parts names past k x e t =
    let opened : List Mention = check.LetBegins x ∷ past in
    let value : first_broken names opened (mentions_of_expression e) ≡ value_rule (known_of names) k e =
    expression_agrees names opened e ∙ (λ i. expression_rule (known_of names) (λ y. sym (t.declared y) i) e) in
    let whole : first_broken names opened (mentions_of_expression e ++ (check.Declared x ∷ [])) ≡ value_rule (known_of names) k e =
    first_broken-append names opened (mentions_of_expression e) (check.Declared x ∷ [])
    ∙ option_or-None (first_broken names opened (mentions_of_expression e)) ∙ value in
    λ i. option_or (let_agrees names past k x t i) (whole i)

tells-let : (names : List (List ℕ)) (past : List Mention) (k : Declarations) (x : List ℕ) (e : Expression) (o : Option ℕ) → Tracks k past
    → first_broken names past (check.LetBegins x ∷ (mentions_of_expression e ++ (check.Declared x ∷ []))) ≡ o
    → Tells names past (and_then (told k o) (λ m. Passed (with_name m x))) (check.LetBegins x ∷ (mentions_of_expression e ++ (check.Declared x ∷ [])))
tells-let names past k x e None t is = (
  is,
  subst (λ (es : List Mention). Tracks (with_name k x) es) (sym (onto-append (check.LetBegins x ∷ past) (mentions_of_expression e) (check.Declared x ∷ [])))
      (tracks-let k past (mentions_of_expression e) x (quiet-expression e) t),
)
tells-let names past k x e (Some r) t is = is

assign_agrees : (names : List (List ℕ)) (past : List Mention) (k : Declarations) (x : List ℕ) (e : Expression) → Tracks k past
    → first_broken names past (check.Used x ∷ mentions_of_expression e) ≡ option_or (mention_rule (known_of names) (λ y. is_among y k.declared) (check.Used x)) (value_rule (known_of names) k e)
assign_agrees names past k x e t =
    ap (λ (o : Option ℕ). option_or (rule_broken names past (check.Used x)) o) (expression_agrees names (check.Used x ∷ past) e)
    ∙ (λ i. option_or (cond (sym (t.declared x) i) None (Some 4)) (expression_rule (known_of names) (λ y. sym (t.declared y) i) e))

tells-value : (names : List (List ℕ)) (past : List Mention) (k : Declarations) (e : Expression) → Tracks k past → Tells names past (told k (value_rule (known_of names) k e)) (mentions_of_expression e)
tells-value names past k e t = tells-told names past k (value_rule (known_of names) k e) (mentions_of_expression e) (quiet-expression e) t (value_agrees names past k e t)

mutual
  pub statement_tells : (names : List (List ℕ)) (s : Statement) (past : List Mention) (k : Declarations) → Tracks k past → Tells names past (statement_outcome (known_of names) s k) (mentions_of_statement s)
  statement_tells names (tree.Let x e) past k t = tells-let names past k x e (option_or (let_rule k x) (value_rule (known_of names) k e)) t (let_parts names past k x e t)
  statement_tells names (tree.Assign x e) past k t =
      tells-told names past k (option_or (mention_rule (known_of names) (λ y. is_among y k.declared) (check.Used x)) (value_rule (known_of names) k e)) (check.Used x ∷ mentions_of_expression e)
      (quiet-used x (mentions_of_expression e) (quiet-expression e)) t (assign_agrees names past k x e t)
  statement_tells names (tree.If e first second) past k t =
      tells-then names past (mentions_of_expression e) (block (mentions_of_statements first) ++ block (mentions_of_statements second)) (told k (value_rule (known_of names) k e))
      (λ m. and_then (leaving m (statements_outcome (known_of names) first m)) (λ n. leaving n (statements_outcome (known_of names) second n)))
      (tells-value names past k e t)
      (λ m u. tells-then names (onto past (mentions_of_expression e)) (block (mentions_of_statements first)) (block (mentions_of_statements second)) (leaving m (statements_outcome (known_of names) first m))
      (λ n. leaving n (statements_outcome (known_of names) second n))
      (tells-leaving names (onto past (mentions_of_expression e)) (mentions_of_statements first) m (statements_outcome (known_of names) first m) (inner-statements first) u
      (statements_tell names first (check.BlockOpened ∷ onto past (mentions_of_expression e)) m (tracks-block m (onto past (mentions_of_expression e)) u)))
      (λ n v. tells-leaving names (onto (onto past (mentions_of_expression e)) (block (mentions_of_statements first))) (mentions_of_statements second) n (statements_outcome (known_of names) second n) (inner-statements second) v
      (statements_tell names second (check.BlockOpened ∷ onto (onto past (mentions_of_expression e)) (block (mentions_of_statements first))) n (tracks-block n (onto (onto past (mentions_of_expression e)) (block (mentions_of_statements first))) v))))
  statement_tells names (tree.While e body) past k t =
      tells-then names past (mentions_of_expression e) (block (mentions_of_statements body)) (told k (value_rule (known_of names) k e)) (λ m. leaving m (statements_outcome (known_of names) body m))
      (tells-value names past k e t)
      (λ m u. tells-leaving names (onto past (mentions_of_expression e)) (mentions_of_statements body) m (statements_outcome (known_of names) body m) (inner-statements body) u
      (statements_tell names body (check.BlockOpened ∷ onto past (mentions_of_expression e)) m (tracks-block m (onto past (mentions_of_expression e)) u)))
  statement_tells names (tree.Print e) past k t = tells-value names past k e t
  statement_tells names (tree.Return e) past k t = tells-value names past k e t
  statement_tells names (tree.Do call xs) past k t = tells-value names past k (tree.Invoked call xs) t

  pub statements_tell : (names : List (List ℕ)) (ss : Statements) (past : List Mention) (k : Declarations) → Tracks k past → Tells names past (statements_outcome (known_of names) ss k) (mentions_of_statements ss)
  statements_tell names tree.nothing past k t = (refl, t)
  statements_tell names (tree.statement s rest) past k t =
      tells-then names past (mentions_of_statement s) (mentions_of_statements rest) (statement_outcome (known_of names) s k) (λ m. statements_outcome (known_of names) rest m)
      (statement_tells names s past k t) (λ m u. statements_tell names rest (onto past (mentions_of_statement s)) m u)

rule_tells : (names : List (List ℕ)) (past : List Mention) (o : Outcome) (mentions : List Mention) → Tells names past o mentions → rule_of o ≡ first_broken names past mentions
rule_tells names past (Passed k) mentions t = sym t.0
rule_tells names past (Broken r) mentions t = sym t

-- the rule that a function breaks first
pub function_agrees : (names : List (List ℕ)) (f : FunctionTree) → function_rule (known_of names) f ≡ first_broken names [] (mentions_of f)
function_agrees names f =
    rule_tells names [] (statements_outcome (known_of names) f.body no_declarations) (mentions_of f)
    (statements_tell names f.body [] no_declarations (record { lets = λ x. refl; count = refl; declared = λ x. refl }))
