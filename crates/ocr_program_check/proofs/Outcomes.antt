-- Where the parts of a function lead.
use Rattle.std.proofs.Common.{◌≡◌, ℕ, Bool, Vec, Global, List, [], ◌∷◌, ◌++◌, length, take, subst, Option, None, Some, refl, sym, ap, ◌∙◌}
use Rattle.std.specs.Option.{option_or}
use Rattle.std.proofs.lemmas.List.{append_assoc, append-nil}
use Rattle.std.proofs.Math.Seq.{take-append_seam}
use Rattle.ocr_program_tree.specs.Tree as tree
use Rattle.ocr_program_tree.specs.Tree.{Expression, Statement, Statements}
use Rattle.ocr_program_check.specs.Checked.{Declarations, Outcome, Passed, Broken, told, and_then, leaving, let_rule, value_rule, with_name, statement_outcome, statements_outcome, rule_of}
use Rattle.ocr_program_tree.specs.View.{expression_of, statement_of, statements_of}
use Rattle.ocr_program_tree.specs.declared.tree.Expr.{Expr}
use Rattle.ocr_program_tree.specs.declared.tree.Stmt.{Stmt}
use Rattle.ocr_program_tree.specs.declared.tree.Stmt.TheViews as views
use Rattle.ocr_program_check.proofs.Parts.{or_both, or_first, or_second}
use Rattle.ocr_program_tree.proofs.Rows.{if_view, while_view}

pub told_none : (k : Declarations) (o : Option ℕ) → o ≡ None → told k o ≡ Passed k
told_none k o e = ap (λ (p : Option ℕ). told k p) e

pub told_some : (k : Declarations) (o : Option ℕ) (r : ℕ) → o ≡ Some r → told k o ≡ Broken r
told_some k o r e = ap (λ (p : Option ℕ). told k p) e

after_passed : (o : Outcome) (next : Declarations → Outcome) (k : Declarations) → o ≡ Passed k → and_then o next ≡ next k
after_passed o next k e = ap (λ (p : Outcome). and_then p next) e

after_broken : (o : Outcome) (next : Declarations → Outcome) (r : ℕ) → o ≡ Broken r → and_then o next ≡ Broken r
after_broken o next r e = ap (λ (p : Outcome). and_then p next) e

pub let_passes : (known : List ℕ → Bool) (k m : Declarations) (x : List ℕ) (e : Expression) → let_rule k x ≡ None → value_rule known k e ≡ None → m ≡ with_name k x → statement_outcome known (tree.Let x e) k ≡ Passed m
let_passes known k m x e p q w =
    after_passed (told k (option_or (let_rule k x) (value_rule known k e))) (λ n. Passed (with_name n x)) k (told_none k (option_or (let_rule k x) (value_rule known k e)) (or_both (let_rule k x) (value_rule known k e) p q))
    ∙ ap Passed (sym w)

pub let_name_breaks : (known : List ℕ → Bool) (k : Declarations) (x : List ℕ) (e : Expression) (r : ℕ) → let_rule k x ≡ Some r → statement_outcome known (tree.Let x e) k ≡ Broken r
let_name_breaks known k x e r p =
    after_broken (told k (option_or (let_rule k x) (value_rule known k e))) (λ n. Passed (with_name n x)) r (told_some k (option_or (let_rule k x) (value_rule known k e)) r (or_first (let_rule k x) (value_rule known k e) r p))

pub let_value_breaks : (known : List ℕ → Bool) (k : Declarations) (x : List ℕ) (e : Expression) (r : ℕ) → let_rule k x ≡ None → value_rule known k e ≡ Some r → statement_outcome known (tree.Let x e) k ≡ Broken r
let_value_breaks known k x e r p q =
    after_broken (told k (option_or (let_rule k x) (value_rule known k e))) (λ n. Passed (with_name n x)) r (told_some k (option_or (let_rule k x) (value_rule known k e)) r (or_second (let_rule k x) (value_rule known k e) r p q))

-- an `if` with these parts
if_is : (known : List ℕ → Bool) (k : Declarations) (s : Stmt) (test : Expr) (first second : Vec Stmt Global) → s ≡ views.If test first second
    → statement_outcome known (statement_of s) k ≡ statement_outcome known (tree.If (expression_of test) (statements_of first.items) (statements_of second.items)) k
if_is known k s test first second is = ap (λ (t : Statement). statement_outcome known t k) (ap statement_of is ∙ if_view test first second)

pub if_test_breaks : (known : List ℕ → Bool) (k : Declarations) (s : Stmt) (test : Expr) (first second : Vec Stmt Global) (r : ℕ) → s ≡ views.If test first second
    → value_rule known k (expression_of test) ≡ Some r → statement_outcome known (statement_of s) k ≡ Broken r
if_test_breaks known k s test first second r is p =
    if_is known k s test first second is
    ∙ after_broken (told k (value_rule known k (expression_of test)))
    (λ m. and_then (leaving m (statements_outcome known (statements_of first.items) m)) (λ n. leaving n (statements_outcome known (statements_of second.items) n))) r
    (told_some k (value_rule known k (expression_of test)) r p)

-- after the test
if_goes_on : (known : List ℕ → Bool) (k : Declarations) (s : Stmt) (test : Expr) (first second : Vec Stmt Global) → s ≡ views.If test first second
    → value_rule known k (expression_of test) ≡ None
    → statement_outcome known (statement_of s) k ≡ and_then (leaving k (statements_outcome known (statements_of first.items) k)) (λ n. leaving n (statements_outcome known (statements_of second.items) n))
if_goes_on known k s test first second is p =
    if_is known k s test first second is
    ∙ after_passed (told k (value_rule known k (expression_of test)))
    (λ m. and_then (leaving m (statements_outcome known (statements_of first.items) m)) (λ n. leaving n (statements_outcome known (statements_of second.items) n))) k
    (told_none k (value_rule known k (expression_of test)) p)

pub if_first_breaks : (known : List ℕ → Bool) (k : Declarations) (s : Stmt) (test : Expr) (first second : Vec Stmt Global) (r : ℕ) → s ≡ views.If test first second
    → value_rule known k (expression_of test) ≡ None → leaving k (statements_outcome known (statements_of first.items) k) ≡ Broken r
    → statement_outcome known (statement_of s) k ≡ Broken r
if_first_breaks known k s test first second r is p q =
    if_goes_on known k s test first second is p
    ∙ after_broken (leaving k (statements_outcome known (statements_of first.items) k)) (λ n. leaving n (statements_outcome known (statements_of second.items) n)) r q

pub if_second : (known : List ℕ → Bool) (k m : Declarations) (s : Stmt) (test : Expr) (first second : Vec Stmt Global) → s ≡ views.If test first second
    → value_rule known k (expression_of test) ≡ None → leaving k (statements_outcome known (statements_of first.items) k) ≡ Passed m
    → statement_outcome known (statement_of s) k ≡ leaving m (statements_outcome known (statements_of second.items) m)
if_second known k m s test first second is p q =
    if_goes_on known k s test first second is p
    ∙ after_passed (leaving k (statements_outcome known (statements_of first.items) k)) (λ n. leaving n (statements_outcome known (statements_of second.items) n)) m q

-- a `while` with these parts
while_is : (known : List ℕ → Bool) (k : Declarations) (s : Stmt) (test : Expr) (body : Vec Stmt Global) → s ≡ views.While test body
    → statement_outcome known (statement_of s) k ≡ statement_outcome known (tree.While (expression_of test) (statements_of body.items)) k
while_is known k s test body is = ap (λ (t : Statement). statement_outcome known t k) (ap statement_of is ∙ while_view test body)

pub while_test_breaks : (known : List ℕ → Bool) (k : Declarations) (s : Stmt) (test : Expr) (body : Vec Stmt Global) (r : ℕ) → s ≡ views.While test body
    → value_rule known k (expression_of test) ≡ Some r → statement_outcome known (statement_of s) k ≡ Broken r
while_test_breaks known k s test body r is p =
    while_is known k s test body is
    ∙ after_broken (told k (value_rule known k (expression_of test))) (λ m. leaving m (statements_outcome known (statements_of body.items) m)) r (told_some k (value_rule known k (expression_of test)) r p)

pub while_body : (known : List ℕ → Bool) (k : Declarations) (s : Stmt) (test : Expr) (body : Vec Stmt Global) → s ≡ views.While test body
    → value_rule known k (expression_of test) ≡ None → statement_outcome known (statement_of s) k ≡ leaving k (statements_outcome known (statements_of body.items) k)
while_body known k s test body is p =
    while_is known k s test body is
    ∙ after_passed (told k (value_rule known k (expression_of test))) (λ m. leaving m (statements_outcome known (statements_of body.items) m)) k (told_none k (value_rule known k (expression_of test)) p)

-- ---- a block

-- the names of a later place begin with those of the earlier one
pub record Grows (k m : Declarations) : Type 0 where
  pub more : List (List ℕ)
  pub is : m.declared ≡ k.declared ++ more

abbrev GrowsIn : Declarations → Outcome → Type 0
GrowsIn k (Passed m) = Grows k m
GrowsIn k (Broken r) = Unit {0}

grows_still : (k : Declarations) → Grows k k
grows_still k = record { more = []; is = sym (append-nil k.declared) }

grows_told : (k : Declarations) (o : Option ℕ) → GrowsIn k (told k o)
grows_told k None = grows_still k
grows_told k (Some r) = tt

grows_later : (k m : Declarations) (o : Outcome) → Grows k m → GrowsIn m o → GrowsIn k o
grows_later k m (Passed n) g h = record { more = g.more ++ h.more; is = h.is ∙ ap (λ (xs : List (List ℕ)). xs ++ h.more) g.is ∙ append_assoc k.declared g.more h.more }
grows_later k m (Broken r) g h = tt

grows_then : (k : Declarations) (o : Outcome) (next : Declarations → Outcome) → GrowsIn k o → ((m : Declarations) → GrowsIn m (next m)) → GrowsIn k (and_then o next)
grows_then k (Passed m) next g h = grows_later k m (next m) g (h m)
grows_then k (Broken r) next g h = tt

grows_leaving : (k : Declarations) (o : Outcome) → GrowsIn k (leaving k o)
grows_leaving k (Passed m) = record { more = []; is = sym (append-nil k.declared) }
grows_leaving k (Broken r) = tt

grows_statement : (known : List ℕ → Bool) (s : Statement) (k : Declarations) → GrowsIn k (statement_outcome known s k)
grows_statement known (tree.Let x e) k =
    grows_then k (told k (option_or (let_rule k x) (value_rule known k e))) (λ m. Passed (with_name m x)) (grows_told k (option_or (let_rule k x) (value_rule known k e))) (λ m. record { more = x ∷ []; is = refl })
grows_statement known (tree.Assign x e) k = grows_told k _
grows_statement known (tree.If e first second) k =
    grows_then k (told k (value_rule known k e)) (λ m. and_then (leaving m (statements_outcome known first m)) (λ n. leaving n (statements_outcome known second n))) (grows_told k (value_rule known k e))
    (λ m. grows_then m (leaving m (statements_outcome known first m)) (λ n. leaving n (statements_outcome known second n)) (grows_leaving m (statements_outcome known first m)) (λ n. grows_leaving n (statements_outcome known second n)))
grows_statement known (tree.While e body) k =
    grows_then k (told k (value_rule known k e)) (λ m. leaving m (statements_outcome known body m)) (grows_told k (value_rule known k e)) (λ m. grows_leaving m (statements_outcome known body m))
grows_statement known (tree.Print e) k = grows_told k (value_rule known k e)
grows_statement known (tree.Return e) k = grows_told k (value_rule known k e)
grows_statement known (tree.Do call xs) k = grows_told k _

grows_statements : (known : List ℕ → Bool) (ss : Statements) (k : Declarations) → GrowsIn k (statements_outcome known ss k)
grows_statements known tree.nothing k = grows_still k
grows_statements known (tree.statement s rest) k = grows_then k (statement_outcome known s k) (λ m. statements_outcome known rest m) (grows_statement known s k) (λ m. grows_statements known rest m)

-- what was declared before the statements stands first after them
pub front_stays : (known : List ℕ → Bool) (ss : Statements) (k m : Declarations) → statements_outcome known ss k ≡ Passed m → take (length k.declared) m.declared ≡ k.declared
front_stays known ss k m e =
    let g : Grows k m = subst (λ (o : Outcome). GrowsIn k o) e (grows_statements known ss k) in
    ap (λ (xs : List (List ℕ)). take (length k.declared) xs) g.is ∙ take-append_seam k.declared g.more

pub block_passes : (known : List ℕ → Bool) (ss : Statements) (k m n : Declarations) → statements_outcome known ss k ≡ Passed m → n ≡ record { lets = m.lets; declared = k.declared } → leaving k (statements_outcome known ss k) ≡ Passed n
block_passes known ss k m n e w = ap (λ (o : Outcome). leaving k o) e ∙ ap Passed (sym w)

pub block_breaks : (known : List ℕ → Bool) (ss : Statements) (k : Declarations) (r : ℕ) → statements_outcome known ss k ≡ Broken r → leaving k (statements_outcome known ss k) ≡ Broken r
block_breaks known ss k r e = ap (λ (o : Outcome). leaving k o) e

-- ---- statements one after the other

pub first_passes : (known : List ℕ → Bool) (s : Statement) (rest : Statements) (k m : Declarations) → statement_outcome known s k ≡ Passed m → statements_outcome known (tree.statement s rest) k ≡ statements_outcome known rest m
first_passes known s rest k m e = after_passed (statement_outcome known s k) (λ n. statements_outcome known rest n) m e

pub first_breaks : (known : List ℕ → Bool) (s : Statement) (rest : Statements) (k : Declarations) (r : ℕ) → statement_outcome known s k ≡ Broken r → statements_outcome known (tree.statement s rest) k ≡ Broken r
first_breaks known s rest k r e = after_broken (statement_outcome known s k) (λ n. statements_outcome known rest n) r e

pub rule_passed : (o : Outcome) (k : Declarations) → o ≡ Passed k → rule_of o ≡ None
rule_passed o k e = ap rule_of e

pub rule_broke : (o : Outcome) (r : ℕ) → o ≡ Broken r → rule_of o ≡ Some r
rule_broke o r e = ap rule_of e
