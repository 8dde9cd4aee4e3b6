-- Code over a longer list of names.
use Rattle.std.proofs.Common.{◌≡◌, ◌<◌, ◌≤◌, ◌+◌, ℕ, zero, suc, List, [], ◌∷◌, ◌++◌, Bool, true, false, ◌||◌, ◌&&◌, length, bytes_eq, nat_lt, ◌==◌, refl, sym, ◌∙◌, ap, append_assoc, append-nil, arith, length-append, Box, Global}
use Rattle.std.specs.List.{list_any}
use Rattle.std.proofs.lemmas.Bool.{ltb-true, lt-ltb, or_parts, not-true, false_from_ne_true, not_from_false}
use Rattle.std.proofs.lemmas.List.Folds.{list_any-append}
use Rattle.std.proofs.lemmas.Slice.Eq.{bytes_eq-Decides}
use Rattle.ocr_program_tree.specs.Tree as tree
use Rattle.ocr_body_code.specs.Code.{are_distinct, name_at, has_function, is_name_placed, is_placed, is_call_placed, are_args_placed, is_step_placed, is_row_placed, are_placed, call_name, call_arguments, arguments_at, expression_at, statement_at, row_at, statements_in}
use Rattle.ocr_body_code.specs.Resolved.{Grew, IsPlace, IsExpression, IsArguments, IsStatement, AreStatements}
use Rattle.ocr_program_tree.specs.declared.tree.BinaryOp.{BinaryOp}
use Rattle.ocr_body_code.specs.declared.code.ArgCode.TheViews as views
use Rattle.ocr_body_code.specs.declared.code.ExprCode.{ExprCode}
use Rattle.ocr_body_code.specs.declared.code.ExprCode.TheVariants as node
use Rattle.ocr_body_code.specs.declared.code.CallCode.{CallCode}
use Rattle.ocr_body_code.specs.declared.code.CallCode.TheVariants as call
use Rattle.ocr_body_code.specs.declared.code.Named.{Named}
use Rattle.ocr_body_code.specs.declared.code.ArgCode.{ArgCode}
use Rattle.ocr_body_code.specs.declared.code.ArgCode.TheVariants as args
use Rattle.ocr_body_code.specs.declared.code.StmtCode.{StmtCode, Row_of-StmtCode, end_of-StmtCode, more_of-StmtCode}
use Rattle.ocr_body_code.specs.declared.code.StmtCode.TheVariants as step
use Rattle.ocr_body_code.proofs.Sides.{first_of, second_of}

pub both : (a b : Bool) → a ≡ true → b ≡ true → (a && b) ≡ true
both true b p q = q
both false b p q = cc p

pub neither : (a b : Bool) → a ≡ false → b ≡ false → (a || (b || false)) ≡ false
neither true b p q = cc p
neither false true p q = cc q
neither false false p q = refl

pub differs_back : (x y : List ℕ) → bytes_eq y x ≡ false → bytes_eq x y ≡ false
differs_back x y apart = false_from_ne_true _ (λ p.
    let same : y ≡ x = sym ((bytes_eq-Decides x y).0 p) in
    cc (sym ((bytes_eq-Decides y x).1 same) ∙ apart))

-- a new name at the end differs from the others
pub distinct_with : (xs : List (List ℕ)) (y : List ℕ) → are_distinct xs ≡ true → list_any (bytes_eq y) xs ≡ false → are_distinct (xs ++ y ∷ []) ≡ true
distinct_with [] y distinct none = refl
distinct_with (x ∷ xs) y distinct none =
    let apart : bytes_eq x y ≡ false = differs_back x y (or_parts _ _ none).0 in
    let here : list_any (bytes_eq x) (xs ++ y ∷ []) ≡ false =
    list_any-append (bytes_eq x) xs (y ∷ []) ∙ neither _ _ (not-true _ (first_of _ _ distinct)) apart in
    both _ _ (not_from_false _ here) (distinct_with xs y (second_of _ _ distinct) (or_parts _ _ none).1)

pub pushed_grew : (xs ys : List (List ℕ)) (y : List ℕ) → ys ≡ xs ++ y ∷ [] → Grew xs ys
pushed_grew xs ys y is = (y ∷ [], is)

name_at_end : (xs : List (List ℕ)) (y : List ℕ) → name_at (xs ++ y ∷ []) (length xs) ≡ y
name_at_end [] y = refl
name_at_end (x ∷ xs) y = name_at_end xs y

pub pushed_place : (xs ys : List (List ℕ)) (y : List ℕ) (n : ℕ) → ys ≡ xs ++ y ∷ [] → n ≡ length xs → IsPlace ys n y
pushed_place xs ys y n is at =
    record {
      placed = omega (arith, ap length is, length-append xs (y ∷ []), at);
      same = (λ i. name_at (is i) (at i)) ∙ name_at_end xs y;
    }

-- names stay as they were
pub grew_same : (xs : List (List ℕ)) → Grew xs xs
grew_same xs = ([], sym (append-nil xs))

pub grew_twice : (xs ys zs : List (List ℕ)) → Grew xs ys → Grew ys zs → Grew xs zs
grew_twice xs ys zs first second =
    (first.0 ++ second.0, second.1 ∙ ap (λ (l : List (List ℕ)). l ++ second.0) first.1 ∙ append_assoc xs first.0 second.0)

longer : (xs ys : List (List ℕ)) → Grew xs ys → length xs ≤ length ys
longer xs ys grew = omega (arith, ap length grew.1, length-append xs grew.0)

name_with : (xs more : List (List ℕ)) (i : ℕ) → i < length xs → name_at (xs ++ more) i ≡ name_at xs i
name_with [] more i less = absurd (omega (arith, less))
name_with (x ∷ xs) more zero less = refl
name_with (x ∷ xs) more (suc i) less = name_with xs more i (omega (arith, less))

name_kept : (xs ys : List (List ℕ)) (i : ℕ) → Grew xs ys → i < length xs → name_at ys i ≡ name_at xs i
name_kept xs ys i grew less = ap (λ (l : List (List ℕ)). name_at l i) grew.1 ∙ name_with xs grew.0 i less

pub place_kept : (xs ys : List (List ℕ)) (i : ℕ) (name : List ℕ) → Grew xs ys → IsPlace xs i name → IsPlace ys i name
place_kept xs ys i name grew is = record { placed = omega (arith, longer xs ys grew, is.placed); same = name_kept xs ys i grew is.placed ∙ is.same }

place_less : (xs ys : List (List ℕ)) (i : ℕ) → Grew xs ys → nat_lt i (length xs) ≡ true → nat_lt i (length ys) ≡ true
place_less xs ys i grew is = lt-ltb i (length ys) (omega (arith, longer xs ys grew, ltb-true i (length xs) is))

name_placed : (w : List ℕ → ℕ) (xs ys : List (List ℕ)) (x : Named) → Grew xs ys → is_name_placed w xs x ≡ true → is_name_placed w ys x ≡ true
name_placed w xs ys x grew is =
    let kept : name_at ys x.place ≡ name_at xs x.place = name_kept xs ys x.place grew (ltb-true x.place (length xs) (first_of _ _ is)) in
    both _ _ (place_less xs ys x.place grew (first_of _ _ is)) (ap (λ (name : List ℕ). w name == x.number) kept ∙ second_of _ _ is)

mutual
  node_same : (w : List ℕ → ℕ) (xs ys : List (List ℕ)) (e : ExprCode) → Grew xs ys → is_placed w xs e ≡ true → expression_at ys e ≡ expression_at xs e
  node_same w xs ys (node.Number v) grew is = refl
  node_same w xs ys (node.Constant c) grew is = refl
  node_same w xs ys (node.Variable i) grew is = ap tree.Var (name_kept xs ys i grew (ltb-true i (length xs) is))
  node_same w xs ys node.Paramc grew is = refl
  node_same w xs ys node.Depc grew is = refl
  node_same w xs ys node.LastCode grew is = refl
  node_same w xs ys (node.Paramv' p e) grew is = ap tree.Paramv (node_same w xs ys e grew is)
  node_same w xs ys (node.Depv' p e) grew is = ap tree.Depv (node_same w xs ys e grew is)
  node_same w xs ys (node.Unary' op p e) grew is = ap (tree.Unary op) (node_same w xs ys e grew is)
  node_same w xs ys (node.Binary' op p a q b) grew is =
      λ i. tree.Binary op (node_same w xs ys a grew (first_of _ _ is) i) (node_same w xs ys b grew (second_of _ _ is) i)
  node_same w xs ys (node.WithNumber op i v) grew is =
      ap (λ (x : List ℕ). tree.Binary op (tree.Var x) (tree.Number v)) (name_kept xs ys i grew (ltb-true i (length xs) (first_of _ _ is)))
  node_same w xs ys (node.WithVariable op i j) grew is =
      λ k. tree.Binary op (tree.Var (name_kept xs ys i grew (ltb-true i (length xs) (first_of _ _ is)) k)) (tree.Var (name_kept xs ys j grew (ltb-true j (length xs) (second_of _ _ is)) k))
  node_same w xs ys (node.Invoke' p c) grew is = ap (tree.Invoked (call_name c)) (code_same w xs ys c grew is)

  code_same : (w : List ℕ → ℕ) (xs ys : List (List ℕ)) (c : CallCode) → Grew xs ys → is_call_placed w xs c ≡ true → call_arguments ys c ≡ call_arguments xs c
  code_same w xs ys (call.Load' p d q v) grew is =
      λ i. tree.value (node_same w xs ys d grew (first_of _ _ is) i) (tree.value (node_same w xs ys v grew (second_of _ _ is) i) tree.empty)
  code_same w xs ys (call.Store' p d q v r u) grew is =
      λ i. tree.value (node_same w xs ys d grew (first_of _ _ is) i) (tree.value (node_same w xs ys v grew (first_of _ _ (second_of _ _ is)) i)
      (tree.value (node_same w xs ys u grew (second_of _ _ (second_of _ _ is)) i) tree.empty))
  code_same w xs ys (call.Coded made of) grew is = args_same w xs ys of grew (second_of _ _ is)

  args_same : (w : List ℕ → ℕ) (xs ys : List (List ℕ)) (of : ArgCode) → Grew xs ys → are_args_placed w xs of ≡ true → arguments_at ys of ≡ arguments_at xs of
  args_same w xs ys args.End grew is = refl
  args_same w xs ys (args.Value' p e q rest) grew is =
      λ i. tree.value (node_same w xs ys e grew (first_of _ _ is) i) (args_same w xs ys rest grew (second_of _ _ is) i)
  args_same w xs ys (args.List' p es q rest) grew is =
      λ i. tree.list (args_same w xs ys es grew (first_of _ _ is) i) (args_same w xs ys rest grew (second_of _ _ is) i)
  args_same w xs ys (args.Name' x p rest) grew is =
      λ i. tree.named (name_kept xs ys x.place grew (ltb-true x.place (length xs) (first_of _ _ (first_of _ _ is))) i) (args_same w xs ys rest grew (second_of _ _ is) i)

mutual
  node_placed : (w : List ℕ → ℕ) (xs ys : List (List ℕ)) (e : ExprCode) → Grew xs ys → is_placed w xs e ≡ true → is_placed w ys e ≡ true
  node_placed w xs ys (node.Number v) grew is = is
  node_placed w xs ys (node.Constant c) grew is = refl
  node_placed w xs ys (node.Variable i) grew is = place_less xs ys i grew is
  node_placed w xs ys node.Paramc grew is = refl
  node_placed w xs ys node.Depc grew is = refl
  node_placed w xs ys node.LastCode grew is = refl
  node_placed w xs ys (node.Paramv' p e) grew is = node_placed w xs ys e grew is
  node_placed w xs ys (node.Depv' p e) grew is = node_placed w xs ys e grew is
  node_placed w xs ys (node.Unary' op p e) grew is = node_placed w xs ys e grew is
  node_placed w xs ys (node.Binary' op p a q b) grew is = both _ _ (node_placed w xs ys a grew (first_of _ _ is)) (node_placed w xs ys b grew (second_of _ _ is))
  node_placed w xs ys (node.WithNumber op i v) grew is = both _ _ (place_less xs ys i grew (first_of _ _ is)) (second_of _ _ is)
  node_placed w xs ys (node.WithVariable op i j) grew is = both _ _ (place_less xs ys i grew (first_of _ _ is)) (place_less xs ys j grew (second_of _ _ is))
  node_placed w xs ys (node.Invoke' p c) grew is = code_placed w xs ys c grew is

  code_placed : (w : List ℕ → ℕ) (xs ys : List (List ℕ)) (c : CallCode) → Grew xs ys → is_call_placed w xs c ≡ true → is_call_placed w ys c ≡ true
  code_placed w xs ys (call.Load' p d q v) grew is = both _ _ (node_placed w xs ys d grew (first_of _ _ is)) (node_placed w xs ys v grew (second_of _ _ is))
  code_placed w xs ys (call.Store' p d q v r u) grew is =
      both _ _ (node_placed w xs ys d grew (first_of _ _ is)) (both _ _ (node_placed w xs ys v grew (first_of _ _ (second_of _ _ is))) (node_placed w xs ys u grew (second_of _ _ (second_of _ _ is))))
  code_placed w xs ys (call.Coded made of) grew is =
      both _ _ (ap (has_function made) (args_same w xs ys of grew (second_of _ _ is)) ∙ first_of _ _ is) (args_placed w xs ys of grew (second_of _ _ is))

  args_placed : (w : List ℕ → ℕ) (xs ys : List (List ℕ)) (of : ArgCode) → Grew xs ys → are_args_placed w xs of ≡ true → are_args_placed w ys of ≡ true
  args_placed w xs ys args.End grew is = refl
  args_placed w xs ys (args.Value' p e q rest) grew is = both _ _ (node_placed w xs ys e grew (first_of _ _ is)) (args_placed w xs ys rest grew (second_of _ _ is))
  args_placed w xs ys (args.List' p es q rest) grew is = both _ _ (args_placed w xs ys es grew (first_of _ _ is)) (args_placed w xs ys rest grew (second_of _ _ is))
  args_placed w xs ys (args.Name' x p rest) grew is = both _ _ (name_placed w xs ys x grew (first_of _ _ is)) (args_placed w xs ys rest grew (second_of _ _ is))

mutual
  step_same : (w : List ℕ → ℕ) (xs ys : List (List ℕ)) (s : StmtCode) → Grew xs ys → is_step_placed w xs s ≡ true → statement_at ys s ≡ statement_at xs s
  step_same w xs ys (step.Let i e) grew is =
      λ j. tree.Let (name_kept xs ys i grew (ltb-true i (length xs) (first_of _ _ is)) j) (node_same w xs ys e grew (second_of _ _ is) j)
  step_same w xs ys (step.Assign i e) grew is =
      λ j. tree.Assign (name_kept xs ys i grew (ltb-true i (length xs) (first_of _ _ is)) j) (node_same w xs ys e grew (second_of _ _ is) j)
  step_same w xs ys (step.If' e j first k second) grew is =
      λ i. tree.If (node_same w xs ys e grew (first_of _ _ is) i) (row_same w xs ys first grew (first_of _ _ (second_of _ _ is)) i) (row_same w xs ys second grew (second_of _ _ (second_of _ _ is)) i)
  step_same w xs ys (step.While' e j body) grew is =
      λ i. tree.While (node_same w xs ys e grew (first_of _ _ is) i) (row_same w xs ys body grew (second_of _ _ is) i)
  step_same w xs ys (step.Print e) grew is = ap tree.Print (node_same w xs ys e grew is)
  step_same w xs ys (step.Return e) grew is = ap tree.Return (node_same w xs ys e grew is)
  step_same w xs ys (step.Invoke c) grew is = ap (tree.Do (call_name c)) (code_same w xs ys c grew is)

  row_same : {j : _} (w : List ℕ → ℕ) (xs ys : List (List ℕ)) (row : Row_of-StmtCode j) → Grew xs ys → is_row_placed w xs row ≡ true → row_at ys row ≡ row_at xs row
  row_same w xs ys end_of-StmtCode grew is = refl
  row_same w xs ys (more_of-StmtCode s rest) grew is =
      λ i. tree.statement (step_same w xs ys s grew (first_of _ _ is) i) (row_same w xs ys rest grew (second_of _ _ is) i)

mutual
  step_placed : (w : List ℕ → ℕ) (xs ys : List (List ℕ)) (s : StmtCode) → Grew xs ys → is_step_placed w xs s ≡ true → is_step_placed w ys s ≡ true
  step_placed w xs ys (step.Let i e) grew is = both _ _ (place_less xs ys i grew (first_of _ _ is)) (node_placed w xs ys e grew (second_of _ _ is))
  step_placed w xs ys (step.Assign i e) grew is = both _ _ (place_less xs ys i grew (first_of _ _ is)) (node_placed w xs ys e grew (second_of _ _ is))
  step_placed w xs ys (step.If' e j first k second) grew is =
      both _ _ (node_placed w xs ys e grew (first_of _ _ is)) (both _ _ (row_placed w xs ys first grew (first_of _ _ (second_of _ _ is))) (row_placed w xs ys second grew (second_of _ _ (second_of _ _ is))))
  step_placed w xs ys (step.While' e j body) grew is = both _ _ (node_placed w xs ys e grew (first_of _ _ is)) (row_placed w xs ys body grew (second_of _ _ is))
  step_placed w xs ys (step.Print e) grew is = node_placed w xs ys e grew is
  step_placed w xs ys (step.Return e) grew is = node_placed w xs ys e grew is
  step_placed w xs ys (step.Invoke c) grew is = code_placed w xs ys c grew is

  row_placed : {j : _} (w : List ℕ → ℕ) (xs ys : List (List ℕ)) (row : Row_of-StmtCode j) → Grew xs ys → is_row_placed w xs row ≡ true → is_row_placed w ys row ≡ true
  row_placed w xs ys end_of-StmtCode grew is = refl
  row_placed w xs ys (more_of-StmtCode s rest) grew is = both _ _ (step_placed w xs ys s grew (first_of _ _ is)) (row_placed w xs ys rest grew (second_of _ _ is))

-- code over fewer names is code over more
pub expression_kept : (w : List ℕ → ℕ) (xs ys : List (List ℕ)) (node : ExprCode) (e : tree.Expression) → Grew xs ys → IsExpression w xs node e → IsExpression w ys node e
expression_kept w xs ys node e grew is =
    record { placed = node_placed w xs ys node grew is.placed; same = node_same w xs ys node grew is.placed ∙ is.same }

pub arguments_kept : (w : List ℕ → ℕ) (xs ys : List (List ℕ)) (args : ArgCode) (are_of : tree.Arguments) → Grew xs ys → IsArguments w xs args are_of → IsArguments w ys args are_of
arguments_kept w xs ys args are_of grew is =
    record { placed = args_placed w xs ys args grew is.placed; same = args_same w xs ys args grew is.placed ∙ is.same }

pub statement_kept : (w : List ℕ → ℕ) (xs ys : List (List ℕ)) (s : StmtCode) (is_of : tree.Statement) → Grew xs ys → IsStatement w xs s is_of → IsStatement w ys s is_of
statement_kept w xs ys s is_of grew is =
    record { placed = step_placed w xs ys s grew is.placed; same = step_same w xs ys s grew is.placed ∙ is.same }

steps_placed : (w : List ℕ → ℕ) (xs ys : List (List ℕ)) (ss : List StmtCode) → Grew xs ys → are_placed w xs ss ≡ true → are_placed w ys ss ≡ true
steps_placed w xs ys [] grew is = refl
steps_placed w xs ys (s ∷ ss) grew is = both _ _ (step_placed w xs ys s grew (first_of _ _ is)) (steps_placed w xs ys ss grew (second_of _ _ is))

steps_same : (w : List ℕ → ℕ) (xs ys : List (List ℕ)) (ss : List StmtCode) → Grew xs ys → are_placed w xs ss ≡ true → statements_in ys ss ≡ statements_in xs ss
steps_same w xs ys [] grew is = refl
steps_same w xs ys (s ∷ ss) grew is =
    λ j. tree.statement (step_same w xs ys s grew (first_of _ _ is) j) (steps_same w xs ys ss grew (second_of _ _ is) j)

pub statements_kept : (w : List ℕ → ℕ) (xs ys : List (List ℕ)) (ss : List StmtCode) (are_of : tree.Statements) → Grew xs ys → AreStatements w xs ss are_of → AreStatements w ys ss are_of
statements_kept w xs ys ss are_of grew is =
    record { placed = steps_placed w xs ys ss grew is.placed; same = steps_same w xs ys ss grew is.placed ∙ is.same }

-- a search through the names
-- an operation over its operands, the first of which was resolved over fewer names
pub binary_is : (w : List ℕ → ℕ) (xs ys : List (List ℕ)) (op : BinaryOp) (l r : Box ExprCode Global) (a b : ExprCode) (e ea eb : tree.Expression) → Grew xs ys → IsExpression w xs a ea → IsExpression w ys b eb
    → l.value ≡ a → r.value ≡ b → e ≡ tree.Binary op ea eb → IsExpression w ys (views.Binary op l r) e
binary_is w xs ys op l r a b e ea eb grew first second is_a is_b is =
    let kept : IsExpression w ys a ea = expression_kept w xs ys a ea grew first in
    record {
      placed = both _ _ (ap (is_placed w ys) is_a ∙ kept.placed) (ap (is_placed w ys) is_b ∙ second.placed);
      same = (λ i. tree.Binary op (expression_at ys (is_a i)) (expression_at ys (is_b i))) ∙ (λ i. tree.Binary op (kept.same i) (second.same i)) ∙ sym is;
    }

-- the same code in fewer nodes
pub joined_is : (w : List ℕ → ℕ) (names : List (List ℕ)) (a b : ExprCode) (e : tree.Expression) → ((numbers : List ℕ → ℕ) (names : List (List ℕ)) → is_placed numbers names a ≡ true → is_placed numbers names b ≡ true)
    → ((names : List (List ℕ)) → expression_at names b ≡ expression_at names a) → IsExpression w names a e → IsExpression w names b e
joined_is w names a b e placed same is = record { placed = placed w names is.placed; same = same names ∙ is.same }
