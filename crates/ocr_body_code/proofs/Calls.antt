-- The code of a call's arguments.
use Rattle.std.proofs.Common.{◌≡◌, ◌<◌, ◌+◌, ◌-◌, ◌==◌, ◌∙◌, true, ℕ, suc, zero, List, [], ◌∷◌, refl, ap, sym, length, drop, get_or, arith, Box, Global}
use Rattle.std.proofs.lemmas.Bool.{lt-ltb}
use Rattle.ocr_base.proofs.Booleans.{same}
use Rattle.ocr_program_tree.specs.Argument.{plain_of, plain_before}
use Rattle.ocr_program_tree.specs.Tree as tree
use Rattle.ocr_program_tree.specs.View.{expression_of, members_of}
use Rattle.ocr_program_tree.specs.declared.argument.Argument.{Argument}
use Rattle.ocr_program_tree.specs.declared.tree.CallName.TheVariants as name
use Rattle.ocr_program_tree.specs.declared.tree.Expr.{Expr}
use Rattle.ocr_body_code.specs.Code.{name_at, is_placed, are_args_placed, expression_at, arguments_at}
use Rattle.ocr_body_code.specs.Resolved.{Grew, IsPlace, IsExpression, IsArguments, IsCall}
use Rattle.ocr_body_code.specs.declared.code.ArgCode.{ArgCode}
use Rattle.ocr_body_code.specs.declared.code.ArgCode.TheViews as code
use Rattle.ocr_body_code.specs.declared.code.ExprCode.{ExprCode}
use Rattle.ocr_body_code.proofs.Names.{both, expression_kept, arguments_kept}

-- a value before others, which were resolved over fewer names
pub value_is : (w : List ℕ → ℕ) (xs ys : List (List ℕ)) (l : Box ExprCode Global) (r : Box ArgCode Global) (a : ExprCode) (b : ArgCode) (e : tree.Expression) (of : tree.Arguments) → Grew xs ys
    → IsExpression w ys a e → IsArguments w xs b of → l.value ≡ a → r.value ≡ b → IsArguments w ys (code.Value l r) (tree.value e of)
value_is w xs ys l r a b e of grew first rest is_a is_b =
    let kept : IsArguments w ys b of = arguments_kept w xs ys b of grew rest in
    record {
      placed = both _ _ (ap (is_placed w ys) is_a ∙ first.placed) (ap (are_args_placed w ys) is_b ∙ kept.placed);
      same = (λ i. tree.value (expression_at ys (is_a i)) (arguments_at ys (is_b i))) ∙ (λ i. tree.value (first.same i) (kept.same i));
    }

-- a list before others, which were resolved over fewer names
pub list_is : (w : List ℕ → ℕ) (xs ys : List (List ℕ)) (l r : Box ArgCode Global) (a b : ArgCode) (es of : tree.Arguments) → Grew xs ys
    → IsArguments w ys a es → IsArguments w xs b of → l.value ≡ a → r.value ≡ b → IsArguments w ys (code.List l r) (tree.list es of)
list_is w xs ys l r a b es of grew first rest is_a is_b =
    let kept : IsArguments w ys b of = arguments_kept w xs ys b of grew rest in
    record {
      placed = both _ _ (ap (are_args_placed w ys) is_a ∙ first.placed) (ap (are_args_placed w ys) is_b ∙ kept.placed);
      same = (λ i. tree.list (arguments_at ys (is_a i)) (arguments_at ys (is_b i))) ∙ (λ i. tree.list (first.same i) (kept.same i));
    }

-- a name before others, which were resolved over fewer names
pub name_is : (w : List ℕ → ℕ) (xs ys : List (List ℕ)) (place number : ℕ) (r : Box ArgCode Global) (b : ArgCode) (x : List ℕ) (of : tree.Arguments) → Grew xs ys
    → IsPlace ys place x → number ≡ w x → IsArguments w xs b of → r.value ≡ b → IsArguments w ys (code.Name (record { place = place; number = number }) r) (tree.named x of)
name_is w xs ys place number r b x of grew at is_number rest is_b =
    let kept : IsArguments w ys b of = arguments_kept w xs ys b of grew rest in
    let numbered : (w (name_at ys place) == number) ≡ true = (λ i. w (at.same i) == is_number i) ∙ same (w x) in
    record {
      placed = both _ _ (both _ _ (lt-ltb place (length ys) at.placed) numbered) (ap (are_args_placed w ys) is_b ∙ kept.placed);
      same = (λ i. tree.named (at.same i) (arguments_at ys (is_b i))) ∙ ap (tree.named x) kept.same;
    }

-- a load, the block of which was resolved over fewer names
pub load_is : (w : List ℕ → ℕ) (xs ys : List (List ℕ)) (l r : Box ExprCode Global) (a b : ExprCode) (ea eb : tree.Expression) → Grew xs ys
    → IsExpression w xs a ea → IsExpression w ys b eb → l.value ≡ a → r.value ≡ b → IsCall w ys (code.Load l r) name.Load (tree.value ea (tree.value eb tree.empty))
load_is w xs ys l r a b ea eb grew first second is_a is_b =
    let kept : IsExpression w ys a ea = expression_kept w xs ys a ea grew first in
    record {
      placed = both _ _ (ap (is_placed w ys) is_a ∙ kept.placed) (ap (is_placed w ys) is_b ∙ second.placed);
      named = refl;
      same =
          (λ i. tree.value (expression_at ys (is_a i)) (tree.value (expression_at ys (is_b i)) tree.empty))
          ∙ (λ i. tree.value (kept.same i) (tree.value (second.same i) tree.empty));
    }

-- a store, the block and the word of which were resolved over fewer names
pub store_is : (w : List ℕ → ℕ) (xs ys zs : List (List ℕ)) (l m r : Box ExprCode Global) (a b c : ExprCode) (ea eb ec : tree.Expression) → Grew xs zs → Grew ys zs
    → IsExpression w xs a ea → IsExpression w ys b eb → IsExpression w zs c ec → l.value ≡ a → m.value ≡ b → r.value ≡ c
    → IsCall w zs (code.Store l m r) name.Store (tree.value ea (tree.value eb (tree.value ec tree.empty)))
store_is w xs ys zs l m r a b c ea eb ec grew again first second third is_a is_b is_c =
    let one : IsExpression w zs a ea = expression_kept w xs zs a ea grew first in
    let two : IsExpression w zs b eb = expression_kept w ys zs b eb again second in
    record {
      placed =
          both _ _ (ap (is_placed w zs) is_a ∙ one.placed)
          (both _ _ (ap (is_placed w zs) is_b ∙ two.placed) (ap (is_placed w zs) is_c ∙ third.placed));
      named = refl;
      same =
          (λ i. tree.value (expression_at zs (is_a i)) (tree.value (expression_at zs (is_b i)) (tree.value (expression_at zs (is_c i)) tree.empty)))
          ∙ (λ i. tree.value (one.same i) (tree.value (two.same i) (tree.value (third.same i) tree.empty)));
    }

-- the members of a list from some place on
members_from : (es : List Expr) (i : ℕ) (d : Expr) → i < length es → members_of (drop i es) ≡ tree.value (expression_of (get_or es i d)) (members_of (drop (suc i) es))
members_from [] i d less = absurd (omega (arith, less))
members_from (e ∷ es) zero d less = refl
members_from (e ∷ es) (suc i) d less = members_from es i d (omega (arith, less))

-- one member more, from the last on
pub member_more : (w : List ℕ → ℕ) (names : List (List ℕ)) (args : ArgCode) (es : List Expr) (i : ℕ) (e : Expr) → i < length es → e ≡ get_or es ((length es - 1) - i) e
    → IsArguments w names args (tree.value (expression_of e) (members_of (drop (length es - i) es))) → IsArguments w names args (members_of (drop (length es - (i + 1)) es))
member_more w names args es i e less at is =
    let k : ℕ = length es - (i + 1) in
    let here : (length es - 1) - i ≡ k = omega arith in
    let next : length es - i ≡ suc k = omega arith in
    let there : e ≡ get_or es k e = at ∙ ap (λ (n : ℕ). get_or es n e) here in
    let within : k < length es = omega arith in
    record { placed = is.placed; same = is.same ∙ (λ j. tree.value (expression_of (there j)) (members_of (drop (next j) es))) ∙ sym (members_from es k e within) }

-- the arguments of a call from some place on
arguments_from : (xs : List Argument) (i : ℕ) (d : Argument) → i < length xs → plain_of (drop i xs) ≡ plain_before (get_or xs i d) (plain_of (drop (suc i) xs))
arguments_from [] i d less = absurd (omega (arith, less))
arguments_from (x ∷ xs) zero d less = refl
arguments_from (x ∷ xs) (suc i) d less = arguments_from xs i d (omega (arith, less))

-- one argument more, from the last on
pub argument_more : (w : List ℕ → ℕ) (names : List (List ℕ)) (args : ArgCode) (xs : List Argument) (i : ℕ) (x y : Argument) → i < length xs → x ≡ get_or xs ((length xs - 1) - i) x → x ≡ y
    → IsArguments w names args (plain_before y (plain_of (drop (length xs - i) xs))) → IsArguments w names args (plain_of (drop (length xs - (i + 1)) xs))
argument_more w names args xs i x y less at alike is =
    let k : ℕ = length xs - (i + 1) in
    let here : (length xs - 1) - i ≡ k = omega arith in
    let next : length xs - i ≡ suc k = omega arith in
    let there : y ≡ get_or xs k x = sym alike ∙ at ∙ ap (λ (n : ℕ). get_or xs n x) here in
    let within : k < length xs = omega arith in
    record { placed = is.placed; same = is.same ∙ (λ j. plain_before (there j) (plain_of (drop (next j) xs))) ∙ sym (arguments_from xs k x within) }

pub arguments_as : (w : List ℕ → ℕ) (names others : List (List ℕ)) (args like : ArgCode) (xs : tree.Arguments) → names ≡ others → args ≡ like → IsArguments w others like xs → IsArguments w names args xs
arguments_as w names others args like xs same_names same_args is =
    record { placed = (λ i. are_args_placed w (same_names i) (same_args i)) ∙ is.placed; same = (λ i. arguments_at (same_names i) (same_args i)) ∙ is.same }
