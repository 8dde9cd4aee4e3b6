-- The functions of a program in memory, one after the other.
use Rattle.std.proofs.Common.{◌≡◌, ◌<◌, vec_len, ℕ, zero, suc, ◌+◌, Bool, true, false, cond, not, ◌||◌, List, [], ◌∷◌, ◌++◌, length, take, drop, get_or, None, Some, Bor, refl, sym, ap, ◌∙◌, subst, arith, add-one}
use Rattle.std.proofs.lemmas.List.{length-map}
use Rattle.std.proofs.lemmas.Map.Text.{is_eq-slice_cmp}
use Rattle.std.specs.BTreeSet.{BTreeSet, Updates}
use Rattle.std.specs.Cmp.Lexicographic.{slice_cmp}
use Rattle.std.specs.Ordering.{nat_cmp}
use Rattle.std.specs.Str.{bytes_eq}
use Rattle.ocr_program_tree.specs.Tree.{FunctionTree}
use Rattle.ocr_program_tree.specs.View.{function_of, functions_of, tree_of}
use Rattle.ocr_program_check.specs.Check.{is_among, names_of, IsFirst, FailsNowhere, HasNamesake, Breaks, BreaksNoRule, IsBreach, same_name, no_main, in_body}
use Rattle.ocr_program_tree.specs.Functions.{main_name}
use Rattle.ocr_program_check.specs.Checked.{function_rule, BreaksSome}
use Rattle.ocr_program_check.specs.Names.{knows, IsStopAt, IsStopOf}
use Rattle.ocr_program_check.specs.declared.rules.CheckStop.{CheckStop}
use Rattle.ocr_program_check.specs.declared.rules.CheckStop.TheVariants.{Fault, NoMemory}
use Rattle.ocr_program_tree.specs.declared.tree.Function.{Function}
use Rattle.ocr_program_tree.specs.declared.tree.Program.{Program}
use Rattle.ocr_program_check.proofs.Mentions.{known_of}
use Rattle.ocr_program_check.proofs.Judge.{function_agrees}
use Rattle.ocr_program_check.proofs.First.{FailsNowhere-push, function_keeps, function_breaks, kept_function, first_fails}

-- the functions in front of a place, and one more
pub front_more : (fs : List Function) (i : ℕ) (f : Function) → i < length fs → f ≡ get_or fs i f → functions_of (take (suc i) fs) ≡ functions_of (take i fs) ++ (function_of f ∷ [])
front_more [] i f h e = absurd (omega (arith, h))
front_more (g ∷ fs) zero f h e = λ j. function_of (sym e j) ∷ []
front_more (g ∷ fs) (suc i) f h e = ap (λ (ts : List FunctionTree). function_of g ∷ ts) (front_more fs i f (omega (arith, h)) e)

-- as many functions as there are in memory
pub few_functions : (program : Program) (n : ℕ) → vec_len program.functions < n → length (tree_of program) < n
few_functions program n few =
    let count : vec_len program.functions ≡ length program.functions.items = cc in
    subst (λ (k : ℕ). k < n) (count ∙ sym (length-map program.functions.items function_of)) few

-- a place takes the functions apart
pub parted : (fs : List Function) (i : ℕ) (f : Function) → i < length fs → f ≡ get_or fs i f → functions_of fs ≡ functions_of (take i fs) ++ (function_of f ∷ functions_of (drop (suc i) fs))
parted [] i f h e = absurd (omega (arith, h))
parted (g ∷ fs) zero f h e = λ j. function_of (sym e j) ∷ functions_of fs
parted (g ∷ fs) (suc i) f h e = ap (λ (ts : List FunctionTree). function_of g ∷ ts) (parted fs i f (omega (arith, h)) e)

pub length-front : (fs : List Function) (i : ℕ) → i < length fs → length (functions_of (take i fs)) ≡ i
length-front [] i h = absurd (omega (arith, h))
length-front (g ∷ fs) zero h = refl
length-front (g ∷ fs) (suc i) h = ap suc (length-front fs i (omega (arith, h)))

-- the first function that fails, at its place
pub first_at : (Fails : List FunctionTree → FunctionTree → Type 0) (fs : List Function) (i : ℕ) (f : Function) → i < length fs → f ≡ get_or fs i f
    → FailsNowhere Fails (functions_of (take i fs)) → Fails (functions_of (take i fs)) (function_of f) → IsFirst Fails (functions_of fs) (functions_of (take i fs)) (function_of f)
first_at Fails fs i f h e earlier fails = record { after = functions_of (drop (suc i) fs); whole = parted fs i f h e; fails = fails; earlier = earlier }

-- one more function that does not fail
none_further : (Fails : List FunctionTree → FunctionTree → Type 0) (fs : List Function) (i : ℕ) (f : Function) → i < length fs → f ≡ get_or fs i f
    → FailsNowhere Fails (functions_of (take i fs)) → (Fails (functions_of (take i fs)) (function_of f) → ⊥) → FailsNowhere Fails (functions_of (take (suc i) fs))
none_further Fails fs i f h e earlier keeps =
    subst (λ (ts : List FunctionTree). FailsNowhere Fails ts) (sym (front_more fs i f h e)) (FailsNowhere-push Fails (functions_of (take i fs)) (function_of f) earlier keeps)

pub none_more : (Fails : List FunctionTree → FunctionTree → Type 0) (fs : List Function) (i : ℕ) (f : Function) → i < length fs → f ≡ get_or fs i f
    → FailsNowhere Fails (functions_of (take i fs)) → (Fails (functions_of (take i fs)) (function_of f) → ⊥) → FailsNowhere Fails (functions_of (take (i + 1) fs))
none_more Fails fs i f h e earlier keeps =
    subst (λ (n : ℕ). FailsNowhere Fails (functions_of (take n fs))) (sym (add-one i)) (none_further Fails fs i f h e earlier keeps)

-- ---- a function's walk

pub function_sound : (known : List ℕ → Bool) (names : List (List ℕ)) → ((x : List ℕ) → known x ≡ is_among x names) → (before : List FunctionTree) (f : FunctionTree) → function_rule known f ≡ None → BreaksSome names before f → ⊥
function_sound known names same before f e b =
    let agrees : function_rule known f ≡ function_rule (known_of names) f = λ i. function_rule (λ x. same x i) f in
    kept_function names f (function_keeps names f (sym (function_agrees names f) ∙ sym agrees ∙ e)) b.0 b.1

pub function_stops : (known : List ℕ → Bool) (names : List (List ℕ)) → ((x : List ℕ) → known x ≡ is_among x names) → (f : FunctionTree) (r : ℕ) → function_rule known f ≡ Some r → Breaks names f r
function_stops known names same f r e =
    let agrees : function_rule known f ≡ function_rule (known_of names) f = λ i. function_rule (λ x. same x i) f in
    function_breaks names f r (sym (function_agrees names f) ∙ sym agrees ∙ e)

-- ---- a program

pub body_breach : (fs : List Function) (i : ℕ) (f : Function) (r n : ℕ) → i < length fs → f ≡ get_or fs i f → FailsNowhere HasNamesake (functions_of fs) → is_among main_name (names_of (functions_of fs)) ≡ true
    → FailsNowhere (BreaksSome (names_of (functions_of fs))) (functions_of (take i fs)) → Breaks (names_of (functions_of fs)) (function_of f) r → n ≡ i + 1 → IsBreach (functions_of fs) r n
body_breach fs i f r n h e distinct main earlier b number =
    subst (λ (k : ℕ). IsBreach (functions_of fs) r k) (sym (number ∙ ap (λ (k : ℕ). k + 1) (sym (length-front fs i h))))
    (in_body (functions_of (take i fs)) (function_of f) r distinct main (first_at (BreaksSome (names_of (functions_of fs))) fs i f h e earlier (r, b)) b)

pub name_breach : (fs : List Function) (i : ℕ) (f : Function) (n : ℕ) → i < length fs → f ≡ get_or fs i f → FailsNowhere HasNamesake (functions_of (take i fs)) → HasNamesake (functions_of (take i fs)) (function_of f) → n ≡ i + 1 → IsBreach (functions_of fs) 1 n
name_breach fs i f n h e earlier same number =
    subst (λ (k : ℕ). IsBreach (functions_of fs) 1 k) (sym (number ∙ ap (λ (k : ℕ). k + 1) (sym (length-front fs i h))))
    (same_name (functions_of (take i fs)) (function_of f) (first_at HasNamesake fs i f h e earlier same))

pub no_breach : (program : List FunctionTree) → FailsNowhere HasNamesake program → is_among main_name (names_of program) ≡ true → FailsNowhere (BreaksSome (names_of program)) program → BreaksNoRule program
no_breach program distinct main keeps _ _ (same_name before f first) = first_fails HasNamesake program before f first distinct
no_breach program distinct main keeps _ _ (no_main d missing) = absurd (cc)
no_breach program distinct main keeps _ _ (in_body before f r d m first b) = first_fails (BreaksSome (names_of program)) program before f first keeps

-- where the walk of a function stops
pub walk_stops : (known : List ℕ → Bool) (fs : List Function) (i : ℕ) (f : Function) (stop : CheckStop) → i < length fs → f ≡ get_or fs i f
    → ((x : List ℕ) → known x ≡ is_among x (names_of (functions_of fs))) → FailsNowhere HasNamesake (functions_of fs) → is_among main_name (names_of (functions_of fs)) ≡ true
    → FailsNowhere (BreaksSome (names_of (functions_of fs))) (functions_of (take i fs)) → IsStopAt (i + 1) (function_rule known (function_of f)) stop → IsStopOf (functions_of fs) stop
walk_stops known fs i f (Fault fault) h e same distinct main earlier at =
    body_breach fs i f fault.rule fault.function h e distinct main earlier (function_stops known (names_of (functions_of fs)) same (function_of f) fault.rule at.0) at.1
walk_stops known fs i f NoMemory h e same distinct main earlier at = tt

-- ---- the set of the names

pub not_false : (b : Bool) → false ≡ not b → b ≡ true
not_false true e = refl
not_false false e = cc

pub not_true : (b : Bool) → true ≡ not b → b ≡ false
not_true true e = cc
not_true false e = refl

-- a name added to a set is known, and so is what was known before
pub knows_more : (s n : BTreeSet (Bor (List ℕ))) (key : Bor (List ℕ)) → Updates (λ (x y : Bor (List ℕ)). slice_cmp nat_cmp x.now y.now) s n key true → (x : List ℕ) → knows n x ≡ (bytes_eq key.now x || knows s x)
knows_more s n key updates x =
    updates.0 (record { ref_ptr = (0, 0); now = x }) ∙ ap (λ (b : Bool). cond b true (knows s x)) (is_eq-slice_cmp key.now x) ∙ cond_or (bytes_eq key.now x) (knows s x)
  where
    cond_or : (a b : Bool) → cond a true b ≡ (a || b)
    cond_or true b = refl
    cond_or false b = refl

or_swap : (a b c : Bool) → (a || (b || c)) ≡ (b || (a || c))
or_swap true true c = refl
or_swap true false c = refl
or_swap false b c = refl

among_push : (ts : List FunctionTree) (f : FunctionTree) (x : List ℕ) → is_among x (names_of (ts ++ (f ∷ []))) ≡ (bytes_eq f.name x || is_among x (names_of ts))
among_push [] f x = refl
among_push (t ∷ ts) f x = ap (λ (b : Bool). bytes_eq t.name x || b) (among_push ts f x) ∙ or_swap (bytes_eq t.name x) (bytes_eq f.name x) (is_among x (names_of ts))

-- the names of one function more
pub names_more : (fs : List Function) (i : ℕ) (f : Function) (x : List ℕ) → i < length fs → f ≡ get_or fs i f
    → is_among x (names_of (functions_of (take (i + 1) fs))) ≡ (bytes_eq f.name x || is_among x (names_of (functions_of (take i fs))))
names_more fs i f x h e =
    ap (λ (n : ℕ). is_among x (names_of (functions_of (take n fs)))) (add-one i)
    ∙ ap (λ (ts : List FunctionTree). is_among x (names_of ts)) (front_more fs i f h e) ∙ among_push (functions_of (take i fs)) (function_of f) x
