-- The indexes of names: of a program's functions, and of the names of one of them.
use Rattle.std.proofs.Common.{◌≡◌, ◌<◌, ◌+◌, ◌-◌, ℕ, zero, suc, List, [], ◌∷◌, ◌++◌, Bool, true, false, cond, if◌then◌else◌, length, get_or, drop, bytes_eq, Option, None, Some, Bor, refl, sym, ◌∙◌, ap, subst, arith}
use Rattle.std.specs.BTreeMap.{BTreeMap, Updates, is_at}
use Rattle.std.specs.Map.{lookup}
use Rattle.std.specs.Prelude.{IfSome, IfNone, Result, Ok, Err, OnOk, OnErr, is_err}
use Rattle.std.specs.Cmp.Lexicographic.{slice_cmp}
use Rattle.std.specs.List.{list_any}
use Rattle.std.specs.Option.{unwrap_or}
use Rattle.std.specs.Ordering.{nat_cmp}
use Rattle.std.proofs.lemmas.List.Folds.{list_any-append}
use Rattle.std.proofs.lemmas.Map.Text.{is_eq-slice_cmp}
use Rattle.std.proofs.lemmas.Slice.Eq.{bytes_eq-Decides}
use Rattle.ocr_program_tree.specs.Functions.{number_named}
use Rattle.ocr_program_tree.specs.Tree.{FunctionTree}
use Rattle.ocr_program_tree.specs.View.{function_of, functions_of}
use Rattle.ocr_program_tree.specs.declared.tree.Function.{Function}
use Rattle.ocr_body_code.specs.Places.{ArePlaces, place_in}
use Rattle.ocr_body_code.specs.Resolved.{IsPlace}
use Rattle.ocr_body_code.proofs.Names.{neither, differs_back, distinct_with, place_kept, pushed_grew, pushed_place}

-- what an index has after a name was entered
entered : (before after : BTreeMap (Bor (List ℕ)) ℕ) (key : Bor (List ℕ)) (n : ℕ) → Updates (λ (x y : Bor (List ℕ)). slice_cmp nat_cmp x.now y.now) before after key (Some n) → (x : List ℕ)
    → place_in after x ≡ cond (bytes_eq key.now x) (Some n) (place_in before x)
entered before after key n updates x =
    updates.0 (record { ref_ptr = (0, 0); now = x }) ∙ ap (λ (b : Bool). cond b (Some n) (place_in before x)) (is_eq-slice_cmp key.now x)

-- the functions from a place on
functions_from : (fs : List Function) (k : ℕ) (f : Function) → k < length fs → f ≡ get_or fs k f → functions_of (drop k fs) ≡ function_of f ∷ functions_of (drop (suc k) fs)
functions_from [] k f less at = absurd (omega (arith, less))
functions_from (g ∷ fs) zero f less at = ap (λ (h : Function). function_of h ∷ functions_of fs) (sym at)
functions_from (g ∷ fs) (suc k) f less at = functions_from fs k f (omega (arith, less)) at

step : (b : Bool) (o : Option ℕ) (none number k r : ℕ) → number ≡ k + 1 → unwrap_or o none ≡ number + r → unwrap_or (cond b (Some number) o) none ≡ k + (if b then 1 else r + 1)
step true o none number k r is before = is
step false o none number k r is before = omega (arith, is, before)

-- one function more, from the last on
pub function_entered : (fs : List Function) (before after : BTreeMap (Bor (List ℕ)) ℕ) (key : Bor (List ℕ)) (i number : ℕ) (f : Function) (none : ℕ)
    → Updates (λ (x y : Bor (List ℕ)). slice_cmp nat_cmp x.now y.now) before after key (Some number)
    → i < length fs → number ≡ length fs - i → f ≡ get_or fs (number - 1) f → key.now ≡ f.name
    → ((x : List ℕ) → unwrap_or (place_in before x) none ≡ (length fs - i) + number_named x (functions_of (drop (length fs - i) fs)))
    → (x : List ℕ) → unwrap_or (place_in after x) none ≡ (length fs - (i + 1)) + number_named x (functions_of (drop (length fs - (i + 1)) fs))
function_entered fs before after key i number f none updates less is at named numbers x =
    let k : ℕ = length fs - (i + 1) in
    let next : number ≡ suc k = omega (arith, is, less) in
    let here : number - 1 ≡ k = omega (arith, next) in
    let there : length fs - i ≡ suc k = omega (arith, less) in
    let one : number ≡ k + 1 = omega (arith, next) in
    let from : functions_of (drop k fs) ≡ function_of f ∷ functions_of (drop (suc k) fs) =
    functions_from fs k f (omega (arith, less)) (at ∙ ap (λ (n : ℕ). get_or fs n f) here) in
    let rest : unwrap_or (place_in before x) none ≡ number + number_named x (functions_of (drop (suc k) fs)) =
    numbers x ∙ (λ j. there j + number_named x (functions_of (drop (there j) fs))) ∙ ap (λ (n : ℕ). n + number_named x (functions_of (drop (suc k) fs))) (sym next) in
    ap (λ (o : Option ℕ). unwrap_or o none) (entered before after key number updates x)
    ∙ ap (λ (y : List ℕ). unwrap_or (cond (bytes_eq y x) (Some number) (place_in before x)) none) named
    ∙ step (bytes_eq f.name x) (place_in before x) none number k (number_named x (functions_of (drop (suc k) fs))) one rest
    ∙ sym (ap (λ (ts : List FunctionTree). k + number_named x ts) from)

placed_by : (b : Bool) (xs : List (List ℕ)) (y x : List ℕ) (o : Option ℕ) (n place : ℕ) → bytes_eq y x ≡ b → n ≡ length xs → ((p : ℕ) → o ≡ Some p → IsPlace xs p x) → cond b (Some n) o ≡ Some place
    → IsPlace (xs ++ y ∷ []) place x
placed_by true xs y x o n place same at old is =
    let here : n ≡ place = cc is in
    subst (λ (p : ℕ). IsPlace (xs ++ y ∷ []) p x) here
    (subst (λ (z : List ℕ). IsPlace (xs ++ y ∷ []) n z) ((bytes_eq-Decides y x).0 same) (pushed_place xs (xs ++ y ∷ []) y n refl at))
placed_by false xs y x o n place same at old is = place_kept xs (xs ++ y ∷ []) place x (pushed_grew xs (xs ++ y ∷ []) y refl) (old place is)

none_by : (b : Bool) (xs : List (List ℕ)) (y x : List ℕ) (o : Option ℕ) (n : ℕ) → bytes_eq y x ≡ b → (o ≡ None → list_any (bytes_eq x) xs ≡ false) → cond b (Some n) o ≡ None
    → list_any (bytes_eq x) (xs ++ y ∷ []) ≡ false
none_by true xs y x o n same old is = cc is
none_by false xs y x o n same old is = list_any-append (bytes_eq x) xs (y ∷ []) ∙ neither _ _ (old is) (differs_back x y same)

-- a new name at the end has its place
pub place_entered : (xs ys : List (List ℕ)) (before after : BTreeMap (Bor (List ℕ)) ℕ) (key : Bor (List ℕ)) (y : List ℕ) (n : ℕ)
    → Updates (λ (x y : Bor (List ℕ)). slice_cmp nat_cmp x.now y.now) before after key (Some n)
    → key.now ≡ y → n ≡ length xs → ys ≡ xs ++ y ∷ [] → list_any (bytes_eq y) xs ≡ false → ArePlaces xs before → ArePlaces ys after
place_entered xs ys before after key y n updates named at is new are = subst (λ (zs : List (List ℕ)). ArePlaces zs after) (sym is) (record {
  distinct = distinct_with xs y are.distinct new;
  place = λ x place found. placed_by (bytes_eq y x) xs y x (place_in before x) n place refl at (are.place x) (sym (found_in x) ∙ found);
  none = λ x missing. none_by (bytes_eq y x) xs y x (place_in before x) n refl (are.none x) (sym (found_in x) ∙ missing);
})
  where
    found_in : (x : List ℕ) → place_in after x ≡ cond (bytes_eq y x) (Some n) (place_in before x)
    found_in x = entered before after key n updates x ∙ ap (λ (z : List ℕ). cond (bytes_eq z x) (Some n) (place_in before x)) named

-- the same entries are the same index
pub places_kept : (xs ys : List (List ℕ)) (before after : BTreeMap (Bor (List ℕ)) ℕ) → after.entries ≡ before.entries → ys ≡ xs → ArePlaces xs before → ArePlaces ys after
places_kept xs ys before after same is are = subst (λ (zs : List (List ℕ)). ArePlaces zs after) (sym is) (record {
  distinct = are.distinct;
  place = λ x place found. are.place x place (sym (found_in x) ∙ found);
  none = λ x missing. are.none x (sym (found_in x) ∙ missing);
})
  where
    found_in : (x : List ℕ) → place_in after x ≡ place_in before x
    found_in x = ap (λ es. lookup (is_at (λ (key : Bor (List ℕ)). slice_cmp nat_cmp x key.now)) es) same

-- what an index answers
pub place_found : (xs : List (List ℕ)) (index : BTreeMap (Bor (List ℕ)) ℕ) (y : List ℕ) (o : Option ℕ) → o ≡ place_in index y → ArePlaces xs index → IfSome o (λ place. IsPlace xs place y)
place_found xs index y (Some place) is are = are.place y place (sym is)
place_found xs index y None is are = tt

pub place_missing : (xs : List (List ℕ)) (index : BTreeMap (Bor (List ℕ)) ℕ) (y : List ℕ) (o : Option ℕ) → o ≡ place_in index y → ArePlaces xs index → IfNone o (list_any (bytes_eq y) xs ≡ false)
place_missing xs index y (Some place) is are = tt
place_missing xs index y None is are = are.none y (sym is)

-- what a result that was asked promises
pub where_ok : {T E : Type 0} {P : Type 0} (r : Result T E) → is_err r ≡ false → OnOk r P → P
where_ok (Ok x) is p = p
where_ok (Err e) is p = absurd (cc is)

pub where_err : {T E : Type 0} {P : Type 0} (r : Result T E) → is_err r ≡ true → OnErr r P → P
where_err (Ok x) is p = absurd (cc is)
where_err (Err e) is p = p
