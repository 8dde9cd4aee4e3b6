-- The entries of a cache as a row, from the first who came.
use Rattle.std.proofs.Common.{◌≡◌, ◌<◌, ℕ, ◌-◌, ◌^◌, List, [], ◌∷◌, ◌++◌, Bool, true, false, cond, ◌==◌, Option, Some, None, length, take, arith, refl, sym, ◌∙◌, ap, subst, nat_eq}
use Rattle.std.specs.Prelude.{reverse, slice_get, MatchOption}
use Rattle.std.specs.Map.{lookup, lookup_entry, remove_entry}
use Rattle.std.proofs.lemmas.Bool.Decides.{nat_tests}
use Rattle.std.proofs.lemmas.List.{append-nil, reverse-append, reverse-reverse, take_all, length_push}
use Rattle.lru.specs.LruCache.{LruCache, put_entries, last_entry}
use Rattle.ocr_acquire.specs.declared.Mode.{Mode}
use Rattle.ocr_acquire.specs.Mode.{mode_in}
use Rattle.ocr_datablock.specs.Block.{without}
use Rattle.ocr_datablock.specs.Steps.{StandOnce}
use Rattle.ocr_datablock.proofs.Lines.{without_none, without_append, mode_skips, mode_finds, once_first, once_last}

pub turned : (e : ℕ × Mode) (es : List (ℕ × Mode)) → reverse (e ∷ es) ≡ reverse es ++ e ∷ []
turned e es = reverse-append (e ∷ []) es

pub once_turned : (e : ℕ × Mode) (es : List (ℕ × Mode)) → StandOnce (reverse (e ∷ es)) → StandOnce (reverse es) × (mode_in e.0 (reverse es) ≡ None)
once_turned e es once =
    let as_came : StandOnce (reverse es ++ e ∷ []) = rw (← turned e es) once in
    (once_first (reverse es) (e ∷ []) as_came, once_last (reverse es) e as_came)

-- a look-up finds the mode
push_case : (t : ℕ) (e : ℕ × Mode) (xs : List (ℕ × Mode)) (found : Option Mode) (here : Bool) → nat_eq t e.0 ≡ here → mode_in e.0 xs ≡ None
    → found ≡ mode_in t xs → cond here (Some e.1) found ≡ mode_in t (xs ++ e ∷ [])
push_case t e xs found true is none same =
    let who : e.0 ≡ t = grind (arith, nat_tests) in
    let own : (e.0 == t) ≡ true = grind (arith, nat_tests) in
    sym (mode_skips t xs (e ∷ []) (rw who at none) ∙ rw own refl)
push_case t e xs None false is none same =
    let other : (e.0 == t) ≡ false = grind (arith, nat_tests) in
    sym (mode_skips t xs (e ∷ []) (sym same) ∙ rw other refl)
push_case t e xs (Some m) false is none same = sym (mode_finds t m xs (e ∷ []) (sym same))

lookup_turned : (t : ℕ) (es : List (ℕ × Mode)) → StandOnce (reverse es) → lookup (nat_eq t) es ≡ mode_in t (reverse es)
lookup_turned t [] once = refl
lookup_turned t (e ∷ es) once =
    let parts = once_turned e es once in
    push_case t e (reverse es) (lookup (nat_eq t) es) (nat_eq t e.0) refl parts.1 (lookup_turned t es parts.0) ∙ ap (mode_in t) (sym (turned e es))

-- by the number that a name stands for
pub lookup_named : (n t : ℕ) (es : List (ℕ × Mode)) → n ≡ t → StandOnce (reverse es) → lookup (nat_eq n) es ≡ mode_in t (reverse es)
lookup_named n t es same once = lookup_turned n es once ∙ ap (λ (k : ℕ). mode_in k (reverse es)) same

-- without one
removed_case : (t : ℕ) (e : ℕ × Mode) (es rest xs : List (ℕ × Mode)) (here : Bool) → nat_eq t e.0 ≡ here → xs ≡ reverse es → mode_in e.0 xs ≡ None
    → reverse rest ≡ without t xs → reverse (cond here es (e ∷ rest)) ≡ without t (xs ++ e ∷ [])
removed_case t e es rest xs true is came none same =
    let who : e.0 ≡ t = grind (arith, nat_tests) in
    let own : (e.0 == t) ≡ true = grind (arith, nat_tests) in
    let gone : without t (e ∷ []) ≡ [] = rw own refl in
    let kept : without t xs ≡ xs = without_none t xs (rw who at none) in
    sym came ∙ sym (append-nil xs) ∙ sym (without_append t xs (e ∷ []) ∙ ap (λ (tail : List (ℕ × Mode)). without t xs ++ tail) gone ∙ ap (λ (all : List (ℕ × Mode)). all ++ []) kept)
removed_case t e es rest xs false is came none same =
    let other : (e.0 == t) ≡ false = grind (arith, nat_tests) in
    let stays : without t (e ∷ []) ≡ e ∷ [] = rw other refl in
    turned e rest ∙ ap (λ (all : List (ℕ × Mode)). all ++ e ∷ []) same
    ∙ sym (without_append t xs (e ∷ []) ∙ ap (λ (tail : List (ℕ × Mode)). without t xs ++ tail) stays)

removed_turned : (t : ℕ) (es : List (ℕ × Mode)) → StandOnce (reverse es) → reverse (remove_entry (nat_eq t) es) ≡ without t (reverse es)
removed_turned t [] once = refl
removed_turned t (e ∷ es) once =
    let parts = once_turned e es once in
    removed_case t e es (remove_entry (nat_eq t) es) (reverse es) (nat_eq t e.0) refl refl parts.1 (removed_turned t es parts.0)
    ∙ ap (without t) (sym (turned e es))

pub removed_named : (n t : ℕ) (es : List (ℕ × Mode)) → n ≡ t → StandOnce (reverse es) → reverse (remove_entry (nat_eq n) es) ≡ without t (reverse es)
removed_named n t es same once = removed_turned n es once ∙ ap (λ (k : ℕ). without k (reverse es)) same

-- with one more
absent : (t : ℕ) (es : List (ℕ × Mode)) → lookup (nat_eq t) es ≡ None → lookup_entry (nat_eq t) es ≡ None
absent t [] none = refl
absent t (e ∷ es) none = elim (nat_eq t e.0) as (λ b. cond b (Some e.1) (lookup (nat_eq t) es) ≡ None → cond b (Some e) (lookup_entry (nat_eq t) es) ≡ None) [
  | true ↦ λ some. cc
  | false ↦ λ later. absent t es later
] none

put_turned : (cache : LruCache ℕ Mode) (t : ℕ) (m : Mode) → cache.cap ≡ 2 ^ 64 - 1 → length cache.entries < 2 ^ 63 → StandOnce (reverse cache.entries)
    → mode_in t (reverse cache.entries) ≡ None → reverse (put_entries nat_eq cache t m) ≡ reverse cache.entries ++ (t, m) ∷ []
put_turned cache t m cap small once none =
    let none_there : lookup_entry (nat_eq t) cache.entries ≡ None = absent t cache.entries (lookup_turned t cache.entries once ∙ none) in
    let all : take (cache.cap - 1) cache.entries ≡ cache.entries = take_all (cache.cap - 1) cache.entries (omega (arith, cap)) in
    rw (none_there, all) (turned (t, m) cache.entries)

pub put_named : (cache : LruCache ℕ Mode) (n t : ℕ) (m : Mode) → n ≡ t → cache.cap ≡ 2 ^ 64 - 1 → length cache.entries < 2 ^ 63 → StandOnce (reverse cache.entries)
    → mode_in t (reverse cache.entries) ≡ None → reverse (put_entries nat_eq cache n m) ≡ reverse cache.entries ++ (t, m) ∷ []
put_named cache n t m same cap small once none =
    put_turned cache n m cap small once (ap (λ (k : ℕ). mode_in k (reverse cache.entries)) same ∙ none) ∙ ap (λ (k : ℕ). reverse cache.entries ++ (k, m) ∷ []) same

-- the first who came
last_at : (xs : List (ℕ × Mode)) (x : ℕ × Mode) → slice_get (xs ++ x ∷ []) (length xs) ≡ Some x
last_at [] x = refl
last_at (y ∷ ys) x = last_at ys x

all_but_last : (xs : List (ℕ × Mode)) (x : ℕ × Mode) → take (length xs) (xs ++ x ∷ []) ≡ xs
all_but_last [] x = refl
all_but_last (y ∷ ys) x = ap (λ (tail : List (ℕ × Mode)). y ∷ tail) (all_but_last ys x)

first_case : (row es : List (ℕ × Mode)) → es ≡ reverse row
    → MatchOption (last_entry es) ((row ≡ []) × (reverse (take (length es - 1) es) ≡ [])) (λ first. row ≡ first ∷ reverse (take (length es - 1) es))
first_case [] es is = rw is (refl, refl)
first_case (one ∷ rest) es is =
    let shape : es ≡ reverse rest ++ one ∷ [] = is ∙ turned one rest in
    let count : length es - 1 ≡ length (reverse rest) = rw shape (let n = length_push (reverse rest) one in omega arith) in
    let last : last_entry es ≡ Some one = rw count (rw shape (last_at (reverse rest) one)) in
    let others : reverse (take (length es - 1) es) ≡ rest = rw count (rw shape (ap reverse (all_but_last (reverse rest) one) ∙ reverse-reverse rest)) in
    rw last (ap (λ (tail : List (ℕ × Mode)). one ∷ tail) (sym others))

first_turned : (es : List (ℕ × Mode)) → MatchOption (last_entry es) ((reverse es ≡ []) × (reverse (take (length es - 1) es) ≡ [])) (λ first. reverse es ≡ first ∷ reverse (take (length es - 1) es))
first_turned es = first_case (reverse es) es (sym (reverse-reverse es))

pub first_named : (es : List (ℕ × Mode)) (one : ℕ × Mode) → last_entry es ≡ Some one → reverse es ≡ one ∷ reverse (take (length es - 1) es)
first_named es one is = subst (λ (o : Option (ℕ × Mode)). MatchOption o ((reverse es ≡ []) × (reverse (take (length es - 1) es) ≡ [])) (λ first. reverse es ≡ first ∷ reverse (take (length es - 1) es))) is (first_turned es)

pub none_named : (es : List (ℕ × Mode)) → last_entry es ≡ None → (reverse es ≡ []) × (reverse (take (length es - 1) es) ≡ [])
none_named es is = subst (λ (o : Option (ℕ × Mode)). MatchOption o ((reverse es ≡ []) × (reverse (take (length es - 1) es) ≡ [])) (λ first. reverse es ≡ first ∷ reverse (take (length es - 1) es))) is (first_turned es)
