-- What pieces leave in the rows.
use Rattle.std.proofs.Common.{◌≡◌, ◌∙◌, ◌≤◌, ◌||◌, ◌&&◌, Bool, cond, true, false, refl, sym, ap, ap₂, subst, true≢false, arith, codes, List, [], ◌∷◌, ◌++◌, length, Some, None, append-nil, length-append}
use Rattle.std.specs.Prelude.{is_some}
use Rattle.std.specs.Str.{bytes_eq}
use Rattle.clap.specs.Walk.{Row, Rule, has_row, used, with_values, without}
use Rattle.clap.specs.Faults.{use_fault}
use Rattle.clap.specs.Kinds.{Kinds, or_else}
use Rattle.clap.specs.declared.error.kind.ErrorKind.TheVariants as kind
use Rattle.clap.specs.declared.parser.matches.ValueSource.TheVariants.{CommandLine}
use Rattle.clap.specs.declared.builder.value_parser.Reading.TheVariants.{AsWritten}
use Rattle.ocr_run_command.specs.Form.{Text, Piece, number, option, joined, flag, IsKnown, name_of, value_of, given, is_single, numbers}
use Rattle.ocr_run_command.proofs.Rules.{option_rule, flag_rule, number_rule}
use Rattle.ocr_run_command.proofs.Rows.{Seen, seen, more, same, equal, seen_with, unseen, without_none}

-- each option and each flag stands at most once
abbrev pub IsOnce : List Piece → Type 0
IsOnce ps = (name : Text) → is_single name ≡ true → length (given name ps) ≤ 1

abbrev pub some_of : List Text → Seen
some_of [] = None
some_of (x ∷ xs) = Some (x ∷ xs, AsWritten)

-- the rows hold what the pieces give
abbrev pub Holds : List Row → List Piece → Type 0
Holds rows ps = (id : Text) → seen id rows ≡ some_of (given id ps)

abbrev pub rule_for : Piece → Rule
rule_for (number t) = number_rule
rule_for (option n t) = option_rule n
rule_for (joined n t) = option_rule n
rule_for (flag n) = flag_rule n

abbrev pub texts_for : Piece → List Text
texts_for (number t) = t ∷ []
texts_for (option n t) = t ∷ []
texts_for (joined n t) = t ∷ []
texts_for (flag n) = []

-- the piece is no second use
abbrev pub IsNew : Piece → List Row → Type 0
IsNew (number t) rows = Unit {0}
IsNew (option n t) rows = has_row n rows ≡ false
IsNew (joined n t) rows = has_row n rows ≡ false
IsNew (flag n) rows = has_row n rows ≡ false

pub or_nil : (a b : Kinds) → or_else a b ≡ [] → (a ≡ []) × (b ≡ [])
or_nil [] b e = (refl, e)
or_nil (k ∷ ks) b e = (e, absurd (cons_nil k ks e))
  where
    cons_nil : (k : _) (ks : Kinds) → k ∷ ks ≡ [] → ⊥
    cons_nil k ks e = true≢false (ap (λ (xs : Kinds). elim xs as (λ _. Bool) [ [] ↦ false | (y ∷ ys) ↦ true ]) e)

pub nil_or : (a b : Kinds) → a ≡ [] → b ≡ [] → or_else a b ≡ []
nil_or a b e f = ap₂ or_else e f

abbrev repeated : Bool → Kinds
repeated b = or_else (cond b (kind.ArgumentConflict ∷ []) []) []

once : (b : Bool) → repeated b ≡ [] → b ≡ false
once false e = refl
once true e = absurd (true≢false (ap (λ (xs : Kinds). elim xs as (λ _. Bool) [ [] ↦ false | (y ∷ ys) ↦ true ]) e))

new_if : (b : Bool) → or_else (cond (b && true) (kind.ArgumentConflict ∷ []) []) [] ≡ [] → b ≡ false
new_if true e = once true e
new_if false e = refl

-- a use fails where it is a second one
pub is_new : (p : Piece) (rows : List Row) → use_fault false (rule_for p) (texts_for p) rows ≡ [] → IsNew p rows
is_new (number t) rows e = tt
is_new (option n t) rows e = new_if (has_row n rows) e
is_new (joined n t) rows e = new_if (has_row n rows) e
is_new (flag n) rows e = new_if (has_row n rows) e

pub new_passes : (p : Piece) (rows : List Row) → IsNew p rows → use_fault false (rule_for p) (texts_for p) rows ≡ []
new_passes (number t) rows e = refl
new_passes (option n t) rows e = ap (λ b. or_else (cond (b && true) (kind.ArgumentConflict ∷ []) []) []) e
new_passes (joined n t) rows e = ap (λ b. or_else (cond (b && true) (kind.ArgumentConflict ∷ []) []) []) e
new_passes (flag n) rows e = ap (λ b. or_else (cond (b && true) (kind.ArgumentConflict ∷ []) []) []) e

-- ---- what is held after one more piece

pub given-append : (id : Text) (ps qs : List Piece) → given id (ps ++ qs) ≡ given id ps ++ given id qs
given-append id [] qs = refl
given-append id (p ∷ ps) qs = go (bytes_eq (name_of p) id) (given-append id ps qs)
  where
    go : (b : Bool) → given id (ps ++ qs) ≡ given id ps ++ given id qs
        → cond b (value_of p ∷ given id (ps ++ qs)) (given id (ps ++ qs)) ≡ cond b (value_of p ∷ given id ps) (given id ps) ++ given id qs
    go true e = ap (λ xs. value_of p ∷ xs) e
    go false e = e

more_of : (v : Text) (xs : List Text) → more (v ∷ []) (some_of xs) ≡ some_of (xs ++ v ∷ [])
more_of v [] = refl
more_of v (x ∷ xs) = refl

-- a use adds the piece's value to its name
pub held_more : (p : Piece) (v n : Text) (rows : List Row) (ps : List Piece) → n ≡ name_of p → v ≡ value_of p → Holds rows ps
    → Holds (with_values n AsWritten CommandLine (v ∷ []) rows) (ps ++ p ∷ [])
held_more p v n rows ps is val h id =
    let before = seen_with n id CommandLine (v ∷ []) rows in
    let named = ap₂ (λ (x : Seen) (y : Seen). cond (bytes_eq n id) (more (v ∷ []) x) y) (h n) (h id) in
    let after = ap some_of (given-append id ps (p ∷ [])) in
    before ∙ named ∙ go (bytes_eq n id) refl ∙ sym after
  where
    own : bytes_eq (name_of p) id ≡ bytes_eq n id
    own = ap (λ x. bytes_eq x id) (sym is)

    go : (b : Bool) → bytes_eq n id ≡ b
        → cond (bytes_eq n id) (more (v ∷ []) (some_of (given n ps))) (some_of (given id ps)) ≡ some_of (given id ps ++ cond (bytes_eq (name_of p) id) (value_of p ∷ []) [])
    go true t =
        let same_name : n ≡ id = same n id t in
        ap (λ b. cond b (more (v ∷ []) (some_of (given n ps))) (some_of (given id ps))) t
        ∙ more_of v (given n ps) ∙ ap₂ (λ (x : Text) (y : Text). some_of (given x ps ++ y ∷ [])) same_name val
        ∙ sym (ap (λ b. some_of (given id ps ++ cond b (value_of p ∷ []) [])) (own ∙ t))
    go false t =
        ap (λ b. cond b (more (v ∷ []) (some_of (given n ps))) (some_of (given id ps))) t
        ∙ ap some_of (sym (append-nil (given id ps)))
        ∙ sym (ap (λ b. some_of (given id ps ++ cond b (value_of p ∷ []) [])) (own ∙ t))

held_new : (p : Piece) (v n : Text) (rows : List Row) (ps : List Piece) → n ≡ name_of p → v ≡ value_of p → Holds rows ps → has_row n rows ≡ false
    → Holds (with_values n AsWritten CommandLine (v ∷ []) (without n rows)) (ps ++ p ∷ [])
held_new p v n rows ps is val h new =
    subst (λ (rs : List Row). Holds (with_values n AsWritten CommandLine (v ∷ []) rs) (ps ++ p ∷ [])) (sym (without_none n rows new)) (held_more p v n rows ps is val h)

pub use_holds : (p : Piece) (rows : List Row) (ps : List Piece) → Holds rows ps → IsNew p rows → Holds (used (rule_for p) (texts_for p) rows) (ps ++ p ∷ [])
use_holds (number t) rows ps h new = held_more (number t) t numbers rows ps refl refl h
use_holds (option n t) rows ps h new = held_new (option n t) t n rows ps refl refl h new
use_holds (joined n t) rows ps h new = held_new (joined n t) t n rows ps refl refl h new
use_holds (flag n) rows ps h new = held_new (flag n) (codes "true") n rows ps refl refl h new

-- ---- each at most once

none_seen : (xs : List Text) → is_some (some_of xs) ≡ false → xs ≡ []
none_seen [] e = refl
none_seen (x ∷ xs) e = absurd (true≢false e)

-- an option or a flag that is new
abbrev IsNewName : Text → List Row → List Piece → Type 0
IsNewName n rows ps = has_row n rows ≡ false → given n ps ≡ []

pub not_given : (n : Text) (rows : List Row) (ps : List Piece) → Holds rows ps → has_row n rows ≡ false → given n ps ≡ []
not_given n rows ps h new = none_seen (given n ps) (sym (ap (λ o. is_some o) (h n)) ∙ sym (unseen n rows) ∙ new)

pub given_once : (p : Piece) (rows : List Row) (ps : List Piece) → Holds rows ps → IsNew p rows → IsOnce ps → IsOnce (ps ++ p ∷ [])
given_once p rows ps h new single id e = subst (λ (xs : List Text). length xs ≤ 1) (sym (given-append id ps (p ∷ []))) (go p new (bytes_eq (name_of p) id) refl)
  where
    few : (xs : List Text) (v : Text) → xs ≡ [] → length (xs ++ v ∷ []) ≤ 1
    few xs v none = subst (λ (ys : List Text). length (ys ++ v ∷ []) ≤ 1) (sym none) (omega arith)

    old : (xs : List Text) → length xs ≤ 1 → length (xs ++ []) ≤ 1
    old xs h = subst (λ (ys : List Text). length ys ≤ 1) (sym (append-nil xs)) h

    fresh : (n v : Text) → bytes_eq n id ≡ true → has_row n rows ≡ false → length (given id ps ++ v ∷ []) ≤ 1
    fresh n v t none = few (given id ps) v (subst (λ (x : Text). given x ps ≡ []) (same n id t) (not_given n rows ps h none))

    to_true : (p : Piece) → bytes_eq (name_of p) id ≡ true → length (given id ps ++ value_of p ∷ []) ≤ 1 → length (given id ps ++ given id (p ∷ [])) ≤ 1
    to_true p t k = subst (λ b. length (given id ps ++ cond b (value_of p ∷ []) []) ≤ 1) (sym t) k

    to_false : (p : Piece) → bytes_eq (name_of p) id ≡ false → length (given id ps ++ given id (p ∷ [])) ≤ 1
    to_false p t = subst (λ b. length (given id ps ++ cond b (value_of p ∷ []) []) ≤ 1) (sym t) (old (given id ps) (single id e))

    go : (p : Piece) → IsNew p rows → (b : Bool) → bytes_eq (name_of p) id ≡ b → length (given id ps ++ given id (p ∷ [])) ≤ 1
    go p new false t = to_false p t
    go (number t) new true u = absurd (true≢false (sym e ∙ ap is_single (sym (same numbers id u))))
    go (option n t) new true u = to_true (option n t) u (fresh n t u new)
    go (joined n t) new true u = to_true (joined n t) u (fresh n t u new)
    go (flag n) new true u = to_true (flag n) u (fresh n (codes "true") u new)

-- a piece among pieces that stand once is new
pub once_new : (p : Piece) (rows : List Row) (ps qs : List Piece) → Holds rows ps → IsKnown p → IsOnce (ps ++ p ∷ qs) → IsNew p rows
once_new p rows ps qs h known single = go p known single
  where
    no_more : (xs ys : List Text) (v : Text) → length (xs ++ v ∷ ys) ≤ 1 → is_some (some_of xs) ≡ false
    no_more [] ys v e = refl
    no_more (x ∷ xs) ys v e = absurd (omega (arith, length-append xs (v ∷ ys)))

    free : (p : Piece) (n : Text) → name_of p ≡ n → is_single n ≡ true → IsOnce (ps ++ p ∷ qs) → has_row n rows ≡ false
    free p n is k single =
        let here : bytes_eq (name_of p) n ≡ true = ap (λ x. bytes_eq x n) is ∙ equal n in
        let all = single n k in
        let parts = given-append n ps (p ∷ qs) ∙ ap (λ b. given n ps ++ cond b (value_of p ∷ given n qs) (given n qs)) here in
        unseen n rows ∙ ap (λ o. is_some o) (h n) ∙ no_more (given n ps) (given n qs) (value_of p) (subst (λ (xs : List Text). length xs ≤ 1) parts all)

    left : (a b : Bool) → a ≡ true → (a || b) ≡ true
    left true b e = refl
    left false b e = absurd (true≢false (sym e))

    right : (a b : Bool) → b ≡ true → (a || b) ≡ true
    right true b e = refl
    right false b e = e

    go : (p : Piece) → IsKnown p → IsOnce (ps ++ p ∷ qs) → IsNew p rows
    go (number t) k single = tt
    go (option n t) k single = free (option n t) n refl (left _ _ k) single
    go (joined n t) k single = free (joined n t) n refl (left _ _ k) single
    go (flag n) k single = free (flag n) n refl (right _ _ k) single
