-- Reads a program by computing: its limits, and its rules.
use Rattle.std.proofs.Common.{◌≡◌, ℕ, List, [], ◌∷◌, ◌++◌, Bool, true, false, ◌&&◌, Option, Some, None, refl, sym, subst, append-nil, append_assoc}
use Rattle.std.specs.Prelude.{is_none, not}
use Rattle.std.proofs.lemmas.Bool.{and_parts}
use Rattle.ocr_program_tree.specs.Tree.{FunctionTree}
use Rattle.ocr_program_tree.specs.Functions.{main_name}
use Rattle.ocr_program_grammar.specs.declared.lexeme.Lexeme.{Lexeme}
use Rattle.ocr_program_grammar.specs.Limits.{Tally, tally_after, is_over}
use Rattle.ocr_program_canonical.proofs.Keeps.{Keeps}
use Rattle.ocr_program_check.specs.Check.{BreaksNoRule, FailsNowhere, HasNamesake, is_among, names_of}
use Rattle.ocr_program_check.specs.Checked.{BreaksSome, mentions_of}
use Rattle.ocr_program_check.proofs.First.{FailsNowhere-nil, FailsNowhere-push, function_keeps, kept_function}
use Rattle.ocr_program_check.proofs.Mentions.{first_broken}
use Rattle.ocr_program_check.proofs.Programs.{no_breach}

not_true : (b : Bool) → not b ≡ true → b ≡ false
not_true true is = cc is
not_true false is = refl

-- ---- the limits

abbrev pub keeps : Tally → List Lexeme → Bool
keeps y [] = not (is_over y)
keeps y (t ∷ ts) = not (is_over y) && keeps (tally_after y t) ts

pub kept : (ts : List Lexeme) (y : Tally) → keeps y ts ≡ true → Keeps y ts
kept [] y is = not_true (is_over y) is
kept (t ∷ ts) y is =
    let parts = and_parts (not (is_over y)) (keeps (tally_after y t) ts) is in (not_true (is_over y) parts.0, kept ts (tally_after y t) parts.1)

-- ---- the rules

-- no function has the name of one before it
abbrev are_distinct : List FunctionTree → List FunctionTree → Bool
are_distinct before [] = true
are_distinct before (f ∷ fs) = not (is_among f.name (names_of before)) && are_distinct (before ++ f ∷ []) fs

-- no function breaks a rule
abbrev are_sound : List (List ℕ) → List FunctionTree → Bool
are_sound names [] = true
are_sound names (f ∷ fs) = is_none (first_broken names [] (mentions_of f)) && are_sound names fs

both : (b : Bool) → b ≡ true → b ≡ false → ⊥
both b t f = cc (t, f)

distinct : (before fs : List FunctionTree) → FailsNowhere HasNamesake before → are_distinct before fs ≡ true → FailsNowhere HasNamesake (before ++ fs)
distinct before [] earlier is = subst (λ (xs : List FunctionTree). FailsNowhere HasNamesake xs) (sym (append-nil before)) earlier
distinct before (f ∷ fs) earlier is =
    let parts = and_parts (not (is_among f.name (names_of before))) (are_distinct (before ++ f ∷ []) fs) is in
    let pushed = FailsNowhere-push HasNamesake before f earlier (λ same. both _ same (not_true _ parts.0)) in
    subst (λ (xs : List FunctionTree). FailsNowhere HasNamesake xs) (append_assoc before (f ∷ []) fs) (distinct (before ++ f ∷ []) fs pushed parts.1)

none_of : (o : Option ℕ) → is_none o ≡ true → o ≡ None
none_of None is = refl
none_of (Some r) is = cc is

sound : (names : List (List ℕ)) (before fs : List FunctionTree) → FailsNowhere (BreaksSome names) before → are_sound names fs ≡ true → FailsNowhere (BreaksSome names) (before ++ fs)
sound names before [] earlier is = subst (λ (xs : List FunctionTree). FailsNowhere (BreaksSome names) xs) (sym (append-nil before)) earlier
sound names before (f ∷ fs) earlier is =
    let parts = and_parts (is_none (first_broken names [] (mentions_of f))) (are_sound names fs) is in
    let own = function_keeps names f (none_of (first_broken names [] (mentions_of f)) parts.0) in
    let pushed = FailsNowhere-push (BreaksSome names) before f earlier (λ breaks. kept_function names f own breaks.0 breaks.1) in
    subst (λ (xs : List FunctionTree). FailsNowhere (BreaksSome names) xs) (append_assoc before (f ∷ []) fs) (sound names (before ++ f ∷ []) fs pushed parts.1)

-- whether a program breaks no rule
abbrev pub is_sound : List FunctionTree → Bool
is_sound fs = are_distinct [] fs && (is_among main_name (names_of fs) && are_sound (names_of fs) fs)

pub breaks_none : (fs : List FunctionTree) → is_sound fs ≡ true → BreaksNoRule fs
breaks_none fs is =
    let parts = and_parts (are_distinct [] fs) (is_among main_name (names_of fs) && are_sound (names_of fs) fs) is in
    let rest = and_parts (is_among main_name (names_of fs)) (are_sound (names_of fs) fs) parts.1 in
    no_breach fs (distinct [] fs (FailsNowhere-nil HasNamesake) parts.0) rest.0 (sound (names_of fs) [] fs (FailsNowhere-nil (BreaksSome (names_of fs))) rest.1)
