-- The first item of a list that fails, and the first breach of a program.
use Rattle.std.proofs.Common.{◌≡◌, ℕ, ◌+◌, List, [], ◌∷◌, ◌++◌, length, true, Option, None, Some, reverse, refl, sym, ap, ◌∙◌, subst}
use Rattle.std.specs.Option.{option_or, is_some}
use Rattle.std.proofs.lemmas.List.{append_assoc, append-nil, reverse-append}
use Rattle.ocr_program_tree.specs.Tree.{FunctionTree}
use Rattle.ocr_program_check.specs.Check.{Mention, IsFirst, FailsNowhere, Breaks, rule_broken, HasNamesake, same_name, no_main, in_body, BreachLaw, names_of}
use Rattle.ocr_program_check.specs.Checked.{BreaksRule, BreaksSome, mentions_of}
use Rattle.ocr_program_check.proofs.Mentions.{first_broken}

-- two ways to take a list apart at an item: at the same place, or one place is before the other
data Apart {X : Type 0} (xs : List X) (x : X) (past_x ys : List X) (y : X) (past_y : List X) : Type 0 where
  same : xs ≡ ys → x ≡ y → Apart xs x past_x ys y past_y
  before : (m : List X) → ys ≡ xs ++ (x ∷ m) → past_x ≡ m ++ (y ∷ past_y) → Apart xs x past_x ys y past_y
  after : (m : List X) → xs ≡ ys ++ (y ∷ m) → Apart xs x past_x ys y past_y

apart-cons : {X : Type 0} (a b : X) (xs : List X) (x : X) (us ys : List X) (y : X) (vs : List X) → a ≡ b → Apart xs x us ys y vs → Apart (a ∷ xs) x us (b ∷ ys) y vs
apart-cons a b xs x us ys y vs e (same p q) = same (λ i. e i ∷ p i) q
apart-cons a b xs x us ys y vs e (before m p q) = before m (λ i. sym e i ∷ p i) q
apart-cons a b xs x us ys y vs e (after m p) = after m (λ i. e i ∷ p i)

taken_apart : {X : Type 0} (xs : List X) (x : X) (us ys : List X) (y : X) (vs : List X) → xs ++ (x ∷ us) ≡ ys ++ (y ∷ vs) → Apart xs x us ys y vs
taken_apart [] x us [] y vs e = same refl (cc)
taken_apart [] x us (b ∷ ys) y vs e = before ys (let p : b ≡ x = cc in λ i. p i ∷ ys) (cc)
taken_apart (a ∷ xs) x us [] y vs e = after xs (let p : a ≡ y = cc in λ i. p i ∷ xs)
taken_apart (a ∷ xs) x us (b ∷ ys) y vs e = apart-cons a b xs x us ys y vs (cc) (taken_apart xs x us ys y vs (cc))

not_empty : {X : Type 0} (xs : List X) (x : X) (us : List X) → [] ≡ xs ++ (x ∷ us) → ⊥
not_empty [] x us e = cc
not_empty (a ∷ xs) x us e = cc

pub FailsNowhere-nil : {X : Type 0} (Fails : List X → X → Type 0) → FailsNowhere Fails []
FailsNowhere-nil Fails = λ xs us x e fails. not_empty xs x us e

pub FailsNowhere-push : {X : Type 0} (Fails : List X → X → Type 0) (xs : List X) (x : X) → FailsNowhere Fails xs → (Fails xs x → ⊥) → FailsNowhere Fails (xs ++ (x ∷ []))
FailsNowhere-push {X} Fails xs x earlier keeps = λ ys vs y e fails. pushed ys vs y fails (taken_apart xs x [] ys y vs e)
  where
    pushed : (ys vs : List X) (y : X) → Fails ys y → Apart xs x [] ys y vs → ⊥
    pushed ys vs y fails (same p q) = keeps (subst (λ (z : X). Fails xs z) (sym q) (subst (λ (zs : List X). Fails zs y) (sym p) fails))
    pushed ys vs y fails (before m p q) = not_empty m y vs q
    pushed ys vs y fails (after m p) = earlier ys m y p fails

-- there is at most one first item that fails
pub first_is_one : {X : Type 0} (Fails : List X → X → Type 0) (items xs ys : List X) (x y : X) → IsFirst Fails items xs x → IsFirst Fails items ys y → (xs ≡ ys) × (x ≡ y)
first_is_one {X} Fails items xs ys x y f g = one (taken_apart xs x f.after ys y g.after (sym f.whole ∙ g.whole))
  where
    one : Apart xs x f.after ys y g.after → (xs ≡ ys) × (x ≡ y)
    one (same p q) = (p, q)
    one (before m p q) = absurd (g.earlier xs m x p f.fails)
    one (after m p) = absurd (f.earlier ys m y p g.fails)

-- a list with a first item that fails has one that fails
pub first_fails : {X : Type 0} (Fails : List X → X → Type 0) (items xs : List X) (x : X) → IsFirst Fails items xs x → FailsNowhere Fails items → ⊥
first_fails Fails items xs x f none = none xs f.after x f.whole f.fails

some_injective : (a b : ℕ) → Some a ≡ Some b → a ≡ b
some_injective a b e = cc

-- a function breaks at most one rule first
pub broken_is_one : (names : List (List ℕ)) (f : FunctionTree) (r s : ℕ) → Breaks names f r → Breaks names f s → r ≡ s
broken_is_one names f r s a b =
    let both = first_is_one (BreaksRule names) (mentions_of f) a.before b.before a.mention b.mention a.first b.first in
    some_injective r s (sym a.broken ∙ (λ i. rule_broken names (reverse (both.0 i)) (both.1 i)) ∙ b.broken)

pub breach_is_one : BreachLaw
breach_is_one program _ _ _ _ (same_name xs x f) (same_name ys y g) =
    let both = first_is_one HasNamesake program xs ys x y f g in (refl, ap (λ (zs : List FunctionTree). length zs + 1) both.0)
breach_is_one program _ _ _ _ (same_name xs x f) (no_main d g) = absurd (first_fails HasNamesake program xs x f d)
breach_is_one program _ _ _ _ (same_name xs x f) (in_body ys y s d g h b) = absurd (first_fails HasNamesake program xs x f d)
breach_is_one program _ _ _ _ (no_main d g) (same_name xs x f) = absurd (first_fails HasNamesake program xs x f d)
breach_is_one program _ _ _ _ (no_main d g) (no_main c h) = (refl, refl)
breach_is_one program _ _ _ _ (no_main d g) (in_body ys y s c h k b) = absurd (cc)
breach_is_one program _ _ _ _ (in_body ys y r d g h b) (same_name xs x f) = absurd (first_fails HasNamesake program xs x f d)
breach_is_one program _ _ _ _ (in_body ys y r c h k b) (no_main d g) = absurd (cc)
breach_is_one program _ _ _ _ (in_body xs x r d g h b) (in_body ys y s c k l e) =
    let both = first_is_one (BreaksSome (names_of program)) program xs ys x y h l in (
      broken_is_one (names_of program) x r s b (subst (λ (z : FunctionTree). Breaks (names_of program) z s) (sym both.1) e),
      ap (λ (zs : List FunctionTree). length zs + 1) both.0,
    )

-- ---- the first mention that breaks a rule

reverse-push : (xs : List Mention) (x : Mention) → reverse (xs ++ (x ∷ [])) ≡ x ∷ reverse xs
reverse-push xs x = reverse-append xs (x ∷ [])

or_none : (a b : Option ℕ) → option_or a b ≡ None → (a ≡ None) × (b ≡ None)
or_none None b e = (refl, e)
or_none (Some r) b e = absurd (cc)

not_some : (o : Option ℕ) → o ≡ None → is_some o ≡ true → ⊥
not_some None e h = cc
not_some (Some r) e h = cc

is_some-Some : (o : Option ℕ) (r : ℕ) → o ≡ Some r → is_some o ≡ true
is_some-Some None r e = absurd (cc)
is_some-Some (Some s) r e = refl

pub keeps_on : (names : List (List ℕ)) (xs ys : List Mention) → FailsNowhere (BreaksRule names) xs → first_broken names (reverse xs) ys ≡ None → FailsNowhere (BreaksRule names) (xs ++ ys)
keeps_on names xs [] earlier e = subst (λ (zs : List Mention). FailsNowhere (BreaksRule names) zs) (sym (append-nil xs)) earlier
keeps_on names xs (y ∷ ys) earlier e =
    let parts = or_none (rule_broken names (reverse xs) y) (first_broken names (y ∷ reverse xs) ys) e in
    let pushed : FailsNowhere (BreaksRule names) (xs ++ (y ∷ [])) = FailsNowhere-push (BreaksRule names) xs y earlier (λ h. not_some (rule_broken names (reverse xs) y) parts.0 h) in
    let rest : first_broken names (reverse (xs ++ (y ∷ []))) ys ≡ None = ap (λ (p : List Mention). first_broken names p ys) (reverse-push xs y) ∙ parts.1 in
    subst (λ (zs : List Mention). FailsNowhere (BreaksRule names) zs) (append_assoc xs (y ∷ []) ys) (keeps_on names (xs ++ (y ∷ [])) ys pushed rest)

-- the first mention that breaks a rule, with the rule
abbrev pub FirstMention : List (List ℕ) → List Mention → ℕ → Type 0
FirstMention names mentions r = (before : List Mention) × (mention : Mention) × (IsFirst (BreaksRule names) mentions before mention) × (rule_broken names (reverse before) mention ≡ Some r)

-- one more mention: it breaks a rule, or the next ones do
one_more : (names : List (List ℕ)) (xs ys : List Mention) (y : Mention) (r : ℕ) (o : Option ℕ) → FailsNowhere (BreaksRule names) xs
    → rule_broken names (reverse xs) y ≡ o → option_or o (first_broken names (y ∷ reverse xs) ys) ≡ Some r
    → (FailsNowhere (BreaksRule names) (xs ++ (y ∷ [])) → first_broken names (reverse (xs ++ (y ∷ []))) ys ≡ Some r → FirstMention names ((xs ++ (y ∷ [])) ++ ys) r)
    → FirstMention names (xs ++ (y ∷ ys)) r
one_more names xs ys y r None earlier is e later =
    let pushed : FailsNowhere (BreaksRule names) (xs ++ (y ∷ [])) = FailsNowhere-push (BreaksRule names) xs y earlier (λ h. not_some (rule_broken names (reverse xs) y) is h) in
    let rest : first_broken names (reverse (xs ++ (y ∷ []))) ys ≡ Some r = ap (λ (p : List Mention). first_broken names p ys) (reverse-push xs y) ∙ e in
    subst (λ (zs : List Mention). FirstMention names zs r) (append_assoc xs (y ∷ []) ys) (later pushed rest)
one_more names xs ys y r (Some s) earlier is e later =
    (xs, y, record { after = ys; whole = refl; fails = is_some-Some (rule_broken names (reverse xs) y) s is; earlier = earlier }, is ∙ e)

pub breaks_on : (names : List (List ℕ)) (xs ys : List Mention) (r : ℕ) → FailsNowhere (BreaksRule names) xs → first_broken names (reverse xs) ys ≡ Some r → FirstMention names (xs ++ ys) r
breaks_on names xs [] r earlier e = absurd (cc)
breaks_on names xs (y ∷ ys) r earlier e =
    one_more names xs ys y r (rule_broken names (reverse xs) y) earlier refl e (λ pushed rest. breaks_on names (xs ++ (y ∷ [])) ys r pushed rest)

pub function_keeps : (names : List (List ℕ)) (f : FunctionTree) → first_broken names [] (mentions_of f) ≡ None → FailsNowhere (BreaksRule names) (mentions_of f)
function_keeps names f e = keeps_on names [] (mentions_of f) (FailsNowhere-nil (BreaksRule names)) e

pub function_breaks : (names : List (List ℕ)) (f : FunctionTree) (r : ℕ) → first_broken names [] (mentions_of f) ≡ Some r → Breaks names f r
function_breaks names f r e =
    let found = breaks_on names [] (mentions_of f) r (FailsNowhere-nil (BreaksRule names)) e in
    record { before = found.0; mention = found.1; first = found.2; broken = found.3 }

-- a function whose mentions break no rule has no first breach
pub kept_function : (names : List (List ℕ)) (f : FunctionTree) → FailsNowhere (BreaksRule names) (mentions_of f) → (r : ℕ) → Breaks names f r → ⊥
kept_function names f none r b = first_fails (BreaksRule names) (mentions_of f) b.before b.mention b.first none
