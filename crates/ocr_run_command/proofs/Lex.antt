-- How the words of options and flags are spelled.
use Rattle.std.proofs.Common.{◌≡◌, ◌∙◌, ◌==◌, ◌+◌, ◌||◌, ℕ, Bool, cond, true, false, refl, sym, ap, ap₂, subst, arith, true≢false, [], ◌∷◌, ◌++◌, take, drop, Option, Some, None}
use Rattle.std.specs.Prelude.{is_some, not, suc, option_and_then}
use Rattle.std.specs.List.{before_first, after_first, position_or_len}
use Rattle.std.specs.Str.{bytes_eq}
use Rattle.std.proofs.lemmas.Bool.Decides.{nat_tests}
use Rattle.clap.specs.Lexer.{has_byte, long_of, long_of_rest, name_and_value, short_of, strip_byte}
use Rattle.ocr_run_command.specs.Form.{Text, long}

abbrev pub dashes : Text
dashes = 45 ∷ 45 ∷ []

-- a text of which the reader makes no more than a word
pub record IsPlain (t : Text) : Type 0 where
  pub no_long : long_of t ≡ None
  pub no_short : short_of t ≡ None
  pub no_dashes : bytes_eq t dashes ≡ false

-- what the parts of a cut text say of it
abbrev pub Spells : Text → Option Text → Text → Type 0
Spells name None word = word ≡ long name
Spells name (Some t) word = word ≡ long name ++ 61 ∷ t

abbrev is_cut : ℕ → Bool
is_cut x = x == 61

abbrev Cut : Text → Type 0
Cut xs = (b : Bool) → has_byte 61 xs ≡ b → cond b (xs ≡ before_first is_cut xs ++ 61 ∷ after_first is_cut xs) (xs ≡ before_first is_cut xs)

before_cons : (x : ℕ) (xs : Text) (d : Bool) → (x == 61) ≡ d → before_first is_cut (x ∷ xs) ≡ cond d [] (x ∷ before_first is_cut xs)
before_cons x xs true t = rw t refl
before_cons x xs false t =
    let n : ℕ = position_or_len is_cut xs in
    let next : 1 + n ≡ suc n = omega arith in
    ap (λ b. take (cond (not b) (1 + n) 0) (x ∷ xs)) t ∙ ap (λ k. take k (x ∷ xs)) next

after_cons : (x : ℕ) (xs : Text) (d : Bool) → (x == 61) ≡ d → after_first is_cut (x ∷ xs) ≡ cond d xs (after_first is_cut xs)
after_cons x xs true t = rw t refl
after_cons x xs false t =
    let n : ℕ = position_or_len is_cut xs in
    let next : 1 + n + 1 ≡ suc (n + 1) = omega arith in
    ap (λ b. drop (cond (not b) (1 + n) 0 + 1) (x ∷ xs)) t ∙ ap (λ k. drop k (x ∷ xs)) next

cut : (xs : Text) → Cut xs
cut [] true e = absurd (true≢false (sym e))
cut [] false e = refl
cut (x ∷ xs) b e = go (cut xs) (x == 61) refl b e
  where
    go : Cut xs → (d : Bool) → (x == 61) ≡ d → (b : Bool) → has_byte 61 (x ∷ xs) ≡ b
        → cond b (x ∷ xs ≡ before_first is_cut (x ∷ xs) ++ 61 ∷ after_first is_cut (x ∷ xs)) (x ∷ xs ≡ before_first is_cut (x ∷ xs))
    go later true t true e =
        let is : x ≡ 61 = grind (arith, nat_tests) in
        ap (λ y. y ∷ xs) is ∙ sym (ap₂ (λ (a b : Text). a ++ 61 ∷ b) (before_cons x xs true t) (after_cons x xs true t))
    go later true t false e = absurd (true≢false (sym (ap (λ b. b || has_byte 61 xs) t) ∙ e))
    go later false t true e =
        ap (λ ys. x ∷ ys) (later true (sym (ap (λ b. b || has_byte 61 xs) t) ∙ e))
        ∙ sym (ap₂ (λ (a b : Text). a ++ 61 ∷ b) (before_cons x xs false t) (after_cons x xs false t))
    go later false t false e = ap (λ ys. x ∷ ys) (later false (sym (ap (λ b. b || has_byte 61 xs) t) ∙ e)) ∙ sym (before_cons x xs false t)

unwrapped : {X : Type 0} → X → Option X → X
unwrapped d None = d
unwrapped d (Some x) = x

pub some_same : {X : Type 0} (a b : X) → Some a ≡ Some b → a ≡ b
unfolding unwrapped
some_same a b e = ap (unwrapped a) e

pub none_some : {X : Type 0} (a : X) → None ≡ Some a → ⊥
none_some a e = true≢false (sym (ap (λ o. is_some o) e))

-- the cut is spelled by its parts
spells_rest : (xs : Text) (name : Text) (v : Option Text) → name_and_value xs ≡ (name, v) → Spells name v (45 ∷ 45 ∷ xs)
spells_rest xs name v e = go (has_byte 61 xs) refl v (ap (λ (p : Text × Option Text). p.0) e) (ap (λ (p : Text × Option Text). p.1) e)
  where
    go : (b : Bool) → has_byte 61 xs ≡ b → (v : Option Text) → before_first is_cut xs ≡ name → cond (has_byte 61 xs) (Some (after_first is_cut xs)) None ≡ v → Spells name v (45 ∷ 45 ∷ xs)
    go true t None n w = absurd (none_some _ (sym w ∙ ap (λ b. cond b (Some (after_first is_cut xs)) None) t))
    go true t (Some u) n w =
        let value : after_first is_cut xs ≡ u = some_same _ _ (sym (ap (λ b. cond b (Some (after_first is_cut xs)) None) t) ∙ w) in
        ap (λ ys. 45 ∷ 45 ∷ ys) (cut xs true t ∙ ap₂ (λ (a b : Text). a ++ 61 ∷ b) n value)
    go false t None n w = ap (λ ys. 45 ∷ 45 ∷ ys) (cut xs false t ∙ n)
    go false t (Some u) n w = absurd (none_some u (sym (ap (λ b. cond b (Some (after_first is_cut xs)) None) t) ∙ w))

stripped : (c : ℕ) (bs rest : Text) → strip_byte c bs ≡ Some rest → bs ≡ c ∷ rest
stripped c [] rest e = absurd (none_some rest e)
stripped c (x ∷ xs) rest e = go (x == c) refl
  where
    go : (b : Bool) → (x == c) ≡ b → x ∷ xs ≡ c ∷ rest
    go true t =
        let is : x ≡ c = grind (arith, nat_tests) in
        ap₂ (λ y ys. y ∷ ys) is (some_same xs rest (sym (ap (λ b. cond b (Some xs) None) t) ∙ e))
    go false t = absurd (none_some rest (sym (ap (λ b. cond b (Some xs) None) t) ∙ e))

-- what the reader cuts from a word
pub spells : (word name : Text) (v : Option Text) → long_of word ≡ Some (name, v) → Spells name v word
spells word name v e = first (strip_byte 45 word) refl
  where
    last : (rest xs : Text) → word ≡ 45 ∷ rest → rest ≡ 45 ∷ xs → long_of_rest xs ≡ Some (name, v) → Spells name v word
    last rest [] w r f = absurd (none_some _ f)
    last rest (x ∷ xs) w r f =
        let whole : word ≡ 45 ∷ 45 ∷ x ∷ xs = w ∙ ap (λ ys. 45 ∷ ys) r in
        subst (Spells name v) (sym whole) (spells_rest (x ∷ xs) name v (some_same _ _ f))

    second : (rest : Text) → word ≡ 45 ∷ rest → (o : Option Text) → strip_byte 45 rest ≡ o → option_and_then long_of_rest o ≡ Some (name, v) → Spells name v word
    second rest w None t f = absurd (none_some _ f)
    second rest w (Some xs) t f = last rest xs w (stripped 45 rest xs t) f

    first : (o : Option Text) → strip_byte 45 word ≡ o → Spells name v word
    first None t = absurd (none_some _ (sym (ap (λ o. option_and_then long_of_rest (option_and_then (strip_byte 45) o)) t) ∙ e))
    first (Some rest) t = second rest (stripped 45 word rest t) (strip_byte 45 rest) refl (sym (ap (λ o. option_and_then long_of_rest (option_and_then (strip_byte 45) o)) t) ∙ e)
