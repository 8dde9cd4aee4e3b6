-- What a map of holds tells of each block.
use Rattle.std.proofs.Common.{◌≡◌, ◌<◌, ◌≤◌, ℕ, zero, suc, ◌+◌, List, [], ◌∷◌, ◌++◌, length, take, slice_index, Bool, true, false, ◌==◌, if◌then◌else◌, cond, Option, Some, None, IfSome, IfNone, Bor, MutBor, nat_lt, inl, inr, refl, sym, ◌∙◌, ap, arith}
use Rattle.std.proofs.lemmas.Grind.{common_steps}
use Rattle.std.proofs.lemmas.Bool.Decides.{eqb_tells}
use Rattle.std.specs.BTreeMap.{is_at}
use Rattle.std.specs.Cmp.{unsigned_tied}
use Rattle.std.specs.Map.{lookup}
use Rattle.std.specs.Option.{option_copied, option_copied_mut}
use Rattle.std.specs.Ordering.{nat_cmp}
use Rattle.std.specs.Prelude.{Result, Ok, Err, IfOk}
use Rattle.ocr_base.specs.declared.memory.NoMemory.{NoMemory}
use Rattle.ocr_base.proofs.Booleans.{eqb_flips}
use Rattle.ocr_body_meaning.specs.Holds.{Hold, Holds, Silent, load_of, word_of, with_hold, with_write, private_in}
use Rattle.ocr_acquire.specs.Mode.{is_isolated}
use Rattle.ocr_replay_body.specs.Holds.{held_in, hold_with, counts_of, count_in}

pub silent_load : (h : Hold) (w : ℕ) → is_isolated h.mode ≡ true → w < h.size → load_of (Some h) w ≡ Silent (word_of h w)
silent_load h w is below =
    let fits : nat_lt w h.size ≡ true = grind (arith, common_steps) in
    rw (fits, is) refl

-- A MAP OF HOLDS
held_lookup : (d : ℕ) (items : List (ℕ × Hold)) → lookup (is_at (nat_cmp d)) items ≡ held_in items d
held_lookup d [] = refl
held_lookup d (one ∷ rest) =
    let test : is_at (nat_cmp d) one.0 ≡ (one.0 == d) = unsigned_tied d one.0 ∙ eqb_flips d one.0 in
    ap (λ (b : Bool). cond b (Some one.1) (lookup (is_at (nat_cmp d)) rest)) test
    ∙ ap (λ (h : Option Hold). cond (one.0 == d) (Some one.1) h) (held_lookup d rest)

held_updated : (d : ℕ) (h : Option Hold) (old new : List (ℕ × Hold))
    → ((q : ℕ) → lookup (is_at (nat_cmp q)) new ≡ cond (is_at (nat_cmp d) q) h (lookup (is_at (nat_cmp q)) old))
    → (x : ℕ) → held_in new x ≡ with_hold d h (held_in old) x
held_updated d h old new changed x =
    sym (held_lookup x new) ∙ changed x
    ∙ ap (λ (b : Bool). cond b h (lookup (is_at (nat_cmp x)) old)) (unsigned_tied d x)
    ∙ ap (λ (o : Option Hold). cond (d == x) h o) (held_lookup x old)

-- what it has at a block is changed
pub updated_holds : (d : ℕ) (h : Option Hold) (old new : List (ℕ × Hold))
    → ((q : ℕ) → lookup (is_at (nat_cmp q)) new ≡ cond (is_at (nat_cmp d) q) h (lookup (is_at (nat_cmp q)) old))
    → held_in new ≡ with_hold d h (held_in old)
updated_holds d h old new changed = λ i x. held_updated d h old new changed x i

pub found_hold : (r : Option (Bor Hold)) (d : ℕ) (items : List (ℕ × Hold)) → option_copied r ≡ lookup (is_at (nat_cmp d)) items
    → IfSome r (λ h. held_in items d ≡ Some h.now) × IfNone r (held_in items d ≡ None)
found_hold None d items is = (tt, sym (held_lookup d items) ∙ sym is)
found_hold (Some h) d items is = (sym (held_lookup d items) ∙ sym is, tt)

kept_if : (d x : ℕ) (holds : Holds) → holds d ≡ None → holds x ≡ with_hold d None holds x
kept_if d x holds none = elim (eqb_tells d x) [
  | inl e ↦ rw e.0 (ap holds (sym e.1) ∙ none)
  | inr e ↦ rw e.0 refl
]

-- where there is none, none is stored in
pub not_stored : (d w v : ℕ) (items : List (ℕ × Hold)) → held_in items d ≡ None
    → held_in items ≡ with_hold d (with_write w v (held_in items d)) (held_in items)
not_stored d w v items none = rw none (λ i x. kept_if d x (held_in items) none i)

pub not_found : (r : Option (MutBor Hold)) (d : ℕ) (items : List (ℕ × Hold)) → ((h : MutBor Hold) → r ≡ Some h → ⊥)
    → option_copied_mut r ≡ lookup (is_at (nat_cmp d)) items → held_in items d ≡ None
not_found None d items missing is = sym (held_lookup d items) ∙ sym is
not_found (Some h) d items missing is = absurd (missing h refl)

-- a value is stored in a hold
pub stored_holds : (r : Result (Unit {0}) NoMemory) (d w v : ℕ) (h new : Hold) (old after : List (ℕ × Hold)) → lookup (is_at (nat_cmp d)) old ≡ Some h
    → ((q : ℕ) → lookup (is_at (nat_cmp q)) after ≡ cond (is_at (nat_cmp d) q) (Some new) (lookup (is_at (nat_cmp q)) old))
    → IfOk r (λ _. new ≡ hold_with w v h) → IfOk r (λ _. held_in after ≡ with_hold d (with_write w v (held_in old d)) (held_in old))
stored_holds (Ok u) d w v h new old after found changed now =
    let before : held_in old d ≡ Some h = sym (held_lookup d old) ∙ found in
    updated_holds d (Some new) old after changed
    ∙ ap (λ (o : Option Hold). with_hold d o (held_in old)) (ap Some now ∙ sym (ap (with_write w v) before))
stored_holds (Err e) d w v h new old after found changed now = tt

-- how many private writes there are
pub counted : (items : List (ℕ × Hold)) (d : ℕ) → count_in (counts_of items) d ≡ length (private_in (held_in items d))
counted [] d = refl
counted (one ∷ rest) d = elim (one.0 == d) as (λ b. (if b then length one.1.writes else count_in (counts_of rest) d) ≡ length (private_in (if b then Some one.1 else held_in rest d))) [
  | true ↦ refl
  | false ↦ counted rest d
]

-- the words of a loan, one by one
pub word_next : (xs : List ℕ) (n v : ℕ) → n < length xs → v ≡ slice_index xs n → take n xs ++ v ∷ [] ≡ take (n + 1) xs
word_next [] n v below is = absurd (omega (arith, below))
word_next (x ∷ xs) zero v below is = ap (λ y. y ∷ []) is
word_next (x ∷ xs) (suc n) v below is = ap (λ l. x ∷ l) (word_next xs n v (omega (arith, below)) is) ∙ ap (λ m. take m (x ∷ xs)) (more n)
  where
    more : (n : ℕ) → suc (n + 1) ≡ suc n + 1
    more n = omega arith

pub all_words : (xs : List ℕ) (n : ℕ) → length xs ≤ n → take n xs ≡ xs
all_words [] zero past = refl
all_words [] (suc n) past = refl
all_words (x ∷ xs) zero past = absurd (omega (arith, past))
all_words (x ∷ xs) (suc n) past = ap (λ l. x ∷ l) (all_words xs n (omega (arith, past)))
