-- How many numbers pass a test.
use Rattle.std.proofs.Common.{◌≡◌, ℕ, zero, suc, ◌+◌, ◌<◌, ◌≤◌, Bool, true, false, ◌==◌, if◌then◌else◌, refl, sym, ◌∙◌, ap, arith}
use Rattle.std.proofs.lemmas.Bool.{eqb-true, eqb-false, ne_eqb}
use Rattle.ocr_machine_laws.specs.Members.{how_many}

abbrev pub one : Bool → ℕ
one b = if b then 1 else 0

pub one_most : (b : Bool) → one b ≤ 1
one_most true = omega arith
one_most false = omega arith

pub one_on : (b : Bool) → b ≡ true → one b ≡ 1
one_on b is = ap one is

pub one_off : (b : Bool) → b ≡ false → one b ≡ 0
one_off b off = ap one off

pub some_one : (b : Bool) → 1 ≤ one b → b ≡ true
some_one true is = refl
some_one false is = absurd (omega (arith, is))

pub one_less : (b c : Bool) → (b ≡ true → c ≡ true) → one b ≤ one c
one_less true c more = let on : one c ≡ 1 = one_on c (more refl) in omega (arith, on)
one_less false c more = omega arith

pub same_many : (p q : ℕ → Bool) (n : ℕ) → ((i : ℕ) → i < n → p i ≡ q i) → how_many p n ≡ how_many q n
same_many p q zero same = refl
same_many p q (suc n) same =
    let r = same_many p q n (λ i lt. same i (omega (arith, lt))) in
    let here : one (p n) ≡ one (q n) = ap one (same n (omega arith)) in
    omega (arith, r, here)

pub none_many : (p : ℕ → Bool) (n : ℕ) → ((i : ℕ) → p i ≡ false) → how_many p n ≡ 0
none_many p zero none = refl
none_many p (suc n) none =
    let r = none_many p n none in
    let here : one (p n) ≡ 0 = one_off (p n) (none n) in
    omega (arith, r, here)

-- a number below another one, or that one itself
at_or_below : {P : Type 0} (d n : ℕ) → d < suc n → (d ≡ n → P) → ((d == n) ≡ false → d < n → P) → P
at_or_below {P} d n lt at below = elim (d == n) as (λ b. (d == n) ≡ b → P) [
  | true ↦ λ is. at (eqb-true d n is)
  | false ↦ λ off. below off (less d n lt (eqb-false d n off))
] refl
  where
    less : (d n : ℕ) → d < suc n → (d ≡ n → ⊥) → d < n
    less d n lt differ = omega (arith, lt, differ)

-- two tests that differ at one number alone
pub one_many : (p q : ℕ → Bool) (d n : ℕ) → d < n → ((i : ℕ) → (d == i) ≡ false → p i ≡ q i) → how_many p n + one (q d) ≡ how_many q n + one (p d)
one_many p q d zero lt same = absurd (omega (arith, lt))
one_many p q d (suc n) lt same = at_or_below d n lt
    (λ here.
    let r = same_many p q n (λ i less. same i (ne_eqb d i (λ is. omega (arith, here, less, is)))) in
    let left : one (p d) ≡ one (p n) = ap (λ (i : ℕ). one (p i)) here in
    let right : one (q d) ≡ one (q n) = ap (λ (i : ℕ). one (q i)) here in
    omega (arith, r, left, right))
    (λ off less.
    let r = one_many p q d n less same in
    let here : one (p n) ≡ one (q n) = ap one (same n off) in
    omega (arith, r, here))

pub in_many : (p : ℕ → Bool) (d n : ℕ) → d < n → p d ≡ true → 1 ≤ how_many p n
in_many p d zero lt is = absurd (omega (arith, lt))
in_many p d (suc n) lt is = at_or_below d n lt
    (λ here. let on : one (p n) ≡ 1 = ap (λ (i : ℕ). one (p i)) (sym here) ∙ one_on (p d) is in omega (arith, on))
    (λ off less. let r = in_many p d n less is in omega (arith, r))

-- no more pass a stronger test, and fewer where one does not pass it
pub less_many : (p q : ℕ → Bool) (n : ℕ) → ((i : ℕ) → p i ≡ true → q i ≡ true) → how_many p n ≤ how_many q n
less_many p q zero more = omega arith
less_many p q (suc n) more =
    let r = less_many p q n more in
    let here = one_less (p n) (q n) (more n) in
    omega (arith, r, here)

pub fewer_many : (p q : ℕ → Bool) (d n : ℕ) → d < n → ((i : ℕ) → p i ≡ true → q i ≡ true) → p d ≡ false → q d ≡ true → how_many p n + 1 ≤ how_many q n
fewer_many p q d zero lt more off on = absurd (omega (arith, lt))
fewer_many p q d (suc n) lt more off on = at_or_below d n lt
    (λ here.
    let r = less_many p q n more in
    let left : one (p n) ≡ 0 = ap (λ (i : ℕ). one (p i)) (sym here) ∙ one_off (p d) off in
    let right : one (q n) ≡ 1 = ap (λ (i : ℕ). one (q i)) (sym here) ∙ one_on (q d) on in
    omega (arith, r, left, right))
    (λ _ less.
    let r = fewer_many p q d n less more off on in
    let here = one_less (p n) (q n) (more n) in
    omega (arith, r, here))

-- 0 does not pass
pub most_many : (p : ℕ → Bool) (n : ℕ) → p 0 ≡ false → how_many p (suc n) ≤ n
most_many p zero none = let here : one (p 0) ≡ 0 = one_off (p 0) none in omega (arith, here)
most_many p (suc n) none =
    let r = most_many p n none in
    let here = one_most (p (suc n)) in
    omega (arith, r, here)
