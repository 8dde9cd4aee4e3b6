-- Choices by equal numbers.
use Rattle.std.proofs.Common.{◌≡◌, ℕ, Bool, true, false, Some, ◌==◌, ◌||◌, if◌then◌else◌, refl, ap, subst}
use Rattle.std.proofs.lemmas.Bool.{eqb-true}
use Rattle.std.proofs.Math.Bool.{or-true}
use Rattle.ocr_base.proofs.Booleans.{same}

pub left : (n : ℕ) (b : Bool) → ((n == n) || b) ≡ true
left n b = rw (same n) refl

pub right : (n : ℕ) (b : Bool) → (b || (n == n)) ≡ true
right n b = rw (same n) (or-true b)

pub at_same : {A : Type 0} (P Q : ℕ → A) (n g : ℕ) (rest : A) → P n ≡ Q n → (if n == g then P g else rest) ≡ (if n == g then Q n else rest)
at_same P Q n g rest is = elim (n == g) as (λ b. (n == g) ≡ b → (if b then P g else rest) ≡ (if b then Q n else rest)) [
  | true ↦ λ same. let e : n ≡ g = eqb-true n g same in subst (λ (m : ℕ). P m ≡ Q n) e is
  | false ↦ λ _. refl
] refl

pub chosen : {A : Type 0} (b : Bool) (x y u v : A) → x ≡ y → u ≡ v → (if b then x else u) ≡ (if b then y else v)
chosen b x y u v one other = rw (one, other) refl

pub twice : {A : Type 0} (b : Bool) (x y z : A) → (if b then x else (if b then y else z)) ≡ (if b then x else z)
twice true x y z = refl
twice false x y z = refl

pub number_is : (t u : ℕ) → (u == t) ≡ true → Some u ≡ Some t
number_is t u is = ap (λ (n : ℕ). Some n) (eqb-true u t is)
