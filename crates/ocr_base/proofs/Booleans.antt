-- What std has no lemma of, on Booleans and numbers.
use Rattle.std.proofs.Common.{◌≡◌, ℕ, Bool, true, false, ◌&&◌, not, ◌==◌, refl, arith}
use Rattle.std.proofs.lemmas.Bool.Decides.{nat_tests}

-- neither of two holds
pub neither : (a b : Bool) → (not a && not b) ≡ true → (a ≡ false) × (b ≡ false)
neither false false h = (refl, refl)
neither false true h = cc
neither true b h = cc

pub and_false : (b : Bool) → (b && false) ≡ false
and_false true = refl
and_false false = refl

pub same : (n : ℕ) → (n == n) ≡ true
same n = grind (arith, nat_tests)

pub eqb_flips : (a b : ℕ) → (a == b) ≡ (b == a)
eqb_flips a b = grind (arith, nat_tests)
