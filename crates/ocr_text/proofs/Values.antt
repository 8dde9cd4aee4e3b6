-- The values of digits.
use Rattle.std.proofs.Common.{◌+◌, ◌-◌, ◌*◌, ◌≤◌, ◌<◌, ℕ, List, [], ◌∷◌, length, get_or, arith}
use Rattle.ocr_text.specs.Scan.{value_on}

value_grows : (v : ℕ) (bs : List ℕ) → v ≤ value_on v bs
value_grows v [] = omega arith
value_grows v (b ∷ bs) = omega (arith, value_grows (10 * v + (b - 48)) bs)

-- with one digit more
pub next_digit : (v : ℕ) (bs : List ℕ) → 0 < length bs → 10 * v + (get_or bs 0 0 - 48) ≤ value_on v bs
next_digit v [] some = absurd (omega (arith, some))
next_digit v (b ∷ bs) some = value_grows (10 * v + (b - 48)) bs
