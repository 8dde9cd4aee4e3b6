-- The EDTs that were made rise, and where a number comes among rising ones.
use Rattle.std.proofs.Common.{◌≡◌, ◌<◌, ◌∙◌, ℕ, zero, suc, Bool, true, false, ◌==◌, nat_lt, if◌then◌else◌, List, [], ◌∷◌, ◌++◌, length, slice_index, take, drop, refl, ap, arith}
use Rattle.std.proofs.lemmas.Bool.{eqb-true, ltb-true}
use Rattle.ocr_machine_history.specs.Numbers.{placed, IsRising, RisesFrom}
use Rattle.ocr_machine_history.proofs.Left.{rising_from}

-- a number comes behind those that are less
placed_past : (n m : ℕ) (rest : List ℕ) → m < n → placed n (m ∷ rest) ≡ m ∷ placed n rest
placed_past n m rest less = past (nat_lt n m) (n == m) refl refl
  where
    past : (b c : Bool) → nat_lt n m ≡ b → (n == m) ≡ c → (if b then n ∷ m ∷ rest else if c then m ∷ rest else m ∷ placed n rest) ≡ m ∷ placed n rest
    past true c p q = absurd (omega (arith, ltb-true n m p, less))
    past false true p q = absurd (omega (arith, eqb-true n m q, less))
    past false false p q = refl

rises_at : (a : ℕ) (xs : List ℕ) (j : ℕ) → RisesFrom a xs → j < length xs → a < slice_index xs j
rises_at a [] j rises within = absurd (omega arith)
rises_at a (k ∷ rest) zero rises within = rises.0
rises_at a (k ∷ rest) (suc j) rises within = let r = rises_at k rest j rises.1 (omega arith) in omega (arith, rises.0)

pub placed_behind : (n j : ℕ) (xs : List ℕ) → IsRising xs → j < length xs → slice_index xs j < n → placed n xs ≡ take (suc j) xs ++ placed n (drop (suc j) xs)
placed_behind n j [] rises within less = absurd (omega arith)
placed_behind n zero (m ∷ rest) rises within less = placed_past n m rest less
placed_behind n (suc j) (m ∷ rest) rises within less =
    placed_past n m rest (let r = rises_at m rest j rises (omega arith) in omega (arith, less))
    ∙ ap (λ (l : List ℕ). m ∷ l) (placed_behind n j rest (rising_from m rest rises) (omega arith) less)
