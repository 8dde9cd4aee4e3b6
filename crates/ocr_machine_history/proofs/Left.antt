-- The EDTs that are left, each once, rising.
use Rattle.std.proofs.Common.{◌≡◌, ◌≤◌, ◌<◌, ◌∙◌, ℕ, Bool, true, false, not, ◌||◌, ◌&&◌, ◌==◌, nat_lt, if◌then◌else◌, List, [], ◌∷◌, filter, refl, sym, ap, arith}
use Rattle.std.proofs.lemmas.Bool.{eqb-true, ltb-true, ltb-false}
use Rattle.std.proofs.lemmas.Bool.{eqb-false}
use Rattle.ocr_body_meaning.specs.Holds.{is_done}
use Rattle.ocr_body_meaning.specs.declared.call.Call.TheVariants as call
use Rattle.ocr_machine_history.specs.declared.entry.Entry.TheVariants.{Call}
use Rattle.ocr_machine_history.specs.declared.objects.TheConstants.{MAIN_EDT}
use Rattle.ocr_machine_history.specs.History.{History}
use Rattle.ocr_machine_history.specs.Made.{is_edt, made_edts}
use Rattle.ocr_machine_history.specs.Edts.{is_started}
use Rattle.ocr_machine_history.specs.Numbers.{is_in, placed, IsRising, RisesFrom}
use Rattle.ocr_machine_history.specs.Output.{LeftLaw}

-- A NUMBER AT ITS PLACE is in the list with the others
or_same : (a b c : Bool) → a ≡ b → (a || c) ≡ (b || (a || c))
or_same true true c e = refl
or_same false false c e = refl
or_same true false c e = absurd (cc)
or_same false true c e = absurd (cc)

or_swap : (a b c : Bool) → (a || (b || c)) ≡ (b || (a || c))
or_swap true true c = refl
or_swap true false c = refl
or_swap false b c = refl

in_if : (b : Bool) (m : ℕ) (xs ys : List ℕ) (is : Bool) → (b ≡ true → is_in m xs ≡ is) → (b ≡ false → is_in m ys ≡ is) → is_in m (if b then xs else ys) ≡ is
in_if true m xs ys is p q = p refl
in_if false m xs ys is p q = q refl

placed_in : (n m : ℕ) (xs : List ℕ) → is_in m (placed n xs) ≡ ((n == m) || is_in m xs)
placed_in n m [] = refl
placed_in n m (k ∷ rest) =
    in_if (nat_lt n k) m (n ∷ k ∷ rest) (if n == k then k ∷ rest else k ∷ placed n rest) ((n == m) || ((k == m) || is_in m rest)) (λ less. refl)
    (λ more. in_if (n == k) m (k ∷ rest) (k ∷ placed n rest) ((n == m) || ((k == m) || is_in m rest))
    (λ same. or_same (k == m) (n == m) (is_in m rest) (ap (λ (i : ℕ). i == m) (sym (eqb-true n k same))))
    (λ other. ap (λ (b : Bool). (k == m) || b) (placed_in n m rest) ∙ or_swap (k == m) (n == m) (is_in m rest)))

-- and keeps the list rising
pub rises_if : (b : Bool) (a : ℕ) (xs ys : List ℕ) → (b ≡ true → RisesFrom a xs) → (b ≡ false → RisesFrom a ys) → RisesFrom a (if b then xs else ys)
rises_if true a xs ys p q = p refl
rises_if false a xs ys p q = q refl

pub placed_rises : (a n : ℕ) (xs : List ℕ) → a < n → RisesFrom a xs → RisesFrom a (placed n xs)
placed_rises a n [] less rises = (less, tt)
placed_rises a n (k ∷ rest) less rises =
    rises_if (nat_lt n k) a (n ∷ k ∷ rest) (if n == k then k ∷ rest else k ∷ placed n rest)
    (λ before. (less, (ltb-true n k before, rises.1)))
    (λ after. rises_if (n == k) a (k ∷ rest) (k ∷ placed n rest) (λ same. rises)
    (λ other. (rises.0, placed_rises k n rest (above n k after other) rises.1)))
  where
    above : (n k : ℕ) → nat_lt n k ≡ false → (n == k) ≡ false → k < n
    above n k after other = omega (arith, ltb-false n k after, eqb-false n k other)

pub rising_if : (b : Bool) (xs ys : List ℕ) → (b ≡ true → IsRising xs) → (b ≡ false → IsRising ys) → IsRising (if b then xs else ys)
rising_if true xs ys p q = p refl
rising_if false xs ys p q = q refl

pub placed_rising : (n : ℕ) (xs : List ℕ) → IsRising xs → IsRising (placed n xs)
placed_rising n [] rises = tt
placed_rising n (k ∷ rest) rises =
    rising_if (nat_lt n k) (n ∷ k ∷ rest) (if n == k then k ∷ rest else k ∷ placed n rest)
    (λ before. (ltb-true n k before, rises))
    (λ after. rising_if (n == k) (k ∷ rest) (k ∷ placed n rest) (λ same. rises)
    (λ other. placed_rises k n rest (omega (arith, ltb-false n k after, eqb-false n k other)) rises))

-- WHAT IS KEPT of a rising list rises
lower : (a b : ℕ) (xs : List ℕ) → a ≤ b → RisesFrom b xs → RisesFrom a xs
lower a b [] le rises = tt
lower a b (k ∷ rest) le rises = (omega (arith, le, rises.0), rises.1)

kept_rises : (p : ℕ → Bool) (a : ℕ) (xs : List ℕ) → RisesFrom a xs → RisesFrom a (filter p xs)
kept_rises p a [] rises = tt
kept_rises p a (k ∷ rest) rises =
    let later : RisesFrom k (filter p rest) = kept_rises p k rest rises.1 in
    rises_if (p k) a (k ∷ filter p rest) (filter p rest) (λ kept. (rises.0, later))
    (λ out. lower a k (filter p rest) (omega (arith, rises.0)) later)

pub rising_from : (a : ℕ) (xs : List ℕ) → RisesFrom a xs → IsRising xs
rising_from a [] rises = tt
rising_from a (k ∷ rest) rises = rises.1

kept_rising : (p : ℕ → Bool) (xs : List ℕ) → IsRising xs → IsRising (filter p xs)
kept_rising p [] rises = tt
kept_rising p (k ∷ rest) rises =
    let later : RisesFrom k (filter p rest) = kept_rises p k rest rises in
    rising_if (p k) (k ∷ filter p rest) (filter p rest) (λ kept. later) (λ out. rising_from k (filter p rest) later)

-- a number that is kept: the first, or one of the others
kept_one : (here kept first is : Bool) → (here ≡ true → kept ≡ first) → kept ≡ true → (here || (is && first)) ≡ ((here || is) && first)
kept_one true kept first is same holds = sym (sym (same refl) ∙ holds)
kept_one false kept first is same holds = refl

out_one : (here kept first is : Bool) → (here ≡ true → kept ≡ first) → kept ≡ false → (is && first) ≡ ((here || is) && first)
out_one true kept first true same no_more = refl
out_one true kept first false same no_more = sym (sym (same refl) ∙ no_more)
out_one false kept first is same no_more = refl

kept_in : (p : ℕ → Bool) (m : ℕ) (xs : List ℕ) → is_in m (filter p xs) ≡ (is_in m xs && p m)
kept_in p m [] = refl
kept_in p m (k ∷ rest) =
    let same : (k == m) ≡ true → p k ≡ p m = λ here. ap p (eqb-true k m here) in
    in_if (p k) m (k ∷ filter p rest) (filter p rest) (((k == m) || is_in m rest) && p m)
    (λ kept. ap (λ (b : Bool). (k == m) || b) (kept_in p m rest) ∙ kept_one (k == m) (p k) (p m) (is_in m rest) same kept)
    (λ out. kept_in p m rest ∙ out_one (k == m) (p k) (p m) (is_in m rest) same out)

-- THE EDTs
made_case : (b : Bool) (v t : ℕ) (xs : List ℕ) → is_in t (if b then placed v xs else xs) ≡ ((b && (v == t)) || is_in t xs)
made_case true v t xs = placed_in v t xs
made_case false v t xs = refl

turned : (a b : ℕ) (x y : Bool) → (a == b) ≡ x → (b == a) ≡ y → (x || false) ≡ y
turned a b true true p q = refl
turned a b false false p q = refl
turned a b true false p q = absurd (omega (arith, eqb-true a b p, eqb-false b a q))
turned a b false true p q = absurd (omega (arith, eqb-false a b p, eqb-true b a q))

made_in : (past : History) (t : ℕ) → is_in t (made_edts past) ≡ is_edt past t
made_in [] t = turned MAIN_EDT t (MAIN_EDT == t) (t == MAIN_EDT) refl refl
made_in (Call u home (call.EdtCreate from pc ps dc ds fl o) answer writes ∷ past) t =
    made_case (is_done answer.code) answer.value t (made_edts past)
    ∙ ap (λ (b : Bool). (is_done answer.code && (answer.value == t)) || b) (made_in past t)
made_in (e ∷ past) t = made_in past t

pub made_rising : (past : History) → IsRising (made_edts past)
made_rising [] = tt
made_rising (Call u home (call.EdtCreate from pc ps dc ds fl o) answer writes ∷ past) =
    rising_if (is_done answer.code) (placed answer.value (made_edts past)) (made_edts past)
    (λ done. placed_rising answer.value (made_edts past) (made_rising past)) (λ refused. made_rising past)
made_rising (e ∷ past) = made_rising past

pub left_law : LeftLaw
left_law = record {
  rising = λ past. kept_rising (λ t. not (is_started past t)) (made_edts past) (made_rising past);
  left = λ past t. kept_in (λ u. not (is_started past u)) t (made_edts past) ∙ ap (λ (b : Bool). b && not (is_started past t)) (made_in past t);
}
