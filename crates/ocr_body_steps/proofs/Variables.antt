-- The variables of a body by the places of their names.
use Rattle.std.proofs.Common.{◌≡◌, ◌<◌, ℕ, zero, suc, List, [], ◌∷◌, Bool, true, false, length, get_or, bytes_eq, if◌then◌else◌, refl, sym, ◌∙◌, ap, arith}
use Rattle.std.specs.List.{list_any}
use Rattle.std.specs.Prelude.{slice_set}
use Rattle.std.proofs.lemmas.Slice.Eq.{bytes_eq-Decides}
use Rattle.std.proofs.lemmas.Bool.{or_parts, not-true, cond-true, cond-false}
use Rattle.ocr_body_code.specs.Code.{are_distinct, name_at}
use Rattle.ocr_body_code.proofs.Sides.{first_of, second_of}
use Rattle.ocr_body_steps.specs.Local.{value_in}

same_bytes : (x : List ℕ) → bytes_eq x x ≡ true
same_bytes x = (bytes_eq-Decides x x).1 refl

-- a name that is not among others is none of them
differs : (x : List ℕ) (xs : List (List ℕ)) (i : ℕ) → list_any (bytes_eq x) xs ≡ false → i < length xs → bytes_eq x (name_at xs i) ≡ false
differs x [] i none less = absurd (omega (arith, less))
differs x (y ∷ ys) zero none less = (or_parts _ _ none).0
differs x (y ∷ ys) (suc i) none less = differs x ys i (or_parts _ _ none).1 (omega (arith, less))

-- the value of the name at a place is the value at that place
pub value_at : (names : List (List ℕ)) (values : List ℕ) (i d : ℕ) → i < length names → length values ≡ length names → are_distinct names ≡ true
    → value_in names values (name_at names i) ≡ get_or values i d
value_at [] values i d less same distinct = absurd (omega (arith, less))
value_at (x ∷ xs) [] i d less same distinct = absurd (omega (arith, same))
value_at (x ∷ xs) (v ∷ vs) zero d less same distinct = cond-true _ _ _ (same_bytes x)
value_at (x ∷ xs) (v ∷ vs) (suc i) d less same distinct =
    cond-false _ _ _ (differs x xs i (not-true _ (first_of _ _ distinct)) (omega (arith, less)))
    ∙ value_at xs vs i d (omega (arith, less)) (omega (arith, same)) (second_of _ _ distinct)

twice : (b : Bool) (v w r : ℕ) → (if b then v else r) ≡ (if b then v else (if b then w else r))
twice true v w r = refl
twice false v w r = refl

swapped : (b c : Bool) (v w r : ℕ) → (b ≡ true → c ≡ true → ⊥) → (if b then w else (if c then v else r)) ≡ (if c then v else (if b then w else r))
swapped true true v w r both = absurd (both refl refl)
swapped true false v w r both = refl
swapped false c v w r both = refl

-- a write at a place is a write at its name
pub value_set : (names : List (List ℕ)) (values : List ℕ) (i v : ℕ) (y : List ℕ) → i < length names → length values ≡ length names → are_distinct names ≡ true
    → value_in names (slice_set values i v) y ≡ (if bytes_eq (name_at names i) y then v else value_in names values y)
value_set [] values i v y less same distinct = absurd (omega (arith, less))
value_set (x ∷ xs) [] i v y less same distinct = absurd (omega (arith, same))
value_set (x ∷ xs) (w ∷ ws) zero v y less same distinct = twice (bytes_eq x y) v w (value_in xs ws y)
value_set (x ∷ xs) (w ∷ ws) (suc i) v y less same distinct =
    let apart : bytes_eq x (name_at xs i) ≡ false = differs x xs i (not-true _ (first_of _ _ distinct)) (omega (arith, less)) in
    let not_both : bytes_eq x y ≡ true → bytes_eq (name_at xs i) y ≡ true → ⊥ = λ p q.
    let same_name : x ≡ name_at xs i = (bytes_eq-Decides x y).0 p ∙ sym ((bytes_eq-Decides (name_at xs i) y).0 q) in
    cc (sym ((bytes_eq-Decides x (name_at xs i)).1 same_name) ∙ apart) in
    ap (λ (n : ℕ). if bytes_eq x y then w else n) (value_set xs ws i v y (omega (arith, less)) (omega (arith, same)) (second_of _ _ distinct))
    ∙ swapped (bytes_eq x y) (bytes_eq (name_at xs i) y) v w (value_in xs ws y) not_both
