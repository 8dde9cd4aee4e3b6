-- Parts that are put in their places.
use Rattle.std.proofs.Common.{◌≡◌, ℕ, zero, suc, ◌<◌, ◌≤◌, List, [], ◌∷◌, ◌++◌, length, slice_index_or, slice_set, Bool, true, false, ◌==◌, ◌||◌, if◌then◌else◌, arith, refl, ◌∙◌, ap, subst}
use Rattle.std.proofs.lemmas.Grind.{common_steps}
use Rattle.std.specs.List.{All}
use Rattle.std.proofs.Math.Bool.{or-false}
use Rattle.ocr_machine_parts.specs.declared.part.Part.{Part}
use Rattle.ocr_machine_parts.specs.declared.part.Part.TheVariants as part
use Rattle.ocr_machine_parts.specs.Taken.{look, has, keys}
use Rattle.ocr_machine_codes.specs.Lookup.{part_at}

or_assoc : (a b c : Bool) → (a || (b || c)) ≡ ((a || b) || c)
or_assoc true b c = refl
or_assoc false b c = refl

choices : (a b : Bool) (l x r : Part) → (if a || b then (if a then l else if b then x else part.Vacant) else r) ≡ (if a then l else if b then x else r)
choices true b l x r = refl
choices false true l x r = refl
choices false false l x r = refl

-- a vacant part more
pub more_vacant : (ps : List Part) (n : ℕ) → part_at ps n ≡ part.Vacant → part_at (ps ++ part.Vacant ∷ []) n ≡ part.Vacant
more_vacant [] zero is = refl
more_vacant [] (suc n) is = refl
more_vacant (p ∷ rest) zero is = is
more_vacant (p ∷ rest) (suc n) is = more_vacant rest n is

-- a part set
pub set_part : (ps : List Part) (m n : ℕ) (x : Part) → m < length ps → part_at (slice_set ps m x) n ≡ (if m == n then x else part_at ps n)
set_part ps m n x below = grind (arith, common_steps)

-- one part more, after the others
pub look_last : (ps : List (ℕ × Part)) (m n : ℕ) (x : Part) → look (ps ++ (m, x) ∷ []) n ≡ (if has ps n then look ps n else if m == n then x else part.Vacant)
look_last [] m n x = refl
look_last (p ∷ rest) m n x = elim (p.0 == n) as (λ b. (if b then p.1 else look (rest ++ (m, x) ∷ []) n) ≡ (if b || has rest n then (if b then p.1 else look rest n) else if m == n then x else part.Vacant)) [
  | true ↦ refl
  | false ↦ look_last rest m n x
]

pub has_last : (ps : List (ℕ × Part)) (m n : ℕ) (x : Part) → has (ps ++ (m, x) ∷ []) n ≡ (has ps n || (m == n))
has_last [] m n x = or-false (m == n)
has_last (p ∷ rest) m n x = ap (λ (b : Bool). (p.0 == n) || b) (has_last rest m n x) ∙ or_assoc (p.0 == n) (has rest n) (m == n)

-- what stands at a number once these parts are put back
abbrev pub given : List (ℕ × Part) → List Part → ℕ → Part
given parts all n = if has parts n then look parts n else part_at all n

pub give_one : (parts : List (ℕ × Part)) (m : ℕ) (x : Part) (all : List Part) (n : ℕ) → m < length all → given (parts ++ (m, x) ∷ []) all n ≡ given parts (slice_set all m x) n
give_one parts m x all n below = rw (has_last parts m n x, look_last parts m n x, set_part all m n x below) (choices (has parts n) (m == n) (look parts n) x (part_at all n))

-- all of them are within the table
keys_length : (ps : List (ℕ × Part)) → length (keys ps) ≡ length ps
keys_length [] = refl
keys_length (p ∷ rest) = omega (arith, keys_length rest)

key_at : (ps : List (ℕ × Part)) (k : ℕ) (d : ℕ × Part) → slice_index_or (keys ps) k d.0 ≡ (slice_index_or ps k d).0
key_at [] zero d = refl
key_at [] (suc k) d = refl
key_at (p ∷ rest) zero d = refl
key_at (p ∷ rest) (suc k) d = key_at rest k d

pub all_keys : (most : ℕ) (ps : List (ℕ × Part)) → All (λ n. n ≤ most) (keys ps) → All (λ (p : ℕ × Part). p.0 ≤ most) ps
all_keys most ps is = λ k d below. subst (λ n. n ≤ most) (key_at ps k d) (is k d.0 (rw (keys_length ps) below))

front_at : (most : ℕ) (q : ℕ × Part) (rest : List (ℕ × Part)) (k : ℕ) (d : ℕ × Part) → q.0 ≤ most → All (λ (p : ℕ × Part). p.0 ≤ most) rest → k < length (q ∷ rest)
    → (slice_index_or (q ∷ rest) k d).0 ≤ most
front_at most q rest zero d first later below = first
front_at most q rest (suc k) d first later below = later k d (omega (arith, below))

pub all_front : (most : ℕ) (ps : List (ℕ × Part)) (p : ℕ × Part) → All (λ (q : ℕ × Part). q.0 ≤ most) (ps ++ p ∷ []) → All (λ (q : ℕ × Part). q.0 ≤ most) ps × (p.0 ≤ most)
all_front most [] p is = (λ k d below. absurd (omega (arith, below)), is 0 p (omega arith))
all_front most (q ∷ rest) p is =
    let later = all_front most rest p (λ k d below. is (suc k) d (omega (arith, below))) in
    (λ k d below. front_at most q rest k d (is 0 q (omega arith)) later.0 below, later.1)

pub same_part : (ps : List Part) (n : ℕ) (x : Part) → n < length ps → x ≡ slice_index_or ps n x → x ≡ part_at ps n
same_part ps n x below is = grind (arith, common_steps)
