-- Steps of the walk along the pairs of touches.
use Rattle.std.proofs.Common.{◌≡◌, ◌≤◌, ◌<◌, ℕ, zero, suc, ◌+◌, ◌-◌, ◌*◌, List, [], ◌∷◌, ◌++◌, length, drop, Bool, true, false, if◌then◌else◌, refl, sym, ap, ◌∙◌, arith}
use Rattle.std.proofs.Math.Seq.{drop-cons}
use Rattle.std.proofs.lemmas.List.{get_or_default}
use Rattle.std.specs.Prelude.{slice_index_or}
use Rattle.ocr_memory_model.specs.declared.race.Race.{Race}
use Rattle.ocr_memory_model.specs.declared.touch.Touch.{Touch}
use Rattle.ocr_memory_model.specs.Touches.{is_same_word, are_racing, race_of, races_with, races_in}
use Rattle.ocr_memory_model.specs.Walk.{races_past, triangle}

-- what is read at a place is one
pub one_read : (ts : List Touch) (n : ℕ) (x y : Touch) → n < length ts → x ≡ slice_index_or ts n x → y ≡ slice_index_or ts n y → x ≡ y
one_read ts n x y low is also = is ∙ get_or_default ts n x y low ∙ sym also

all_past : (ts : List Touch) (n : ℕ) → length ts ≤ n → drop n ts ≡ []
all_past [] zero h = refl
all_past [] (suc n) h = refl
all_past (x ∷ ts) zero h = absurd (omega (arith, h))
all_past (x ∷ ts) (suc n) h = all_past ts n (omega (arith, h))

next_is : (ts : List Touch) (n : ℕ) (y : Touch) → n < length ts → y ≡ slice_index_or ts n y → drop n ts ≡ y ∷ drop (suc n) ts
next_is ts n y low is = drop-cons ts n y low ∙ ap (λ z. z ∷ drop (suc n) ts) (sym is)

-- PARTNERS
with_next : (t : ℕ → ℕ → Bool) (x : Touch) (ts : List Touch) (n : ℕ) (y : Touch) → n < length ts → y ≡ slice_index_or ts n y → races_with t x (drop n ts) ≡ (if is_same_word x y then (if are_racing t x y then race_of x y ∷ [] else []) ++ races_with t x (drop (suc n) ts) else [])
with_next t x ts n y low is = ap (races_with t x) (next_is ts n y low is)

pub other_word : (t : ℕ → ℕ → Bool) (x : Touch) (ts : List Touch) (n : ℕ) (y : Touch) → n < length ts → y ≡ slice_index_or ts n y → is_same_word x y ≡ false → races_with t x (drop n ts) ≡ []
other_word t x ts n y low is off =
    with_next t x ts n y low is ∙ ap (λ b. if b then (if are_racing t x y then race_of x y ∷ [] else []) ++ races_with t x (drop (suc n) ts) else []) off

abbrev both : (t : ℕ → ℕ → Bool) (x y : Touch) (rest : List Race) (same race : Bool) → List Race
both t x y rest same race = if same then (if race then race_of x y ∷ [] else []) ++ rest else []

pub no_race : (t : ℕ → ℕ → Bool) (x : Touch) (ts : List Touch) (n : ℕ) (y : Touch) → n < length ts → y ≡ slice_index_or ts n y → is_same_word x y ≡ true → are_racing t x y ≡ false → races_with t x (drop n ts) ≡ races_with t x (drop (suc n) ts)
no_race t x ts n y low is on off =
    let rest : List Race = races_with t x (drop (suc n) ts) in
    with_next t x ts n y low is ∙ ap (λ b. both t x y rest b (are_racing t x y)) on ∙ ap (λ b. both t x y rest true b) off

pub one_race : (t : ℕ → ℕ → Bool) (x : Touch) (ts : List Touch) (n : ℕ) (y : Touch) → n < length ts → y ≡ slice_index_or ts n y → is_same_word x y ≡ true → are_racing t x y ≡ true → races_with t x (drop n ts) ≡ race_of x y ∷ races_with t x (drop (suc n) ts)
one_race t x ts n y low is on race =
    let rest : List Race = races_with t x (drop (suc n) ts) in
    with_next t x ts n y low is ∙ ap (λ b. both t x y rest b (are_racing t x y)) on ∙ ap (λ b. both t x y rest true b) race

pub none_left : (t : ℕ → ℕ → Bool) (x : Touch) (ts : List Touch) (n : ℕ) → length ts ≤ n → races_with t x (drop n ts) ≡ []
none_left t x ts n h = ap (races_with t x) (all_past ts n h)

-- PAIRS
pub walk_done : (t : ℕ → ℕ → Bool) (ts : List Touch) (f n : ℕ) → length ts ≤ f → races_past t (drop f ts) (drop n ts) ≡ []
walk_done t ts f n h = ap (λ l. races_past t l (drop n ts)) (all_past ts f h)

past_next : (t : ℕ → ℕ → Bool) (ts : List Touch) (f n : ℕ) (x : Touch) → f < length ts → x ≡ slice_index_or ts f x → races_past t (drop f ts) (drop n ts) ≡ races_with t x (drop n ts) ++ races_in t (drop (suc f) ts)
past_next t ts f n x low is = ap (λ l. races_past t l (drop n ts)) (next_is ts f x low is)

begun : (t : ℕ → ℕ → Bool) (ts : List Touch) (n : ℕ) → races_in t (drop n ts) ≡ races_past t (drop n ts) (drop (suc n) ts)
begun t [] zero = refl
begun t [] (suc n) = refl
begun t (x ∷ ts) zero = refl
begun t (x ∷ ts) (suc n) = begun t ts n

-- a touch that races with no more: the walk goes on at the next
pub row_done : (t : ℕ → ℕ → Bool) (ts : List Touch) (f n : ℕ) (x : Touch) → f < length ts → x ≡ slice_index_or ts f x → races_with t x (drop n ts) ≡ [] → races_past t (drop f ts) (drop n ts) ≡ races_past t (drop (f + 1) ts) (drop (f + 2) ts)
row_done t ts f n x low is none =
    let one : suc f ≡ f + 1 = omega arith in
    let two : suc (suc f) ≡ f + 2 = omega arith in
    past_next t ts f n x low is ∙ ap (λ l. l ++ races_in t (drop (suc f) ts)) none ∙ begun t ts (suc f)
    ∙ ap (λ k. races_past t (drop k ts) (drop (suc (suc f)) ts)) one ∙ ap (λ k. races_past t (drop (f + 1) ts) (drop k ts)) two

-- and one that races
pub row_race : (t : ℕ → ℕ → Bool) (ts : List Touch) (f n m : ℕ) (x : Touch) (r : Race) → f < length ts → x ≡ slice_index_or ts f x → races_with t x (drop n ts) ≡ r ∷ races_with t x (drop (suc m) ts) → races_past t (drop f ts) (drop n ts) ≡ r ∷ races_past t (drop f ts) (drop (m + 1) ts)
row_race t ts f n m x r low is found =
    let one : suc m ≡ m + 1 = omega arith in
    past_next t ts f n x low is ∙ ap (λ l. l ++ races_in t (drop (suc f) ts)) found
    ∙ ap (λ l. r ∷ l) (sym (past_next t ts f (suc m) x low is) ∙ ap (λ k. races_past t (drop f ts) (drop k ts)) one)

pub walk_begun : (t : ℕ → ℕ → Bool) (ts : List Touch) → races_past t (drop 0 ts) (drop 1 ts) ≡ races_in t ts
walk_begun t [] = refl
walk_begun t (x ∷ ts) = refl

-- HOW MANY
pub fewer_rows : (n f k : ℕ) → f < n → triangle (n - (f + 1)) + (n - (f + 2)) ≤ triangle (n - f) + (n - k)
fewer_rows n f k low =
    let e : n - f ≡ suc (n - (f + 1)) = omega (arith, low) in
    let s : triangle (n - f) ≡ suc (n - (f + 1)) + triangle (n - (f + 1)) = ap triangle e in
    omega (arith, s)

triangle_most : (n : ℕ) → triangle n ≤ n * n
triangle_most zero = omega arith
triangle_most (suc n) = let h = triangle_most n in omega (arith, h)

squares_rise : (n m : ℕ) → n ≤ m → n * n ≤ m * m
squares_rise n m h = grind arith

pub few_pairs : (n m : ℕ) → n ≤ m → triangle (n - 0) + (n - 1) ≤ m * m + m
few_pairs n m h =
    let z : n - 0 ≡ n = omega arith in
    let s : triangle (n - 0) ≡ triangle n = ap triangle z in
    omega (arith, s, triangle_most n, squares_rise n m h, h)

-- what an index reads is what stands there
pub read_is : (ts : List Touch) (n : ℕ) (d : Touch) → n < length ts → slice_index_or ts n d ≡ slice_index_or ts n (slice_index_or ts n d)
read_is ts n d low = get_or_default ts n d (slice_index_or ts n d) low
