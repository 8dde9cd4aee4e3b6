-- The values of a function at 0, 1, and on, as a list.
use Rattle.std.proofs.Common.{◌≡◌, ◌<◌, ℕ, zero, suc, ◌+◌, List, [], ◌∷◌, Bool, true, false, ◌==◌, cond, length, map, get_or, arith, refl, sym, ◌∙◌, ap}
use Rattle.std.proofs.lemmas.Grind.{common_steps}
use Rattle.std.proofs.Math.ListN.{set, replicate}
use Rattle.std.proofs.lemmas.List.{ext_get_or, length-set, get_or-set_other}
use Rattle.std.proofs.lemmas.List.FromFn.{length-map-range_with_len, get_or-map-range_with_len}
use Rattle.std.proofs.lemmas.List.Sums.{length-filter}
use Rattle.std.specs.List.{range_with_len, count_by, filter}

abbrev pub values : {A : Type 0} → (ℕ → A) → ℕ → List A
values f n = map f (range_with_len 0 n)

pub length-values : {A : Type 0} (f : ℕ → A) (n : ℕ) → length (values f n) ≡ n
length-values f n = length-map-range_with_len f 0 n

pub get_or-values : {A : Type 0} (f : ℕ → A) (n k : ℕ) (d : A) → k < n → get_or (values f n) k d ≡ f k
get_or-values f n k d below = get_or-map-range_with_len f 0 n k k d below (omega arith)

-- a function with one value
same_from : {A : Type 0} (x : A) (a n : ℕ) → map (λ (_ : ℕ). x) (range_with_len a n) ≡ replicate n x
same_from x a zero = refl
same_from x a (suc n) = ap (λ rest. x ∷ rest) (same_from x (a + 1) n)

pub values-same : {A : Type 0} (x : A) (n : ℕ) → values (λ _. x) n ≡ replicate n x
values-same x n = same_from x 0 n

-- the values of f, which is x at k and g at the other places: each of them is that of the list of g with x written at k
at_place : {A : Type 0} (f g : ℕ → A) (n k : ℕ) (x d : A) → k < n → f k ≡ x → ((j : ℕ) → (k == j) ≡ false → f j ≡ g j)
    → (j : ℕ) → j < n → (b : Bool) → (k == j) ≡ b → f j ≡ get_or (set (values g n) k x) j d
at_place f g n k x d below here others j inside true same =
    let size : length (values g n) ≡ n = length-values g n in
    grind (arith, common_steps, here)
at_place f g n k x d below here others j inside false apart =
    let value : get_or (values g n) j d ≡ g j = get_or-values g n j d inside in
    let away : f j ≡ g j = others j apart in
    grind (arith, common_steps, value, away, get_or-set_other)

pub values-set : {A : Type 0} (f g : ℕ → A) (n k : ℕ) (x d : A) → k < n → f k ≡ x → ((j : ℕ) → (k == j) ≡ false → f j ≡ g j)
    → values f n ≡ set (values g n) k x
values-set f g n k x d below here others =
    let size_f : length (values f n) ≡ n = length-values f n in
    let size_g : length (set (values g n) k x) ≡ n = length-set (values g n) k x ∙ length-values g n in
    ext_get_or d _ _ (size_f ∙ sym size_g) (λ j inside.
    let within : j < n = omega arith in
    get_or-values f n j d within ∙ at_place f g n k x d below here others j within (k == j) refl)

-- as many of the values pass as there are places whose value passes
length-filter-map : {A : Type 0} (p : A → Bool) (f : ℕ → A) (places : List ℕ)
    → length (filter p (map f places)) ≡ length (filter (λ k. p (f k)) places)
length-filter-map p f [] = refl
length-filter-map p f (k ∷ places) =
    let passed : List _ = filter p (map f places) in
    let places_passed : List ℕ = filter (λ j. p (f j)) places in
    let rest : length passed ≡ length places_passed = length-filter-map p f places in
    let P : Bool → Type 0 = λ b. length (cond b (f k ∷ passed) passed) ≡ length (cond b (k ∷ places_passed) places_passed) in
    elim (p (f k)) as P [ true ↦ ap suc rest | false ↦ rest ]

pub count_by-values : {A : Type 0} (p : A → Bool) (f : ℕ → A) (n : ℕ)
    → count_by p (values f n) ≡ length (filter (λ k. p (f k)) (range_with_len 0 n))
count_by-values p f n = sym (length-filter p (values f n)) ∙ length-filter-map p f (range_with_len 0 n)
