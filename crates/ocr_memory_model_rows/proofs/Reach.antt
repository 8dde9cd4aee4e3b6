-- What a graph reaches.
use Rattle.std.proofs.Common.{◌≡◌, ◌≤◌, ◌<◌, ◌⊎◌, inl, inr, ℕ, ◌==◌, ◌||◌, List, [], ◌∷◌, length, Bool, true, false, if◌then◌else◌, refl, sym, ap, ◌∙◌, subst, arith}
use Rattle.std.specs.List.{list_any, AllByRecursion}
use Rattle.std.proofs.lemmas.Bool.{or_cases, eqb-true, ne_eqb}
use Rattle.std.proofs.Math.Bool.{or-true}
use Rattle.ocr_base.proofs.Booleans.{same}
use Rattle.ocr_memory_model_rows.specs.Places.{Graph, reaches, reaches_any, Closure, one, more, HasPairs, IsReached}

pub or_left : (a b : Bool) → a ≡ true → (a || b) ≡ true
or_left a b h = ap (λ x. x || b) h

pub or_right : (a b : Bool) → b ≡ true → (a || b) ≡ true
or_right a b h = ap (λ x. a || x) h ∙ or-true a

-- LISTS
pub any_pick : (p : ℕ → Bool) (P : ℕ → Type 0) (xs : List ℕ) → list_any p xs ≡ true → AllByRecursion P xs → (x : ℕ) × (p x ≡ true) × P x
any_pick p P [] h all = cc h
any_pick p P (x ∷ xs) h all = elim (or_cases (p x) (list_any p xs) h) [
  | inl y ↦ (x, y, all.0)
  | inr y ↦ any_pick p P xs y all.1
]

pub any_found : (p : ℕ → Bool) (xs : List ℕ) → list_any p xs ≡ true → (x : ℕ) × (p x ≡ true)
any_found p [] h = cc h
any_found p (x ∷ xs) h = elim (or_cases (p x) (list_any p xs) h) [
  | inl y ↦ (x, y)
  | inr y ↦ any_found p xs y
]

pub any_from : (p q : ℕ → Bool) (xs : List ℕ) → ((x : ℕ) → q x ≡ true → p x ≡ true) → list_any q xs ≡ true → list_any p xs ≡ true
any_from p q [] f h = cc h
any_from p q (x ∷ xs) f h = elim (or_cases (q x) (list_any q xs) h) [
  | inl y ↦ or_left (p x) (list_any p xs) (f x y)
  | inr y ↦ or_right (p x) (list_any p xs) (any_from p q xs f y)
]

pub any_same : (p q : ℕ → Bool) (xs : List ℕ) → AllByRecursion (λ x. p x ≡ q x) xs → list_any p xs ≡ list_any q xs
any_same p q [] all = refl
any_same p q (x ∷ xs) all = let e : p x ≡ q x = all.0 in let r = any_same p q xs all.1 in cc

-- A PLACE MORE
pub reach_new : (g : Graph) (causes : List ℕ) (a : ℕ) → reaches (causes ∷ g) a (length g) ≡ ((a == length g) || reaches_any g a causes)
reach_new g causes a = ap (λ t. if t then (a == length g) || reaches_any g a causes else reaches g a (length g)) (same (length g))

pub reach_old : (g : Graph) (causes : List ℕ) (a b : ℕ) → b < length g → reaches (causes ∷ g) a b ≡ reaches g a b
reach_old g causes a b h = ap (λ t. if t then (a == b) || reaches_any g a causes else reaches g a b) (ne_eqb b (length g) (λ e. let k : b ≡ length g = e in absurd (omega (arith, k))))

-- what is reached comes no later
pub within : (g : Graph) (a b : ℕ) → reaches g a b ≡ true → (a ≤ b) × (b < length g)
within [] a b h = cc h
within (causes ∷ g) a b h = elim (b == length g) as (λ t. (b == length g) ≡ t → (if t then (a == b) || reaches_any g a causes else reaches g a b) ≡ true → (a ≤ b) × (b < length (causes ∷ g))) [
  | true ↦ λ is k.
      let at : b ≡ length g = eqb-true b (length g) is in
      elim (or_cases (a == b) (reaches_any g a causes) k) [
        | inl e ↦ let e' : a ≡ b = eqb-true a b e in (omega (arith, e'), omega (arith, at))
        | inr m ↦
            let c = any_found (λ x. reaches g a x) causes m in
            let w = within g a c.0 c.1 in
            (omega (arith, w.0, w.1, at), omega (arith, at))
      ]
  | false ↦ λ _ k. let w = within g a b k in (w.0, omega (arith, w.1))
] refl h

pub reach_kept : (g : Graph) (causes : List ℕ) (a b : ℕ) → reaches g a b ≡ true → reaches (causes ∷ g) a b ≡ true
reach_kept g causes a b h = reach_old g causes a b (within g a b h).1 ∙ h

-- and through another place
pub through : (g : Graph) (a b c : ℕ) → reaches g a b ≡ true → reaches g b c ≡ true → reaches g a c ≡ true
through [] a b c h k = cc h
through (causes ∷ g) a b c h k = elim (c == length g) as (λ t. (c == length g) ≡ t → (if t then (b == c) || reaches_any g b causes else reaches g b c) ≡ true → (if t then (a == c) || reaches_any g a causes else reaches g a c) ≡ true) [
  | true ↦ λ is m. elim (or_cases (b == c) (reaches_any g b causes) m) [
    | inl e ↦
        let at : b ≡ c = eqb-true b c e in
        let h' : reaches (causes ∷ g) a c ≡ true = subst (λ x. reaches (causes ∷ g) a x ≡ true) at h in
        subst (λ t. (if t then (a == c) || reaches_any g a causes else reaches g a c) ≡ true) is h'
    | inr n ↦
        let x = any_found (λ y. reaches g b y) causes n in
        let w = within g b x.0 x.1 in
        let h' : reaches g a b ≡ true = sym (reach_old g causes a b (omega (arith, w.0, w.1))) ∙ h in
        or_right (a == c) (reaches_any g a causes)
        (any_from (λ y. reaches g a y) (λ y. reaches g b y) causes (λ y r. through g a b y h' r) n)
  ]
  | false ↦ λ _ m.
      let w = within g b c m in
      let h' : reaches g a b ≡ true = sym (reach_old g causes a b (omega (arith, w.0, w.1))) ∙ h in
      through g a b c h' m
] refl k

-- A RELATION that has the pairs of the graph has what it reaches
pub joined : {P : ℕ → ℕ → Type 0} {a b c : ℕ} → Closure P a b → Closure P b c → Closure P a c
joined h (one p) = more h p
joined h (more k p) = more (joined h k) p

pub drawn : (P : ℕ → ℕ → Type 0) (g : Graph) (a b : ℕ) → HasPairs P g → reaches g a b ≡ true → (a ≡ b) ⊎ Closure P a b
drawn P [] a b all h = cc h
drawn P (causes ∷ g) a b all h = elim (b == length g) as (λ t. (b == length g) ≡ t → (if t then (a == b) || reaches_any g a causes else reaches g a b) ≡ true → (a ≡ b) ⊎ Closure P a b) [
  | true ↦ λ is k. elim (or_cases (a == b) (reaches_any g a causes) k) [
    | inl e ↦ inl (eqb-true a b e)
    | inr m ↦
        let at : length g ≡ b = sym (eqb-true b (length g) is) in
        let c = any_pick (λ x. reaches g a x) (λ x. P x (length g)) causes m all.0 in
        let last : P c.0 b = subst (λ x. P c.0 x) at c.2 in
        elim (drawn P g a c.0 all.1 c.1) [
          | inl e ↦ inr (one (subst (λ x. P x b) (sym e) last))
          | inr r ↦ inr (more r last)
        ]
  ]
  | false ↦ λ _ k. drawn P g a b all.1 k
] refl h

-- and one that has no other pairs has nothing else
pub closed : (P : ℕ → ℕ → Type 0) (g : Graph) → IsReached P g → {a b : ℕ} → Closure P a b → (a < b) × (reaches g a b ≡ true)
closed P g only (one {a} {b} p) = only a b p
closed P g only (more {a} {b} {c} h p) =
    let l = closed P g only h in
    let r = only b c p in
    (omega (arith, l.0, r.0), through g a b c l.1 r.1)
