-- What a list contains, by its first element and the rest.
use Rattle.std.proofs.Common.{◌≡◌, ◌⊎◌, List, [], ◌∷◌, Bool, true, false, zero, suc, inl, inr, arith, cond, ap, ◌∙◌}
use Rattle.std.specs.List.{Contains, filter}

pub Contains-nil : {X : Type 0} (x : X) → Contains [] x → ⊥
Contains-nil x h = absurd (omega (arith, h.1))

pub Contains-here : {X : Type 0} (x y : X) (xs : List X) → x ≡ y → Contains (x ∷ xs) y
Contains-here x y xs e = (0, omega arith, e)

pub Contains-there : {X : Type 0} (x y : X) (xs : List X) → Contains xs y → Contains (x ∷ xs) y
Contains-there x y xs h = (suc h.0, omega (arith, h.1), h.2)

pub Contains-cases : {X : Type 0} (x y : X) (xs : List X) → Contains (x ∷ xs) y → (x ≡ y) ⊎ Contains xs y
Contains-cases x y xs (zero, b, e) = inl e
Contains-cases x y xs (suc k, b, e) = inr (k, omega (arith, b), e)

pub Contains-filter : {X : Type 0} (test : X → Bool) (xs : List X) (x : X) → Contains (filter test xs) x → Contains xs x
Contains-filter test [] x h = h
Contains-filter {X} test (y ∷ ys) x h =
    elim (test y) as (λ t. Contains (cond t (y ∷ filter test ys) (filter test ys)) x → Contains (y ∷ ys) x) [
      | true ↦ λ g. elim (Contains-cases y x (filter test ys) g) [ inl e ↦ Contains-here y x ys e | inr i ↦ Contains-there y x ys (Contains-filter test ys x i) ]
      | false ↦ λ g. Contains-there y x ys (Contains-filter test ys x g)
    ] h

pub filter-Contains : {X : Type 0} (test : X → Bool) (xs : List X) (x : X) → test x ≡ true → Contains xs x → Contains (filter test xs) x
filter-Contains test [] x t h = h
filter-Contains {X} test (y ∷ ys) x t h = elim (Contains-cases y x ys h) [
  | inl e ↦ rw (ap test e ∙ t) (Contains-here y x (filter test ys) e)
  | inr i ↦ elim (test y) as (λ t. Contains (cond t (y ∷ filter test ys) (filter test ys)) x) [
    | true ↦ Contains-there y x (filter test ys) (filter-Contains test ys x t i)
    | false ↦ filter-Contains test ys x t i
  ]
]
