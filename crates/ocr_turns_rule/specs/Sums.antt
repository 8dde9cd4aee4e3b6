-- Sums over views, logs and lists of numbers, and what is looked up in them.
use Rattle.std.specs.Prelude.{◌≡◌, ℕ, zero, suc, ◌+◌, ◌<◌, ◌≤◌, ◌==◌, ◌||◌, Bool, false, if◌then◌else◌, List, [], ◌∷◌, Option, Some, None}
use mathlib.Core.Option.{some}
use lib.ListN.{get_elem?}

-- a number of each view, added up
abbrev pub total : {V : Type 0} → (V → ℕ) → List V → ℕ
total f [] = 0
total f (v ∷ vs) = f v + total f vs

module _ {A : Type 0} where
  -- the numbers of a numbered list, each weighed
  abbrev pub weigh : (ℕ → ℕ) → List (ℕ × A) → ℕ
  weigh f [] = 0
  weigh f (x ∷ xs) = f x.0 + weigh f xs

  abbrev pub weigh_all : (ℕ → ℕ) → List (List (ℕ × A)) → ℕ
  weigh_all f [] = 0
  weigh_all f (l ∷ ls) = weigh f l + weigh_all f ls

  -- the numbers of a numbered list
  abbrev pub keys : List (ℕ × A) → List ℕ
  keys [] = []
  keys (x ∷ xs) = x.0 ∷ keys xs

  -- what first stands at the number
  abbrev pub find : ℕ → List (ℕ × A) → Option A
  find p [] = None
  find p (x ∷ xs) = if p == x.0 then Some x.1 else find p xs

  -- another value where the number first stands
  abbrev pub replace : ℕ → A → List (ℕ × A) → List (ℕ × A)
  replace p a [] = []
  replace p a (x ∷ xs) = if p == x.0 then (p, a) ∷ xs else x ∷ replace p a xs

  -- the list without the first that stands at the number
  abbrev pub remove_at : ℕ → List (ℕ × A) → List (ℕ × A)
  remove_at p [] = []
  remove_at p (x ∷ xs) = if p == x.0 then xs else x ∷ remove_at p xs

  -- the values of the first list, each in its place in the second
  abbrev pub replace_all : List (ℕ × A) → List (ℕ × A) → List (ℕ × A)
  replace_all [] xs = xs
  replace_all (c ∷ cs) xs = replace_all cs (replace c.0 c.1 xs)

  -- the values of a numbered list, all there
  abbrev pub as_some : List (ℕ × A) → List (ℕ × Option A)
  as_some [] = []
  as_some (x ∷ xs) = (x.0, Some x.1) ∷ as_some xs

  -- the log's numbers rise
  abbrev pub Rises : List (ℕ × A) → Type 0
  Rises log = (i n m : ℕ) (a b : A) → get_elem? log i ≡ some (n, a) → get_elem? log (suc i) ≡ some
      (m, b) → n < m

-- the numbers below n, each weighed
abbrev pub below : (ℕ → ℕ) → ℕ → ℕ
below f zero = 0
below f (suc n) = f n + below f n

-- 1 at p, and 0 elsewhere
abbrev pub one_at : ℕ → ℕ → ℕ
one_at p q = if p == q then 1 else 0

-- the numbers of a list, each weighed
abbrev pub sum_of : (ℕ → ℕ) → List ℕ → ℕ
sum_of f [] = 0
sum_of f (n ∷ ns) = f n + sum_of f ns

-- the numbers from 1 to n, each weighed
abbrev pub up_to : (ℕ → ℕ) → ℕ → ℕ
up_to f zero = 0
up_to f (suc n) = f (suc n) + up_to f n

-- the numbers made by entries, each weighed
abbrev pub made_sum : {E : Type 0} → (E → List ℕ) → (ℕ → ℕ) → List E → ℕ
made_sum makes f [] = 0
made_sum makes f (e ∷ es) = sum_of f (makes e) + made_sum makes f es

-- the list without one such number
abbrev pub less_one : ℕ → List ℕ → List ℕ
less_one n [] = []
less_one n (k ∷ ks) = if n == k then ks else k ∷ less_one n ks

-- the second list without the numbers of the first, each taken out once
abbrev pub less_all : List ℕ → List ℕ → List ℕ
less_all [] ks = ks
less_all (n ∷ ns) ks = less_all ns (less_one n ks)

-- each number of the first list stands in the second, as often
abbrev pub HasAll : List ℕ → List ℕ → Type 0
HasAll [] ks = Unit {0}
HasAll (n ∷ ns) ks = (1 ≤ sum_of (one_at n) ks) × HasAll ns (less_one n ks)

-- each number of the list is below n
abbrev pub AreBelow : ℕ → List ℕ → Type 0
AreBelow n ks = (k : ℕ) → 1 ≤ sum_of (one_at k) ks → k < n

abbrev pub is_free : ℕ → ℕ
is_free zero = 1
is_free (suc n) = 0

-- the entries of a list that pass a test
abbrev pub picked : {A : Type 0} → (A → Bool) → List A → List A
picked test [] = []
picked test (x ∷ xs) = if test x then x ∷ picked test xs else picked test xs

abbrev pub is_among : {A : Type 0} → (A → Bool) → List A → Bool
is_among test [] = false
is_among test (x ∷ xs) = test x || is_among test xs

module _ {E : Type 0} where
  -- the entries of a log
  abbrev pub entries : List (ℕ × E) → List E
  entries [] = []
  entries (x ∷ xs) = x.1 ∷ entries xs

  -- what a log weighs
  abbrev pub load_of : (E → ℕ) → List (ℕ × E) → ℕ
  load_of heavy [] = 0
  load_of heavy (x ∷ xs) = heavy x.1 + load_of heavy xs
