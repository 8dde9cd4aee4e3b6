-- Lists whose items have numbers: what is found, replaced and taken out.
use Rattle.std.proofs.Common.{◌≡◌, ◌≢◌, ℕ, zero, suc, ◌+◌, ◌<◌, ◌≤◌, ◌⊎◌, inl, inr, ⊎_elim, List, [], ◌∷◌, ◌++◌, length, set, refl, ap, sym, ◌∙◌, arith, eq-eqb, ne_eqb, eqb-true, true, false, Option, Some, if◌then◌else◌, ◌==◌}
use mathlib.Core.Option.{some, some-injective, some-ne-none}
use mathlib.Core.Logic.{dite}
use native.Mathlib.Decide.{ℕ_discrete}
use lib.ListN.{get_elem?}
use Rattle.std.specs.List.{remove}
use Rattle.ocr_base.specs.Mail.{drop_one, same_name}
use Rattle.ocr_turns_rule.specs.Clerks.{IsFirst, IsFirstNamed}
use Rattle.ocr_turns_rule.specs.Sums.{weigh, one_at, keys, find, replace, replace_all, remove_at, sum_of, less_one}
use Rattle.ocr_turns_rule.proofs.Totals.{one_else, weigh_at}

weigh_sum : {A : Type 0} (f : ℕ → ℕ) (xs : List (ℕ × A)) → weigh f xs ≡ sum_of f (keys xs)
weigh_sum f [] = refl
weigh_sum f (x ∷ xs) = ap (λ n. f x.0 + n) (weigh_sum f xs)

-- a list with the same numbers weighs the same
pub weigh_keys : {A B : Type 0} (f : ℕ → ℕ) (xs : List (ℕ × A)) (ys : List (ℕ × B)) → keys xs ≡ keys ys → weigh f xs ≡ weigh f ys
weigh_keys f xs ys same = weigh_sum f xs ∙ (ap (sum_of f) same ∙ sym (weigh_sum f ys))

module _ {A : Type 0} where
  pub keys_append : (xs ys : List (ℕ × A)) → keys (xs ++ ys) ≡ keys xs ++ keys ys
  keys_append [] ys = refl
  keys_append (x ∷ xs) ys = ap (λ l. x.0 ∷ l) (keys_append xs ys)

  pub keys_replace : (p : ℕ) (a : A) (xs : List (ℕ × A)) → keys (replace p a xs) ≡ keys xs
  keys_replace p a [] = refl
  keys_replace p a (x ∷ xs) = elim (p == x.0) as (λ b. (p == x.0) ≡ b → keys (if b then (p, a) ∷ xs else x ∷ replace p a xs) ≡ x.0 ∷ keys xs) [
    | true ↦ λ is. ap (λ n. n ∷ keys xs) (eqb-true p x.0 is)
    | false ↦ λ _. ap (λ l. x.0 ∷ l) (keys_replace p a xs)
  ] refl

  pub keys_replace_all : (cs xs : List (ℕ × A)) → keys (replace_all cs xs) ≡ keys xs
  keys_replace_all [] xs = refl
  keys_replace_all (c ∷ cs) xs = keys_replace_all cs (replace c.0 c.1 xs) ∙ keys_replace c.0 c.1 xs

  -- taking one out
  pub weigh_remove : (f : ℕ → ℕ) (p : ℕ) (xs : List (ℕ × A)) → 1 ≤ weigh (one_at p) xs → weigh f (remove_at p xs) + f p ≡ weigh f xs
  weigh_remove f p [] h = absurd (omega arith)
  weigh_remove f p (x ∷ xs) h = elim (p == x.0) as (λ b. (p == x.0) ≡ b → 1 ≤ (if b then 1 else 0) + weigh (one_at p) xs → weigh f (if b then xs else x ∷ remove_at p xs) + f p ≡ f x.0 + weigh f xs) [
    | true ↦ λ is h. let e : f p ≡ f x.0 = ap f (eqb-true p x.0 is) in omega arith
    | false ↦ λ is h. let r = weigh_remove f p xs (omega arith) in omega arith
  ] refl h

  pub at_remove : (p : ℕ) (xs : List (ℕ × A)) (k q : ℕ) (y : A) → get_elem? (remove_at p xs) k ≡ some (q, y) → (j : ℕ) × (get_elem? xs j ≡ some (q, y))
  at_remove p [] k q y at = absurd (some-ne-none (q, y) (sym at))
  at_remove p (x ∷ xs) k q y at = elim (p == x.0) as (λ b. get_elem? (if b then xs else x ∷ remove_at p xs) k ≡ some (q, y) → (j : ℕ) × (get_elem? (x ∷ xs) j ≡ some (q, y))) [
    | true ↦ λ h. (suc k, h)
    | false ↦ λ h. stays p x xs k q y h (at_remove p xs)
  ] at
    where
      stays : (p : ℕ) (x : ℕ × A) (xs : List (ℕ × A)) (k q : ℕ) (y : A) → get_elem? (x ∷ remove_at p xs) k ≡ some (q, y)
          → ((i r : ℕ) (z : A) → get_elem? (remove_at p xs) i ≡ some (r, z) → (j : ℕ) × (get_elem? xs j ≡ some (r, z))) → (j : ℕ) × (get_elem? (x ∷ xs) j ≡ some (q, y))
      stays p x xs zero q y h later = (0, h)
      stays p x xs (suc k) q y h later = let r = later k q y h in (suc r.0, r.1)

  abbrev pub Same : ℕ → A → ℕ → A → Type 0
  Same p a q y = ◌≡◌ {A = ℕ × A} (p, a) (q, y)

  -- where no number stands twice, what is replaced is gone
  pub at_replace : (p : ℕ) (a : A) (xs : List (ℕ × A)) (k q : ℕ) (y : A) → weigh (one_at p) xs ≤ 1 → get_elem? (replace p a xs) k ≡ some (q, y)
      → Same p a q y ⊎ ((q ≢ p) × ((j : ℕ) × (get_elem? xs j ≡ some (q, y))))
  at_replace p a [] k q y once at = absurd (some-ne-none (q, y) (sym at))
  at_replace p a (x ∷ xs) zero q y once at = elim (p == x.0) as (λ b. (p == x.0) ≡ b → get_elem? (if b then (p, a) ∷ xs else x ∷ replace p a xs) 0 ≡ some (q, y) → Same p a q y ⊎ ((q ≢ p) × ((j : ℕ) × (get_elem? (x ∷ xs) j ≡ some (q, y))))) [
    | true ↦ λ is h. inl (some-injective (p, a) (q, y) h)
    | false ↦ λ is h. inr ((λ e. let w = ap (λ (z : ℕ × A). z.0) (some-injective x (q, y) h) in let t = eq-eqb p x.0 (sym (w ∙ e)) in cc (t, is)), (0, h))
  ] refl at
  at_replace p a (x ∷ xs) (suc k) q y once at = elim (p == x.0) as (λ b. (p == x.0) ≡ b → (if b then 1 else 0) + weigh (one_at p) xs ≤ 1 → get_elem? (if b then (p, a) ∷ xs else x ∷ replace p a xs) (suc k) ≡ some (q, y) → Same p a q y ⊎ ((q ≢ p) × ((j : ℕ) × (get_elem? (x ∷ xs) j ≡ some (q, y))))) [
    | true ↦ λ is once h. inr ((λ e. let w = weigh_at xs k q y h in let z = ap (λ (n : ℕ). weigh (one_at n) xs) e in absurd (omega arith)), (suc k, h))
    | false ↦ λ is once h. ⊎_elim inl (λ r. inr (r.0, (suc r.1.0, r.1.1))) (at_replace p a xs k q y (omega arith) h)
  ] refl once at

  pub at_replace_all : (cs xs : List (ℕ × A)) (k q : ℕ) (y : A) → ((p : ℕ) → weigh (one_at p) xs ≤ 1) → get_elem? (replace_all cs xs) k ≡ some (q, y)
      → ((i : ℕ) × (get_elem? cs i ≡ some (q, y))) ⊎ ((weigh (one_at q) cs ≡ 0) × ((j : ℕ) × (get_elem? xs j ≡ some (q, y))))
  at_replace_all [] xs k q y once at = inr (refl, (k, at))
  at_replace_all (c ∷ cs) xs k q y once at = ⊎_elim
      (λ h. inl (suc h.0, h.1))
      (λ h. ⊎_elim
      (λ e. inl (0, ap some e))
      (λ r. let z = one_else q c.0 r.0 in let n = h.0 in inr (omega arith, r.1))
      (at_replace c.0 c.1 xs h.1.0 q y (once c.0) h.1.1))
      (at_replace_all cs (replace c.0 c.1 xs) k q y (λ p. let e = weigh_keys (one_at p) (replace c.0 c.1 xs) xs (keys_replace c.0 c.1 xs) in let o = once p in omega arith) at)

  -- what is found stands there
  pub find_at : (p : ℕ) (xs : List (ℕ × A)) (a : A) → find p xs ≡ Some a → (k : ℕ) × (get_elem? xs k ≡ some (p, a))
  find_at p [] a is = absurd (cc is)
  find_at p (x ∷ xs) a is = elim (p == x.0) as (λ b. (p == x.0) ≡ b → (if b then Some x.1 else find p xs) ≡ Some a → (k : ℕ) × (get_elem? (x ∷ xs) k ≡ some (p, a))) [
    | true ↦ λ e h. (0, (λ i. some (sym (eqb-true p x.0 e) i, same x.1 a h i)))
    | false ↦ λ e h. let r = find_at p xs a h in (suc r.0, r.1)
  ] refl is
    where
      same : (a b : A) → ◌≡◌ {A = Option A} (Some a) (Some b) → a ≡ b
      same a b e = cc e

  pub find_weighs : (p : ℕ) (xs : List (ℕ × A)) (a : A) → find p xs ≡ Some a → 1 ≤ weigh (one_at p) xs
  find_weighs p xs a is = let r = find_at p xs a is in weigh_at xs r.0 p a r.1

-- where a number first stands
pub record FirstAt {A : Type 0} (place : ℕ) (xs : List (ℕ × A)) (item : A) : Type 0 where
  pub index : ℕ
  pub within : index < length xs
  pub here : get_elem? xs index ≡ some (place, item)
  pub first : (k p : ℕ) (x : A) → k < index → get_elem? xs k ≡ some (p, x) → place ≢ p

module _ {A : Type 0} where
  pub first_at : (place : ℕ) (xs : List (ℕ × A)) (a : A) → find place xs ≡ Some a → FirstAt place xs a
  first_at place [] a is = absurd (cc is)
  first_at place (x ∷ xs) a is = elim (place == x.0) as (λ b. (place == x.0) ≡ b → (if b then Some x.1 else find place xs) ≡ Some a → FirstAt place (x ∷ xs) a) [
    | true ↦ λ e h. record { index = 0; within = omega arith; here = (λ i. some (sym (eqb-true place x.0 e) i, same x.1 a h i)); first = λ k p y lt. absurd (omega arith) }
    | false ↦ λ e h. let r = first_at place xs a h in record { index = suc r.index; within = let w = r.within in omega arith; here = r.here; first = later r e }
  ] refl is
    where
      same : (a b : A) → ◌≡◌ {A = Option A} (Some a) (Some b) → a ≡ b
      same a b e = cc e

      later : (r : FirstAt place xs a) → (place == x.0) ≡ false → (k p : ℕ) (y : A) → k < suc r.index → get_elem? (x ∷ xs) k ≡ some (p, y) → place ≢ p
      later r off zero p y lt at = λ e. let t = eq-eqb place x.0 (e ∙ sym (ap (λ (z : ℕ × A). z.0) (some-injective x (p, y) at))) in absurd (cc (t, off))
      later r off (suc k) p y lt at = r.first k p y (omega arith) at

  abbrev tail_first : (place : ℕ) (x : ℕ × A) (xs : List (ℕ × A)) (i : ℕ) → IsFirst place (x ∷ xs) (suc i) → IsFirst place xs i
  tail_first place x xs i f = record { item = f.item; here = f.here; first = λ k p y lt at. f.first (suc k) p y (omega arith) at }

  -- the list with another value where the number first stands
  pub set_first : (place : ℕ) (b : A) (xs : List (ℕ × A)) (i : ℕ) → IsFirst place xs i → set xs i (place, b) ≡ replace place b xs
  set_first place b [] i f = refl
  set_first place b (x ∷ xs) zero f = let e : x.0 ≡ place = ap (λ (z : ℕ × A). z.0) (some-injective x (place, f.item) f.here) in rw (eq-eqb place x.0 (sym e)) refl
  set_first place b (x ∷ xs) (suc i) f =
      let off = ne_eqb place x.0 (f.first 0 x.0 x.1 (omega arith) refl) in
      rw off (ap (λ l. x ∷ l) (set_first place b xs i (tail_first place x xs i f)))

  pub find_first : (place : ℕ) (xs : List (ℕ × A)) (i : ℕ) (f : IsFirst place xs i) → find place xs ≡ Some f.item
  find_first place [] i f = absurd (some-ne-none (place, f.item) (sym f.here))
  find_first place (x ∷ xs) zero f = let e = some-injective x (place, f.item) f.here in rw (eq-eqb place x.0 (sym (ap (λ (z : ℕ × A). z.0) e))) (ap (λ (z : ℕ × A). Some z.1) e)
  find_first place (x ∷ xs) (suc i) f = let off = ne_eqb place x.0 (f.first 0 x.0 x.1 (omega arith) refl) in rw off (find_first place xs i (tail_first place x xs i f))

  pub remove_first : (place : ℕ) (xs : List (ℕ × A)) (i : ℕ) → IsFirst place xs i → remove xs i ≡ remove_at place xs
  remove_first place [] i f = absurd (some-ne-none (place, f.item) (sym f.here))
  remove_first place (x ∷ xs) zero f = let e : x.0 ≡ place = ap (λ (z : ℕ × A). z.0) (some-injective x (place, f.item) f.here) in rw (eq-eqb place x.0 (sym e)) refl
  remove_first place (x ∷ xs) (suc i) f =
      let off = ne_eqb place x.0 (f.first 0 x.0 x.1 (omega arith) refl) in
      rw off (ap (λ l. x ∷ l) (remove_first place xs i (tail_first place x xs i f)))

  pub find_weighed : (p : ℕ) (xs : List (ℕ × A)) → 1 ≤ weigh (one_at p) xs → (a : A) × (find p xs ≡ Some a)
  find_weighed p [] h = absurd (omega arith)
  find_weighed p (x ∷ xs) h = elim (p == x.0) as (λ b. 1 ≤ (if b then 1 else 0) + weigh (one_at p) xs → (a : A) × ((if b then Some x.1 else find p xs) ≡ Some a)) [
    | true ↦ λ _. (x.1, refl)
    | false ↦ λ h. find_weighed p xs (omega arith)
  ] h

  pub not_yet : (place : ℕ) (xs : List (ℕ × A)) (a : A) (f : FirstAt place xs a) (i : ℕ) (y : ℕ × A) → i ≤ f.index → get_elem? xs i ≡ some y → y.0 ≢ place → i + 1 ≤ f.index
  not_yet place xs a f i y le at ne = dite (ℕ_discrete i f.index)
      (λ e. absurd (ne (ap (λ (z : ℕ × A). z.0) (some-injective y (place, a) (sym at ∙ (ap (get_elem? xs) e ∙ f.here))))))
      (λ off. omega arith)

  pub is_first : (place : ℕ) (xs : List (ℕ × A)) (a : A) (f : FirstAt place xs a) (i : ℕ) (y : ℕ × A) → i ≤ f.index → get_elem? xs i ≡ some y → y.0 ≡ place → IsFirst place xs i
  is_first place xs a f i y le at e = record { item = y.1; here = at ∙ ap (λ n. some (n, y.1)) e; first = λ k p x lt there. f.first k p x (omega arith) there }

pub keys_remove : {A : Type 0} (p : ℕ) (xs : List (ℕ × A)) → keys (remove_at p xs) ≡ less_one p (keys xs)
keys_remove p [] = refl
keys_remove p (x ∷ xs) = elim (p == x.0) as (λ b. keys (if b then xs else x ∷ remove_at p xs) ≡ (if b then keys xs else x.0 ∷ less_one p (keys xs))) [
  | true ↦ refl
  | false ↦ ap (λ l. x.0 ∷ l) (keys_remove p xs)
]

pub find_same : {A : Type 0} (p : ℕ) (xs : List (ℕ × A)) (a b : A) → find p xs ≡ Some a → find p xs ≡ Some b → a ≡ b
find_same p xs a b is at = cc (is, at)

-- where a message first stands, and the list without it
module _ {N : Type 0} (nm : ℕ × ℕ) where
  pub drop_first : (xs : List (ℕ × ℕ × N)) (i : ℕ) → IsFirstNamed nm xs i → remove xs i ≡ drop_one nm xs
  drop_first [] i f = absurd (some-ne-none (nm.0, nm.1, f.item) (sym f.here))
  drop_first (x ∷ xs) zero f =
      let e = some-injective x (nm.0, nm.1, f.item) f.here in
      let is : same_name nm x ≡ true = ap (same_name nm) e ∙ rw (eq-eqb nm.0 nm.0 refl, eq-eqb nm.1 nm.1 refl) refl in rw is refl
  drop_first (x ∷ xs) (suc i) f =
      let off = f.first 0 x (omega arith) refl in
      rw off (ap (λ l. x ∷ l) (drop_first xs i (record { item = f.item; here = f.here; first = λ k y lt at. f.first (suc k) y (omega arith) at })))

  -- before it is found
  pub not_named_yet : (xs : List (ℕ × ℕ × N)) (i j : ℕ) (x : N) (y : ℕ × ℕ × N) → i ≤ j → get_elem? xs j ≡ some (nm.0, nm.1, x) → get_elem? xs i ≡ some y → same_name nm y ≡ false → i + 1 ≤ j
  not_named_yet xs i j x y le there here off = dite (ℕ_discrete i j)
      (λ e. let z : y ≡ (nm.0, nm.1, x) = some-injective y (nm.0, nm.1, x) (sym here ∙ (ap (get_elem? xs) e ∙ there)) in
      let is : same_name nm y ≡ true = ap (same_name nm) z ∙ rw (eq-eqb nm.0 nm.0 refl, eq-eqb nm.1 nm.1 refl) refl in cc (is, off))
      (λ ne. omega arith)

length_keys : {A : Type 0} (xs : List (ℕ × A)) → length (keys xs) ≡ length xs
length_keys [] = refl
length_keys (x ∷ xs) = ap suc (length_keys xs)

pub length_replace_all : {A : Type 0} (cs xs : List (ℕ × A)) → length (replace_all cs xs) ≡ length xs
length_replace_all cs xs = sym (length_keys (replace_all cs xs)) ∙ (ap length (keys_replace_all cs xs) ∙ length_keys xs)
