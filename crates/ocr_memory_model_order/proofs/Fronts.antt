-- Places and lists of them.
use Rattle.std.proofs.Common.{◌≡◌, ◌<◌, ◌⊎◌, inl, inr, ℕ, suc, ◌==◌, ◌||◌, ◌&&◌, List, [], ◌∷◌, length, Bool, true, false, if◌then◌else◌, Option, Some, refl, sym, ap, ◌∙◌, subst, arith}
use Rattle.std.specs.List.{zip}
use Rattle.std.proofs.lemmas.Bool.{or_cases, eqb-true, eq-eqb, ne_eqb}
use Rattle.ocr_base.proofs.Booleans.{same}
use Rattle.ocr_machine_history.specs.declared.entry.Entry.{Entry}
use Rattle.ocr_machine_history.specs.declared.entry.Message.{Message}
use Rattle.ocr_machine_history.specs.History.{History}
use Rattle.ocr_machine_history.specs.Numbers.{is_in}
pub use Rattle.ocr_machine_laws.proofs.Each.{Each, each_from}
use Rattle.ocr_memory_model_rows.specs.Places.{Graph, reaches, reaches_any}
use Rattle.ocr_memory_model_rows.proofs.Reach.{or_left, or_right}
use Rattle.ocr_memory_model_order.specs.Places.{entry_at, before, is_at, told_at, places}
use Rattle.ocr_memory_model_order.specs.Makers.{oldest, matched, slot_of}

-- THE NEWEST PLACE, and those below it
pub new_at : (p : History → Entry → Bool) (past : History) (e : Entry) → is_at p (e ∷ past) (length past) ≡ p past e
new_at p past e = ap (λ t. if t then p past e else is_at p past (length past)) (same (length past))

pub off_new : (n m : ℕ) → n < m → (n == m) ≡ false
off_new n m h = ne_eqb n m (λ e. let k : n ≡ m = e in absurd (omega (arith, k)))

pub old_at : (p : History → Entry → Bool) (past : History) (e : Entry) (n : ℕ) → n < length past → is_at p (e ∷ past) n ≡ is_at p past n
old_at p past e n h = ap (λ t. if t then p past e else is_at p past n) (off_new n (length past) h)

pub new_told : {A : Type 0} (f : History → Entry → Option A) (past : History) (e : Entry) → told_at f (e ∷ past) (length past) ≡ f past e
new_told f past e = ap (λ t. if t then f past e else told_at f past (length past)) (same (length past))

pub old_told : {A : Type 0} (f : History → Entry → Option A) (past : History) (e : Entry) (n : ℕ) → n < length past → told_at f (e ∷ past) n ≡ told_at f past n
old_told f past e n h = ap (λ t. if t then f past e else told_at f past n) (off_new n (length past) h)

pub new_entry : (past : History) (e : Entry) → entry_at (e ∷ past) (length past) ≡ Some e
new_entry past e = ap (λ t. if t then Some e else entry_at past (length past)) (same (length past))

pub old_entry : (past : History) (e : Entry) (n : ℕ) → n < length past → entry_at (e ∷ past) n ≡ entry_at past n
old_entry past e n h = ap (λ t. if t then Some e else entry_at past n) (off_new n (length past) h)

pub new_before : (past : History) (e : Entry) → before (e ∷ past) (length past) ≡ past
new_before past e = ap (λ t. if t then past else before past (length past)) (same (length past))

pub old_before : (past : History) (e : Entry) (n : ℕ) → n < length past → before (e ∷ past) n ≡ before past n
old_before past e n h = ap (λ t. if t then past else before past n) (off_new n (length past) h)

pub at_below : (p : History → Entry → Bool) (J : History) (n : ℕ) → is_at p J n ≡ true → n < length J
at_below p [] n h = cc h
at_below p (e ∷ past) n h = elim (n == length past) as (λ t. (n == length past) ≡ t → (if t then p past e else is_at p past n) ≡ true → n < suc (length past)) [
  | true ↦ λ is _. let at : n ≡ length past = eqb-true n (length past) is in omega (arith, at)
  | false ↦ λ _ k. let w : n < length past = at_below p past n k in omega (arith, w)
] refl h

pub entry_below : (J : History) (n : ℕ) (x : Entry) → entry_at J n ≡ Some x → n < length J
entry_below [] n x h = cc h
entry_below (e ∷ past) n x h = elim (n == length past) as (λ t. (n == length past) ≡ t → (if t then Some e else entry_at past n) ≡ Some x → n < suc (length past)) [
  | true ↦ λ is _. let at : n ≡ length past = eqb-true n (length past) is in omega (arith, at)
  | false ↦ λ _ k. let w : n < length past = entry_below past n x k in omega (arith, w)
] refl h

pub told_below : {A : Type 0} (f : History → Entry → Option A) (J : History) (n : ℕ) (x : A) → told_at f J n ≡ Some x → n < length J
told_below f [] n x h = cc h
told_below f (e ∷ past) n x h = elim (n == length past) as (λ t. (n == length past) ≡ t → (if t then f past e else told_at f past n) ≡ Some x → n < suc (length past)) [
  | true ↦ λ is _. let at : n ≡ length past = eqb-true n (length past) is in omega (arith, at)
  | false ↦ λ _ k. let w : n < length past = told_below f past n x k in omega (arith, w)
] refl h

-- a place is the newest or below it
pub newest_or : (n : ℕ) (past : History) → n < suc (length past) → (n ≡ length past) ⊎ (n < length past)
newest_or n past h = elim (n == length past) as (λ t. (n == length past) ≡ t → (n ≡ length past) ⊎ (n < length past)) [
  | true ↦ λ is. inl (eqb-true n (length past) is)
  | false ↦ λ off. inr (let apart : n ≡ length past → ⊥ = λ e. let is : (n == length past) ≡ true = eq-eqb n (length past) e in cc (is, off) in grind (arith, apart))
] refl

-- LISTS OF PLACES
pub places_at : (p : History → Entry → Bool) (past : History) → Each (λ n. (n < length past) × (is_at p past n ≡ true)) (places p past)
places_at p [] = tt
places_at p (e ∷ past) =
    let kept : Each (λ n. (n < suc (length past)) × (is_at p (e ∷ past) n ≡ true)) (places p past) = each_from (λ n. (n < length past) × (is_at p past n ≡ true)) (λ n. (n < suc (length past)) × (is_at p (e ∷ past) n ≡ true))
    (λ n h. (let k = h.0 in omega (arith, k), old_at p past e n h.0 ∙ h.1)) (places p past) (places_at p past) in
    elim (p past e) as (λ t. p past e ≡ t → Each (λ n. (n < suc (length past)) × (is_at p (e ∷ past) n ≡ true)) (if t then length past ∷ places p past else places p past)) [
      | true ↦ λ is. ((omega arith, new_at p past e ∙ is), kept)
      | false ↦ λ _. kept
    ] refl

pub places_below : (p : History → Entry → Bool) (past : History) → Each (λ n. n < length past) (places p past)
places_below p past = each_from (λ n. (n < length past) × (is_at p past n ≡ true)) (λ n. n < length past) (λ n h. h.0) (places p past) (places_at p past)

pub at_in : (p : History → Entry → Bool) (past : History) (n : ℕ) → is_at p past n ≡ true → is_in n (places p past) ≡ true
at_in p [] n h = cc h
at_in p (e ∷ past) n h = elim (n == length past) as (λ t. (n == length past) ≡ t → (if t then p past e else is_at p past n) ≡ true → is_in n (if p past e then length past ∷ places p past else places p past) ≡ true) [
  | true ↦ λ is on.
      subst (λ t. is_in n (if t then length past ∷ places p past else places p past) ≡ true) (sym on)
      (or_left (length past == n) (is_in n (places p past)) (eq-eqb (length past) n (sym (eqb-true n (length past) is))))
  | false ↦ λ _ k. elim (p past e) as (λ t. is_in n (if t then length past ∷ places p past else places p past) ≡ true) [
    | true ↦ or_right (length past == n) (is_in n (places p past)) (at_in p past n k)
    | false ↦ at_in p past n k
  ]
] refl h

pub in_each : (P : ℕ → Type 0) (xs : List ℕ) (n : ℕ) → Each P xs → is_in n xs ≡ true → P n
in_each P [] n are h = cc h
in_each P (m ∷ rest) n are h = elim (or_cases (m == n) (is_in n rest) h) [
  | inl is ↦ subst P (eqb-true m n is) are.0
  | inr k ↦ in_each P rest n are.1 k
]

pub oldest_each : (P : ℕ → Type 0) (xs : List ℕ) → Each P xs → Each P (oldest xs)
oldest_each P [] are = tt
oldest_each P (n ∷ []) are = are
oldest_each P (n ∷ m ∷ rest) are = oldest_each P (m ∷ rest) are.1

pub matched_each : (P : ℕ → Type 0) (m : Message) (xs : List ℕ) (links : List (ℕ × ℕ)) → Each P xs → Each P (matched m (zip xs links))
matched_each P m [] links are = tt
matched_each P m (x ∷ xs) [] are = tt
matched_each P m (x ∷ xs) (l ∷ links) are = elim ((l.0 == m.place) && (l.1 == slot_of m.what)) as (λ t. Each P (if t then x ∷ matched m (zip xs links) else matched m (zip xs links))) [
  | true ↦ (are.0, matched_each P m xs links are.1)
  | false ↦ matched_each P m xs links are.1
]

pub at_or : (p q : History → Entry → Bool) (J : History) (n : ℕ) → is_at (λ past e. p past e || q past e) J n ≡ true → (is_at p J n ≡ true) ⊎ (is_at q J n ≡ true)
at_or p q [] n h = cc h
at_or p q (e ∷ past) n h = elim (n == length past) as (λ t. (if t then p past e || q past e else is_at (λ past e. p past e || q past e) past n) ≡ true → ((if t then p past e else is_at p past n) ≡ true) ⊎ ((if t then q past e else is_at q past n) ≡ true)) [
  | true ↦ λ k. or_cases (p past e) (q past e) k
  | false ↦ λ k. at_or p q past n k
] h

pub at_from : (p q : History → Entry → Bool) → ((past : History) (e : Entry) → p past e ≡ true → q past e ≡ true) → (J : History) (n : ℕ) → is_at p J n ≡ true → is_at q J n ≡ true
at_from p q f [] n h = cc h
at_from p q f (e ∷ past) n h = elim (n == length past) as (λ t. (if t then p past e else is_at p past n) ≡ true → (if t then q past e else is_at q past n) ≡ true) [
  | true ↦ λ k. f past e k
  | false ↦ λ k. at_from p q f past n k
] h

-- A PLACE IS REACHED from itself, so from a list that has it
pub reach_self : (g : Graph) (a : ℕ) → a < length g → reaches g a a ≡ true
reach_self [] a h = absurd (omega arith)
reach_self (causes ∷ g) a h = elim (a == length g) as (λ t. (a == length g) ≡ t → (if t then (a == a) || reaches_any g a causes else reaches g a a) ≡ true) [
  | true ↦ λ _. or_left (a == a) (reaches_any g a causes) (same a)
  | false ↦ λ off. reach_self g a (let apart : a ≡ length g → ⊥ = λ e. let is : (a == length g) ≡ true = eq-eqb a (length g) e in cc (is, off) in grind (arith, apart))
] refl

pub in_reached : (g : Graph) (a : ℕ) (xs : List ℕ) → a < length g → is_in a xs ≡ true → reaches_any g a xs ≡ true
in_reached g a [] h is = cc is
in_reached g a (x ∷ xs) h is = elim (or_cases (x == a) (is_in a xs) is) [
  | inl here ↦ or_left (reaches g a x) (reaches_any g a xs) (subst (λ y. reaches g a y ≡ true) (sym (eqb-true x a here)) (reach_self g a h))
  | inr k ↦ or_right (reaches g a x) (reaches_any g a xs) (in_reached g a xs h k)
]

pub some_same : {A : Type 0} (x y : A) → Some x ≡ Some y → x ≡ y
some_same x y h = cc h
