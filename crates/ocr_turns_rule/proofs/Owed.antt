-- Sums over what views owe and have claimed.
use Rattle.std.proofs.Common.{◌≡◌, ◌≢◌, ℕ, zero, suc, ◌+◌, ◌-◌, ◌<◌, ◌≤◌, ◌⊎◌, ⊎_elim, List, [], ◌∷◌, ◌++◌, refl, ap, sym, subst, ◌∙◌, arith, eq-eqb, ne_eqb, eqb-true, Bool, true, false, Option, Some, None, if◌then◌else◌, ◌||◌, ◌==◌}
use mathlib.Core.Option.{some, some-injective, some-ne-none}
use mathlib.Core.Logic.{dite}
use native.Mathlib.Decide.{ℕ_discrete, dec_le}
use lib.ListN.{get_elem?}
use Rattle.ocr_turns_rule.specs.Counts.{is_in, is_none}
use Rattle.ocr_turns_rule.specs.Debts.{last_if, remove_edt, making, of_edt, of_slot, times, without_all}
use Rattle.ocr_turns_rule.specs.Sums.{is_free, total, one_at, below, remove_at}
use Rattle.ocr_base.specs.Mail.{tally, drop_one, same_name}
use Rattle.ocr_turns_rule.proofs.Totals.{one_here, one_else, sum_append}

-- one of the views has it
pub some_view : {V : Type 0} (f : V → ℕ) (vs : List V) → 1 ≤ total f vs → (i : ℕ) × (v : V) × (get_elem? vs i ≡ some v) × (1 ≤ f v)
some_view f [] h = absurd (omega arith)
some_view f (v ∷ vs) h = dite (dec_le 1 (f v)) (λ y. (0, v, refl, y)) (λ no. let r = some_view f vs (omega arith) in (suc r.0, r.1, r.2, r.3))

-- a sum that is nowhere larger
pub total_less : {V : Type 0} (f g : V → ℕ) (vs : List V) → ((v : V) → f v ≤ g v) → total f vs ≤ total g vs
total_less f g [] le = omega arith
total_less f g (v ∷ vs) le = let a = le v in let r = total_less f g vs le in omega arith

pub total_both : {V : Type 0} (f g : V → ℕ) (vs : List V) → total (λ v. f v + g v) vs ≡ total f vs + total g vs
total_both f g [] = omega arith
total_both f g (v ∷ vs) = let r = total_both f g vs in omega arith

-- the slot weighs no more than its EDT
spot : (n k a b : ℕ) (x y : Bool) → (n == a) ≡ x → (k == b) ≡ y → of_slot n k (a, b) ≤ of_edt n (a, b)
spot n k a b true true p q = rw (p, q) (omega arith)
spot n k a b true false p q = rw (p, q) (omega arith)
spot n k a b false true p q = rw p (omega arith)
spot n k a b false false p q = rw p (omega arith)

pub spot_less : (n k : ℕ) (name : ℕ × ℕ) → of_slot n k name ≤ of_edt n name
spot_less n k name = spot n k name.0 name.1 (n == name.0) (k == name.1) refl refl

pub tally_less : {N : Type 0} (f g : ℕ × ℕ → ℕ) (xs : List (ℕ × ℕ × N)) → ((x : ℕ × ℕ) → f x ≤ g x) → tally f xs ≤ tally g xs
tally_less f g [] le = omega arith
tally_less f g (x ∷ xs) le = let a = le (x.0, x.1) in let r = tally_less f g xs le in omega arith

pub tally_at : {N : Type 0} (f : ℕ × ℕ → ℕ) (xs : List (ℕ × ℕ × N)) (i n k : ℕ) (x : N) → get_elem? xs i ≡ some (n, k, x) → f (n, k) ≤ tally f xs
tally_at f [] i n k x at = absurd (some-ne-none (n, k, x) (sym at))
tally_at f (y ∷ ys) zero n k x at = let e = ap (λ (z : ℕ × ℕ × _). f (z.0, z.1)) (some-injective y (n, k, x) at) in omega arith
tally_at f (y ∷ ys) (suc i) n k x at = let r = tally_at f ys i n k x at in omega arith

pub slot_here : (n k : ℕ) → of_slot n k (n, k) ≡ 1
slot_here n k = rw (eq-eqb n n refl, eq-eqb k k refl) refl

other_slot : (n k a b : ℕ) (x y : Bool) → (n == a) ≡ x → (k == b) ≡ y → (n ≢ a) ⊎ (k ≢ b) → of_slot n k (a, b) ≡ 0
other_slot n k a b true true p q ne = absurd (⊎_elim (λ h. h (eqb-true n a p)) (λ h. h (eqb-true k b q)) ne)
other_slot n k a b true false p q ne = rw (p, q) refl
other_slot n k a b false y p q ne = rw p refl

pub slot_else : (n k a b : ℕ) → (n ≢ a) ⊎ (k ≢ b) → of_slot n k (a, b) ≡ 0
slot_else n k a b ne = other_slot n k a b (n == a) (k == b) refl refl ne

-- THE FIRST of an EDT is taken out
by_first : {N : Type 0} (n : ℕ) (x : ℕ × ℕ × N) (xs : List (ℕ × ℕ × N)) (b : Bool) → (n == x.0) ≡ b
    → (b ≡ false → (k : ℕ) × ((f : ℕ × ℕ → ℕ) → tally f (remove_edt n xs) + f (n, k) ≡ tally f xs))
    → (k : ℕ) × ((f : ℕ × ℕ → ℕ) → tally f (if b then xs else x ∷ remove_edt n xs) + f (n, k) ≡ f (x.0, x.1) + tally f xs)
by_first n x xs true is later = (x.1, λ f. let e : f (n, x.1) ≡ f (x.0, x.1) = ap (λ a. f (a, x.1)) (eqb-true n x.0 is) in omega arith)
by_first n x xs false is later = let r = later refl in (r.0, λ f. let g = r.1 f in omega arith)

pub first_tally : {N : Type 0} (n : ℕ) (xs : List (ℕ × ℕ × N)) → 1 ≤ tally (of_edt n) xs → (k : ℕ) × ((f : ℕ × ℕ → ℕ) → tally f (remove_edt n xs) + f (n, k) ≡ tally f xs)
first_tally n [] h = absurd (omega arith)
first_tally n (x ∷ xs) h = by_first n x xs (n == x.0) refl (λ no. first_tally n xs (let z : of_edt n (x.0, x.1) ≡ 0 = rw no refl in omega arith))

-- WHAT MAKERS OWE
pub making_append : (n : ℕ) (xs ys : List (ℕ × ℕ)) → making n (xs ++ ys) ≡ making n xs + making n ys
making_append n [] ys = omega arith
making_append n (x ∷ xs) ys = let r = making_append n xs ys in omega arith

pub making_at : (n : ℕ) (xs : List (ℕ × ℕ)) (i d : ℕ) → get_elem? xs i ≡ some (n, d) → 33 - d ≤ making n xs
making_at n [] i d at = absurd (some-ne-none (n, d) (sym at))
making_at n (x ∷ xs) zero d at =
    let e = some-injective x (n, d) at in
    let h : (if n == x.0 then 33 - x.1 else 0) ≡ 33 - d = rw (eq-eqb n x.0 (sym (ap (λ (z : ℕ × ℕ). z.0) e))) (ap (λ (z : ℕ × ℕ). 33 - z.1) e) in omega arith
making_at n (x ∷ xs) (suc i) d at = let r = making_at n xs i d at in omega arith

made_by : (n k d : ℕ) (x : ℕ × ℕ) (xs : List (ℕ × ℕ)) (b : Bool) → (n == x.0) ≡ b → ((i q : ℕ) → get_elem? (x ∷ xs) i ≡ some (n, q) → q ≡ d)
    → (b ≡ false → (making n (remove_at n xs) + (33 - d) ≡ making n xs) × ((q : ℕ) → q ≢ n → making q (remove_at n xs) ≡ making q xs))
    → (making n (if b then xs else x ∷ remove_at n xs) + (33 - d) ≡ (if b then 33 - x.1 else 0) + making n xs)
    × ((q : ℕ) → q ≢ n → making q (if b then xs else x ∷ remove_at n xs) ≡ (if q == x.0 then 33 - x.1 else 0) + making q xs)
made_by n k d x xs true is all later =
    let e : n ≡ x.0 = eqb-true n x.0 is in
    let same : x.1 ≡ d = all 0 x.1 (λ i. some (sym e i, x.1)) in
    ((rw same (omega arith)), λ q ne. rw (ne_eqb q x.0 (λ h. ne (h ∙ sym e))) (omega arith))
made_by n k d x xs false is all later = let r = later refl in
    (rw is (let h = r.0 in omega arith), λ q ne. let h = r.1 q ne in omega arith)

pub less_made : (n d : ℕ) (xs : List (ℕ × ℕ)) → 1 ≤ making n xs → ((i q : ℕ) → get_elem? xs i ≡ some (n, q) → q ≡ d)
    → (making n (remove_at n xs) + (33 - d) ≡ making n xs) × ((q : ℕ) → q ≢ n → making q (remove_at n xs) ≡ making q xs)
less_made n d [] some_owed all = absurd (omega arith)
less_made n d (x ∷ xs) some_owed all =
    elim (n == x.0) as (λ b. (n == x.0) ≡ b → (making n (if b then xs else x ∷ remove_at n xs) + (33 - d) ≡ (if b then 33 - x.1 else 0) + making n xs)
    × ((q : ℕ) → q ≢ n → making q (if b then xs else x ∷ remove_at n xs) ≡ (if q == x.0 then 33 - x.1 else 0) + making q xs)) [
      | true ↦ λ is. made_by n 0 d x xs true is all (λ no. absurd (cc no))
      | false ↦ λ is. made_by n 0 d x xs false is all (λ _. less_made n d xs (let z : (if n == x.0 then 33 - x.1 else 0) ≡ 0 = rw is refl in omega arith) (λ i q at. all (suc i) q at))
    ] refl

-- NUMBERS that fail a test
pub times_without : (test : ℕ → Bool) (n : ℕ) (ns : List ℕ) → (test n ≡ true → times n (without_all test ns) ≡ 0) × (test n ≡ false → times n (without_all test ns) ≡ times n ns)
times_without test n [] = (λ _. refl, λ _. refl)
times_without test n (k ∷ ks) =
    let r = times_without test n ks in
    elim (test k) as (λ b. test k ≡ b → (test n ≡ true → times n (if b then without_all test ks else k ∷ without_all test ks) ≡ 0) × (test n ≡ false → times n (if b then without_all test ks else k ∷ without_all test ks) ≡ one_at n k + times n ks)) [
      | true ↦ λ is. (r.0, λ off. let ne : n ≢ k = λ e. no_both (test n) off (ap test e ∙ is) in let z = one_else n k ne in let s = r.1 off in omega arith)
      | false ↦ λ is. ((λ on. let ne : n ≢ k = λ e. no_both (test k) is (sym (ap test e) ∙ on) in let z = one_else n k ne in let s = r.0 on in omega arith), λ off. let s = r.1 off in omega arith)
    ] refl
  where
    no_both : (b : Bool) → b ≡ false → b ≡ true → ⊥
    no_both b off on = cc (off, on)

pub in_times : (n : ℕ) (ns : List ℕ) → (is_in n ns ≡ true → 1 ≤ times n ns) × (is_in n ns ≡ false → times n ns ≡ 0)
in_times n [] = (λ e. absurd (cc e), λ _. refl)
in_times n (k ∷ ks) =
    let r = in_times n ks in
    elim (n == k) as (λ b. (n == k) ≡ b → ((b || is_in n ks) ≡ true → 1 ≤ (if b then 1 else 0) + times n ks) × ((b || is_in n ks) ≡ false → (if b then 1 else 0) + times n ks ≡ 0)) [
      | true ↦ λ is. (λ _. omega arith, λ e. absurd (cc e))
      | false ↦ λ is. (λ e. let h = r.0 e in omega arith, λ e. let h = r.1 e in omega arith)
    ] refl

-- UNSET SLOTS
pub below_same : (f g : ℕ → ℕ) (d : ℕ) → ((k : ℕ) → k < d → f k ≡ g k) → below f d ≡ below g d
below_same f g zero same = refl
below_same f g (suc d) same = let a = same d (omega arith) in let r = below_same f g d (λ k lt. same k (omega arith)) in omega arith

-- one of them is less by one
pub below_one : (f g : ℕ → ℕ) (d k : ℕ) → k < d → f k ≡ 1 + g k → ((j : ℕ) → j ≢ k → f j ≡ g j) → below f d ≡ 1 + below g d
below_one f g zero k lt here off = absurd (omega arith)
below_one f g (suc d) k lt here off = dite (ℕ_discrete d k)
    (λ e. let a : f d ≡ 1 + g d = subst (λ j. f j ≡ 1 + g j) (sym e) here in let r = below_same f g d (λ j small. off j (λ h. omega arith)) in omega arith)
    (λ ne. let a = off d ne in let r = below_one f g d k (omega arith) here off in omega arith)

pub below_zero : (f : ℕ → ℕ) (d : ℕ) → below f d ≡ 0 → (k : ℕ) → k < d → f k ≡ 0
below_zero f zero z k lt = absurd (omega arith)
below_zero f (suc d) z k lt = dite (ℕ_discrete k d) (λ e. subst (λ j. f j ≡ 0) (sym e) (omega arith)) (λ ne. below_zero f d (omega arith) k (omega arith))

pub below_nought : (f : ℕ → ℕ) (d : ℕ) → ((k : ℕ) → k < d → f k ≡ 0) → below f d ≡ 0
below_nought f zero none = refl
below_nought f (suc d) none = let a = none d (omega arith) in let r = below_nought f d (λ k lt. none k (omega arith)) in omega arith

pub below_all : (f : ℕ → ℕ) (d : ℕ) → ((k : ℕ) → f k ≡ 1) → below f d ≡ d
below_all f zero all = refl
below_all f (suc d) all = let a = all d in let r = below_all f d all in omega arith

pub is_some : (o : Option ℕ) → is_none o ≡ 0 → (x : ℕ) × (o ≡ Some x)
is_some None z = absurd (omega arith)
is_some (Some x) z = (x, refl)

-- MEMBERS
pub dropped_in : {N : Type 0} (nm : ℕ × ℕ) (xs : List (ℕ × ℕ × N)) (i : ℕ) (y : ℕ × ℕ × N) → get_elem? (drop_one nm xs) i ≡ some y → (j : ℕ) × (get_elem? xs j ≡ some y)
dropped_in nm [] i y at = absurd (some-ne-none y (sym at))
dropped_in nm (x ∷ xs) i y at = elim (same_name nm x) as (λ b. get_elem? (if b then xs else x ∷ drop_one nm xs) i ≡ some y → (j : ℕ) × (get_elem? (x ∷ xs) j ≡ some y)) [
  | true ↦ λ h. (suc i, h)
  | false ↦ λ h. later x (drop_one nm xs) xs i y h (λ j there. dropped_in nm xs j y there)
] at
  where
    later : {A : Type 0} (x : A) (ys xs : List A) (i : ℕ) (y : A) → get_elem? (x ∷ ys) i ≡ some y → ((j : ℕ) → get_elem? ys j ≡ some y → (k : ℕ) × (get_elem? xs k ≡ some y)) → (k : ℕ) × (get_elem? (x ∷ xs) k ≡ some y)
    later x ys xs zero y h in_rest = (0, h)
    later x ys xs (suc i) y h in_rest = let r = in_rest i h in (suc r.0, r.1)

-- THE LAST unit of an EDT
pub times_last : (left n : ℕ) (ns : List ℕ) → (times n (last_if left n ns) ≡ times n ns + is_free left) × ((a : ℕ) → a ≢ n → times a (last_if left n ns) ≡ times a ns)
times_last zero n ns = (
  (let h = sum_append (one_at n) ns (n ∷ []) in let o = one_here n in omega arith),
  λ a ne. (let h = sum_append (one_at a) ns (n ∷ []) in let z = one_else a n ne in omega arith),
)
times_last (suc left) n ns = (omega arith, λ a ne. refl)
