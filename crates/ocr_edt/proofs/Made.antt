-- Blocks that are held beside those of a plan: in which mode each is held, and which is the least.
use Rattle.std.proofs.Common.{◌≡◌, ◌⊎◌, ◌≤◌, ◌<◌, ℕ, List, [], ◌∷◌, Bool, true, false, ◌||◌, not, cond, ◌==◌, nat_lt, if◌then◌else◌, Option, Some, None, IfSome, inl, inr, refl, sym, arith, ap, ◌∙◌}
use Rattle.std.specs.List.{list_any}
use Rattle.std.specs.Ordering.{nat_cmp}
use Rattle.std.specs.BTreeMap.{is_at}
use Rattle.std.specs.Cmp.{unsigned_tied}
use Rattle.std.proofs.lemmas.Bool.{eq-eqb, ne_eqb, ltb-true, ltb-false}
use Rattle.std.proofs.lemmas.Bool.Decides.{eqb_tells}
use Rattle.ocr_base.proofs.Booleans.{eqb_flips}
use Rattle.ocr_acquire.specs.declared.Mode.{Mode}
use Rattle.ocr_acquire.specs.declared.Mode.TheVariants as mode
use Rattle.ocr_acquire.specs.Plan.{RisesFrom}
use Rattle.ocr_acquire.specs.Mode.{mode_in}
use Rattle.ocr_edt.specs.declared.Identity.{Identity}
use Rattle.ocr_edt.specs.Phases.{Work, Rises, name_of, least_of, without, placed_by}
use Rattle.ocr_edt.specs.Steps.{with_made}
use Rattle.ocr_edt.proofs.Holds.{rises_any, any_filter, any_placed, mode_in-without, mode_in-other, mode_in-placed, mode_in-placed_other}

-- RISING HOLDS ARE TOLD BY THEIR MODES.
mode_in-first : (x : ℕ × Mode) (xs : List (ℕ × Mode)) → mode_in x.0 (x ∷ xs) ≡ Some x.1
mode_in-first x xs = rw (eq-eqb x.0 x.0 refl) refl

mode_in-below : (low q : ℕ) (xs : List (ℕ × Mode)) → RisesFrom low xs → q ≤ low → mode_in q xs ≡ None
mode_in-below low q [] h le = refl
mode_in-below low q (x ∷ xs) h le =
    let apart : (x.0 == q) ≡ false = ne_eqb x.0 q (λ e. absurd (omega (arith, h.0))) in
    rw apart (mode_in-below x.0 q xs h.1 (omega (arith, h.0)))

first_by : (q : ℕ) (m : Mode) (x : ℕ × Mode) (xs : List (ℕ × Mode)) (b : Bool) → nat_lt q x.0 ≡ b → RisesFrom x.0 xs
    → mode_in q (x ∷ xs) ≡ Some m → x.0 ≤ q
first_by q m x xs true t h held =
    let above : q < x.0 = ltb-true q x.0 t in
    let apart : (x.0 == q) ≡ false = ne_eqb x.0 q (λ e. absurd (omega arith)) in
    let none : mode_in q (x ∷ xs) ≡ None = rw apart (mode_in-below x.0 q xs h (omega arith)) in
    absurd cc
first_by q m x xs false t h held = ltb-false q x.0 t

first_below : (q : ℕ) (m : Mode) (x : ℕ × Mode) (xs : List (ℕ × Mode)) → RisesFrom x.0 xs → mode_in q (x ∷ xs) ≡ Some m → x.0 ≤ q
first_below q m x xs h held = first_by q m x xs (nat_lt q x.0) refl h held

tail_modes : (x y : ℕ × Mode) (xs ys : List (ℕ × Mode)) (q : ℕ) → x.0 ≡ y.0 → RisesFrom x.0 xs → RisesFrom y.0 ys
    → mode_in q (x ∷ xs) ≡ mode_in q (y ∷ ys) → mode_in q xs ≡ mode_in q ys
tail_modes x y xs ys q e h k same = elim (eqb_tells x.0 q) [
  | inl at ↦ mode_in-below x.0 q xs h (omega (arith, at.1)) ∙ sym (mode_in-below y.0 q ys k (omega (arith, at.1)))
  | inr apart ↦ let other : (y.0 == q) ≡ false = ap (λ (n : ℕ). n == q) (sym e) ∙ apart.0 in rw (apart.0, other) at same
]

pub same_from_modes : (xs ys : List (ℕ × Mode)) → Rises xs → Rises ys → ((q : ℕ) → mode_in q xs ≡ mode_in q ys) → xs ≡ ys
same_from_modes [] [] h k same = refl
same_from_modes [] (y ∷ ys) h k same = let e : None ≡ Some y.1 = same y.0 ∙ mode_in-first y ys in absurd cc
same_from_modes (x ∷ xs) [] h k same = let e : None ≡ Some x.1 = sym (same x.0) ∙ mode_in-first x xs in absurd cc
same_from_modes (x ∷ xs) (y ∷ ys) h k same =
    let low : y.0 ≤ x.0 = first_below x.0 x.1 y ys k (sym (same x.0) ∙ mode_in-first x xs) in
    let high : x.0 ≤ y.0 = first_below y.0 y.1 x xs h (same y.0 ∙ mode_in-first y ys) in
    let block : x.0 ≡ y.0 = omega arith in
    let held : Some x.1 ≡ Some y.1 =
    sym (mode_in-first x xs) ∙ same x.0 ∙ ap (λ (n : ℕ). mode_in n (y ∷ ys)) block ∙ mode_in-first y ys in
    let m : x.1 ≡ y.1 = cc in
    let rest : xs ≡ ys = same_from_modes xs ys (rises_any x.0 xs h) (rises_any y.0 ys k) (λ q. tail_modes x y xs ys q block h k (same q)) in
    λ i. (block i, m i) ∷ rest i

-- WHAT IS MADE.
abbrev pub is_made : ℕ → List ℕ → Bool
is_made q made = list_any (is_at (nat_cmp q)) made

pub rises_made : (made : List ℕ) (xs : List (ℕ × Mode)) → Rises xs → Rises (with_made made xs)
rises_made [] xs h = h
rises_made (b ∷ made) xs h = any_placed b mode.Rw (with_made made xs) (rises_made made xs h)

pub made_mode : (q : ℕ) (made : List ℕ) (xs : List (ℕ × Mode)) → mode_in q (with_made made xs) ≡ (if is_made q made then Some mode.Rw else mode_in q xs)
made_mode q [] xs = refl
made_mode q (b ∷ made) xs = elim (eqb_tells q b) [
  | inl e ↦ let here : is_at (nat_cmp q) b ≡ true = unsigned_tied q b ∙ e.0 in
      rw here (ap (λ (n : ℕ). mode_in n (placed_by name_of (b, mode.Rw) (without b (with_made made xs)))) e.1
      ∙ mode_in-placed b mode.Rw (without b (with_made made xs)) (mode_in-without b (with_made made xs)))
  | inr e ↦ let apart : is_at (nat_cmp q) b ≡ false = unsigned_tied q b ∙ e.0 in
      rw apart (mode_in-placed_other b q mode.Rw (without b (with_made made xs)) e.0 ∙ mode_in-other b q (with_made made xs) e.0 ∙ made_mode q made xs)
]

same_made : (one other : List ℕ) (xs : List (ℕ × Mode)) → Rises xs → ((q : ℕ) → is_made q one ≡ is_made q other) → with_made one xs ≡ with_made other xs
same_made one other xs h same = same_from_modes (with_made one xs) (with_made other xs) (rises_made one xs h) (rises_made other xs h)
    (λ q. made_mode q one xs ∙ ap (λ (b : Bool). if b then Some mode.Rw else mode_in q xs) (same q) ∙ sym (made_mode q other xs))

is_at-flips : (q b : ℕ) → is_at (nat_cmp b) q ≡ is_at (nat_cmp q) b
is_at-flips q b = unsigned_tied b q ∙ eqb_flips b q ∙ sym (unsigned_tied q b)

with_one : (a b c : Bool) → a ≡ b → cond a true c ≡ (b || c)
with_one true true c e = refl
with_one false false c e = refl
with_one true false c e = absurd cc
with_one false true c e = absurd cc

-- a further one
pub with_made-insert : (b : ℕ) (old new : List ℕ) (xs : List (ℕ × Mode)) → Rises xs
    → ((q : ℕ) → is_made q new ≡ cond (is_at (nat_cmp b) q) true (is_made q old))
    → with_made new xs ≡ placed_by name_of (b, mode.Rw) (without b (with_made old xs))
with_made-insert b old new xs h put = same_made new (b ∷ old) xs h
    (λ q. put q ∙ with_one (is_at (nat_cmp b) q) (is_at (nat_cmp q) b) (is_made q old) (is_at-flips q b))

-- one less
pub with_made-remove : (b : ℕ) (old new : List ℕ) (xs : List (ℕ × Mode)) → Rises xs
    → ((q : ℕ) → is_made q new ≡ cond (is_at (nat_cmp b) q) false (is_made q old))
    → with_made new (without b xs) ≡ without b (with_made old xs)
with_made-remove b old new xs h taken =
    let kept : Rises (without b xs) = any_filter (λ (e : ℕ × Mode). not (b == e.0)) xs h in
    let rest : Rises (without b (with_made old xs)) = any_filter (λ (e : ℕ × Mode). not (b == e.0)) (with_made old xs) (rises_made old xs h) in
    same_from_modes (with_made new (without b xs)) (without b (with_made old xs)) (rises_made new (without b xs) kept) rest
    (λ q. made_mode q new (without b xs) ∙ elim (eqb_tells q b) [
      | inl e ↦ let here : is_at (nat_cmp b) q ≡ true = is_at-flips q b ∙ unsigned_tied q b ∙ e.0 in
          rw (taken q, here) (ap (λ (n : ℕ). mode_in n (without b xs)) e.1 ∙ mode_in-without b xs
          ∙ sym (mode_in-without b (with_made old xs)) ∙ ap (λ (n : ℕ). mode_in n (without b (with_made old xs))) (sym e.1))
      | inr e ↦ let apart : is_at (nat_cmp b) q ≡ false = is_at-flips q b ∙ unsigned_tied q b ∙ e.0 in
          rw (taken q, apart) (ap (λ (m : Option Mode). if is_made q old then Some mode.Rw else m) (mode_in-other b q xs e.0)
          ∙ sym (made_mode q old xs) ∙ sym (mode_in-other b q (with_made old xs) e.0))
    ])

-- THE LEAST HOLD.
least_is : (b : ℕ) (m : Mode) (xs : List (ℕ × Mode)) → Rises xs → mode_in b xs ≡ Some m
    → ((q : ℕ) (n : Mode) → mode_in q xs ≡ Some n → b ≤ q) → least_of xs ≡ Some b
least_is b m [] h held bound = absurd cc
least_is b m (x ∷ xs) h held bound =
    let low : x.0 ≤ b = first_below b m x xs h held in
    let high : b ≤ x.0 = bound x.0 x.1 (mode_in-first x xs) in
    let same : x.0 ≡ b = omega arith in
    ap Some same

bound_by : (b k q : ℕ) (n : Mode) (made : List ℕ) (xs : List (ℕ × Mode)) (t : Bool) → Rises xs → is_made q made ≡ t
    → ((q : ℕ) → is_made q made ≡ true → k ≤ q) → b ≤ k → IfSome (least_of xs) (λ (p : ℕ). b ≤ p)
    → (if t then Some mode.Rw else mode_in q xs) ≡ Some n → b ≤ q
bound_by b k q n made xs true h e above le low held = let far : k ≤ q = above q e in omega arith
bound_by b k q n made [] false h e above le low held = absurd cc
bound_by b k q n made (x ∷ xs) false h e above le low held = let far : x.0 ≤ q = first_below q n x xs h held in omega (arith, low)

held_by : (b k : ℕ) (made : List ℕ) (xs : List (ℕ × Mode)) (t : Bool) → is_made b made ≡ t → is_made k made ≡ true
    → (b ≡ k) ⊎ (least_of xs ≡ Some b) → (m : Mode) × ((if t then Some mode.Rw else mode_in b xs) ≡ Some m)
held_by b k made xs true e at one = (mode.Rw, refl)
held_by b k made xs false e at (inl same) = let t : is_made b made ≡ true = ap (λ (n : ℕ). is_made n made) same ∙ at in absurd cc
held_by b k made [] false e at (inr least) = absurd cc
held_by b k made (x ∷ xs) false e at (inr least) =
    let same : x.0 ≡ b = cc in
    (x.1, ap (λ (n : ℕ). mode_in n (x ∷ xs)) (sym same) ∙ mode_in-first x xs)

-- of the least of the plan and the least that is made, the lesser
pub least_made : (b k : ℕ) (made : List ℕ) (xs : List (ℕ × Mode)) → Rises xs → is_made k made ≡ true
    → ((q : ℕ) → is_made q made ≡ true → k ≤ q) → (b ≡ k) ⊎ (least_of xs ≡ Some b) → b ≤ k → IfSome (least_of xs) (λ (p : ℕ). b ≤ p)
    → least_of (with_made made xs) ≡ Some b
least_made b k made xs h at above one le low =
    let held = held_by b k made xs (is_made b made) refl at one in
    least_is b held.0 (with_made made xs) (rises_made made xs h) (made_mode b made xs ∙ held.1)
    (λ q n there. bound_by b k q n made xs (is_made q made) h refl above le low (sym (made_mode q made xs) ∙ there))

pub work_same : (i : Identity) (h k : List (ℕ × Mode)) (s t : List ℕ) → h ≡ k → s ≡ t
    → let one : Work = record { identity = i; holds = h; stale = s } in
    let other : Work = record { identity = i; holds = k; stale = t } in one ≡ other
work_same i h k s t a b = rw (a, b) refl
