-- What the orders of touches and of races tell.
use Rattle.std.proofs.Common.{◌≡◌, ◌<◌, ◌⊎◌, inl, inr, ℕ, ◌==◌, true, refl, sym, ◌∙◌, arith}
use Rattle.std.proofs.lemmas.Bool.{and_parts, and_from, eqb-true, eq-eqb}
use Rattle.std.proofs.lemmas.Bool.Decides.{nat_tests}
use Rattle.std.specs.Ordering.{nat_cmp, ordering_then}
use Rattle.std.specs.declared.cmp.Ordering.{Ordering}
use Rattle.std.specs.declared.cmp.Ordering.TheVariants.{Less, Equal, Greater}
use Rattle.ocr_memory_model.specs.declared.touch.Touch.{Touch}
use Rattle.ocr_memory_model.specs.RaceList.{race_cmp}
use Rattle.ocr_memory_model.specs.Touches.{touch_cmp, is_same_word, race_of}

less_is : (a b : ℕ) → nat_cmp a b ≡ Less → a < b
less_is a b h = grind (arith, nat_tests)

equal_is : (a b : ℕ) → nat_cmp a b ≡ Equal → a ≡ b
equal_is a b h = grind (arith, nat_tests)

is_less : (a b : ℕ) → a < b → nat_cmp a b ≡ Less
is_less a b h = grind (arith, nat_tests)

is_equal : (a b : ℕ) → a ≡ b → nat_cmp a b ≡ Equal
is_equal a b h = grind (arith, nat_tests)

-- of three numbers that are compared in turn
abbrev pub IsBelow : (a b c x y z : ℕ) → Type 0
IsBelow a b c x y z = (a < x) ⊎ ((a ≡ x) × ((b < y) ⊎ ((b ≡ y) × (c < z))))

abbrev IsRanked : Touch → Touch → Type 0
IsRanked x y = IsBelow x.block x.word x.edt y.block y.word y.edt

by_word : (b c y z : ℕ) → ordering_then (nat_cmp b y) (nat_cmp c z) ≡ Less → (b < y) ⊎ ((b ≡ y) × (c < z))
by_word b c y z h = elim (nat_cmp b y) as (λ o. nat_cmp b y ≡ o → ordering_then o (nat_cmp c z) ≡ Less → (b < y) ⊎ ((b ≡ y) × (c < z))) [
  | Less ↦ λ is _. inl (less_is b y is)
  | Equal ↦ λ is k. inr (equal_is b y is, less_is c z k)
  | Greater ↦ λ _ k. cc k
] refl h

by_block : (a b c x y z : ℕ) → ordering_then (ordering_then (nat_cmp a x) (nat_cmp b y)) (nat_cmp c z) ≡ Less → IsBelow a b c x y z
by_block a b c x y z h = elim (nat_cmp a x) as (λ o. nat_cmp a x ≡ o → ordering_then (ordering_then o (nat_cmp b y)) (nat_cmp c z) ≡ Less → IsBelow a b c x y z) [
  | Less ↦ λ is _. inl (less_is a x is)
  | Equal ↦ λ is k. inr (equal_is a x is, by_word b c y z k)
  | Greater ↦ λ _ k. cc k
] refl h

pub ranked : (x y : Touch) → touch_cmp x y ≡ Less → IsRanked x y
ranked x y h = by_block x.block x.word x.edt y.block y.word y.edt h

-- between two touches of a word there are only such
middle : (a b c x y z u v w : ℕ) → IsBelow a b c x y z → IsBelow x y z u v w → a ≡ u → b ≡ v → (a ≡ x) × (b ≡ y)
middle a b c x y z u v w (inl l) (inl k) e f = absurd (omega arith)
middle a b c x y z u v w (inl l) (inr k) e f = absurd (omega arith)
middle a b c x y z u v w (inr l) (inl k) e f = absurd (omega arith)
middle a b c x y z u v w (inr (i, inl l)) (inr (j, inl k)) e f = absurd (omega arith)
middle a b c x y z u v w (inr (i, inl l)) (inr (j, inr k)) e f = absurd (omega arith)
middle a b c x y z u v w (inr (i, inr l)) (inr (j, inl k)) e f = absurd (omega arith)
middle a b c x y z u v w (inr (i, inr l)) (inr (j, inr k)) e f = (i, l.0)

pub same_word : (x y : Touch) → is_same_word x y ≡ true → (x.block ≡ y.block) × (x.word ≡ y.word)
same_word x y h =
    let p = and_parts (x.block == y.block) (x.word == y.word) h in
    (eqb-true x.block y.block p.0, eqb-true x.word y.word p.1)

pub word_same : (x y : Touch) → x.block ≡ y.block → x.word ≡ y.word → is_same_word x y ≡ true
word_same x y e f =
    and_from (x.block == y.block) (x.word == y.word) (eq-eqb x.block y.block e) (eq-eqb x.word y.word f)

pub between : (x z y : Touch) → touch_cmp x z ≡ Less → touch_cmp z y ≡ Less → is_same_word x y ≡ true → is_same_word x z ≡ true
between x z y low high is =
    let s = same_word x y is in
    let m = middle x.block x.word x.edt z.block z.word z.edt y.block y.word y.edt (ranked x z low) (ranked z y high) s.0 s.1 in
    word_same x z m.0 m.1

-- of two touches of a word, in their order, the EDT of the first is the lesser
lesser : (a b c x y z : ℕ) → IsBelow a b c x y z → a ≡ x → b ≡ y → c < z
lesser a b c x y z (inl l) e f = absurd (omega arith)
lesser a b c x y z (inr (i, inl l)) e f = absurd (omega arith)
lesser a b c x y z (inr (i, inr l)) e f = l.1

pub lesser_edt : (x y : Touch) → touch_cmp x y ≡ Less → is_same_word x y ≡ true → x.edt < y.edt
lesser_edt x y low is =
    let s = same_word x y is in
    lesser x.block x.word x.edt y.block y.word y.edt (ranked x y low) s.0 s.1

-- THE RACES OF TWO TOUCHES stand in their order
abbrev compare_four : (a b c d x y z w : ℕ) → Ordering
compare_four a b c d x y z w =
    ordering_then (nat_cmp a x) (ordering_then (nat_cmp b y) (ordering_then (nat_cmp c z) (nat_cmp d w)))

four_less : (a b c d x y z w : ℕ) → IsBelow a b c x y z → compare_four a b c d x y z w ≡ Less
four_less a b c d x y z w (inl l) = rw (is_less a x l)
four_less a b c d x y z w (inr (i, inl l)) = rw (is_equal a x i, is_less b y l)
four_less a b c d x y z w (inr (i, inr l)) = rw (is_equal a x i, is_equal b y l.0, is_less c z l.1)

pub races_rise : (x y z w : Touch) → touch_cmp x z ≡ Less → race_cmp (race_of x y) (race_of z w) ≡ Less
races_rise x y z w low =
    four_less x.block x.word x.edt y.edt z.block z.word z.edt w.edt (ranked x z low)

pub partners_rise : (x y z : Touch) → is_same_word x y ≡ true → touch_cmp y z ≡ Less → is_same_word x z ≡ true → race_cmp (race_of x y) (race_of x z) ≡ Less
partners_rise x y z is low also =
    let s = same_word x y is in
    let t = same_word x z also in
    let u = lesser y.block y.word y.edt z.block z.word z.edt (ranked y z low) (sym s.0 ∙ t.0) (sym s.1 ∙ t.1) in
    rw (is_equal x.block x.block refl, is_equal x.word x.word refl, is_equal x.edt x.edt refl) (is_less y.edt z.edt u)
