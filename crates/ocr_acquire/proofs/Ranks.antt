-- The strongest mode of a block, over slots and over a plan.
use Rattle.std.proofs.Common.{◌≡◌, ◌⊎◌, ℕ, ◌<◌, ◌≤◌, List, [], ◌∷◌, Bool, true, false, inl, inr, refl, sym, arith, ap, ◌∙◌, subst, ◌==◌, nat_lt, if◌then◌else◌, max, eq-eqb, not}
use Rattle.std.specs.List.{Contains}
use Rattle.std.proofs.lemmas.Bool.Decides.{eqb_tells}
use Rattle.std.proofs.lemmas.Bool.{ltb-true, ltb-false, eqb-true}
use Rattle.ocr_guid.proofs.Booleans.{neither}
use Rattle.ocr_acquire.specs.declared.Mode.{Mode}
use Rattle.ocr_acquire.specs.declared.Mode.TheVariants as mode
use Rattle.ocr_acquire.specs.Mode.{rank_of, is_null, mode_of, NumberLaw}
use Rattle.ocr_acquire.specs.Plan.{RisesFrom, stronger, put, asks, plan_of}
use Rattle.ocr_acquire.proofs.Members.{Contains-nil, Contains-here, Contains-there, Contains-cases}
use Rattle.ocr_acquire.proofs.Ascent.{rises_above}

pub number_law : NumberLaw
number_law mode.Null = refl
number_law mode.Ro = refl
number_law mode.Const = refl
number_law mode.Rw = refl
number_law mode.Ew = refl

-- modes of one rank are one
pub rank_of-inj : (m n : Mode) → rank_of m ≡ rank_of n → m ≡ n
rank_of-inj m n e = let a = number_law m in let b = number_law n in let c : mode_of (rank_of m) ≡ mode_of (rank_of n) = ap mode_of e in cc

pub is_null-rank : (m : Mode) → is_null m ≡ false → 0 < rank_of m
is_null-rank mode.Null h = cc
is_null-rank mode.Ro h = omega arith
is_null-rank mode.Const h = omega arith
is_null-rank mode.Rw h = omega arith
is_null-rank mode.Ew h = omega arith

pub null_or_used : (m : Mode) → (m ≡ mode.Null) ⊎ (is_null m ≡ false)
null_or_used mode.Null = inl refl
null_or_used mode.Ro = inr refl
null_or_used mode.Const = inr refl
null_or_used mode.Rw = inr refl
null_or_used mode.Ew = inr refl

pub rank_of-null : (m : Mode) → m ≡ mode.Null → rank_of m ≡ 0
rank_of-null m e = ap rank_of e

stronger_by : (m n : Mode) (t : Bool) → nat_lt (rank_of m) (rank_of n) ≡ t → rank_of (if t then n else m) ≡ max (rank_of m) (rank_of n)
stronger_by m n true e = omega (arith, ltb-true (rank_of m) (rank_of n) e)
stronger_by m n false e = omega (arith, ltb-false (rank_of m) (rank_of n) e)

pub rank_of-stronger : (m n : Mode) → rank_of (stronger m n) ≡ max (rank_of m) (rank_of n)
rank_of-stronger m n = stronger_by m n (nat_lt (rank_of m) (rank_of n)) refl

pub stronger-null : (m : Mode) → stronger m mode.Null ≡ m
stronger-null m = rank_of-inj (stronger m mode.Null) m (omega (arith, rank_of-stronger m mode.Null))

pub null-stronger : (m : Mode) → stronger mode.Null m ≡ m
null-stronger m = rank_of-inj (stronger mode.Null m) m (omega (arith, rank_of-stronger mode.Null m))

pub stronger-right : (m n : Mode) → rank_of m ≤ rank_of n → stronger m n ≡ n
stronger-right m n h = rank_of-inj (stronger m n) n (omega (arith, rank_of-stronger m n))

pub stronger-assoc : (a b c : Mode) → stronger (stronger a b) c ≡ stronger a (stronger b c)
stronger-assoc a b c = rank_of-inj (stronger (stronger a b) c) (stronger a (stronger b c))
    (omega (arith, rank_of-stronger (stronger a b) c, rank_of-stronger a b, rank_of-stronger a (stronger b c), rank_of-stronger b c))

stronger_is : (m n : Mode) (t : Bool) → ((if t then n else m) ≡ m) ⊎ ((if t then n else m) ≡ n)
stronger_is m n true = inr refl
stronger_is m n false = inl refl

pub stronger-either : (m n : Mode) → (stronger m n ≡ m) ⊎ (stronger m n ≡ n)
stronger-either m n = stronger_is m n (nat_lt (rank_of m) (rank_of n))

-- the strongest mode of a block in a list, and NULL where it stands nowhere
abbrev pub strongest_of : ℕ → List (ℕ × Mode) → Mode
strongest_of block [] = mode.Null
strongest_of block (e ∷ rest) = if block == e.0 then stronger e.1 (strongest_of block rest) else strongest_of block rest

-- it bounds each mode of the block
bound_by : (t : Bool) (e m s : Mode) → rank_of m ≤ rank_of s → rank_of m ≤ rank_of (if t then stronger e s else s)
bound_by true e m s h = omega (arith, rank_of-stronger e s)
bound_by false e m s h = h

here : (block : ℕ) (m : Mode) (g : ℕ) (e s : Mode) → g ≡ block → e ≡ m → rank_of m ≤ rank_of (if block == g then stronger e s else s)
here block m g e s a b = let t : (block == g) ≡ true = eq-eqb block g (sym a) in rw t (omega (arith, rank_of-stronger e s, ap rank_of b))

pub strongest_of-bounds : (block : ℕ) (m : Mode) (slots : List (ℕ × Mode)) → Contains slots (block, m) → rank_of m ≤ rank_of (strongest_of block slots)
strongest_of-bounds block m [] i = absurd (Contains-nil (block, m) i)
strongest_of-bounds block m (e ∷ rest) i = elim (Contains-cases e (block, m) rest i) [
  | inl q ↦ let a : e.0 ≡ block = ap (λ (p : ℕ × Mode). p.0) q in let b : e.1 ≡ m = ap (λ (p : ℕ × Mode). p.1) q in
      here block m e.0 e.1 (strongest_of block rest) a b
  | inr r ↦ bound_by (block == e.0) e.1 m (strongest_of block rest) (strongest_of-bounds block m rest r)
]

pub pair_eq : (a b : ℕ) (m n : Mode) → a ≡ b → m ≡ n → let p : ℕ × Mode = (a, m) in let q : ℕ × Mode = (b, n) in p ≡ q
pair_eq a b m n h k = cc

member_here : (block : ℕ) (e : ℕ × Mode) (rest : List (ℕ × Mode)) (s : Mode) → e.0 ≡ block → (s ≡ mode.Null) ⊎ Contains rest (block, s)
    → (stronger e.1 s ≡ mode.Null) ⊎ Contains (e ∷ rest) (block, stronger e.1 s)
member_here block e rest s a ih = elim (stronger-either e.1 s) [
  | inl b ↦ inr (Contains-here e (block, stronger e.1 s) rest (pair_eq e.0 block e.1 (stronger e.1 s) a (sym b)))
  | inr b ↦ elim ih [
    | inl n ↦ inl (b ∙ n)
    | inr c ↦ inr (Contains-there e (block, stronger e.1 s) rest (subst (λ (v : Mode). Contains rest (block, v)) (sym b) c))
  ]
]

member_there : (block : ℕ) (e : ℕ × Mode) (rest : List (ℕ × Mode)) (s : Mode) → (s ≡ mode.Null) ⊎ Contains rest (block, s)
    → (s ≡ mode.Null) ⊎ Contains (e ∷ rest) (block, s)
member_there block e rest s (inl n) = inl n
member_there block e rest s (inr c) = inr (Contains-there e (block, s) rest c)

-- it is NULL or a mode of the block
pub strongest_of-member : (block : ℕ) (slots : List (ℕ × Mode)) → (strongest_of block slots ≡ mode.Null) ⊎ Contains slots (block, strongest_of block slots)
strongest_of-member block [] = inl refl
strongest_of-member block (e ∷ rest) = elim (eqb_tells block e.0) [
  | inl h ↦ rw h.0 (member_here block e rest (strongest_of block rest) (sym h.1) (strongest_of-member block rest))
  | inr h ↦ rw h.0 (member_there block e rest (strongest_of block rest) (strongest_of-member block rest))
]

-- what putting a block changes
merged : (m n s : Mode) (t : Bool)
    → (if t then stronger (stronger m n) s else s) ≡ (if t then stronger m (if t then stronger n s else s) else (if t then stronger n s else s))
merged m n s true = stronger-assoc m n s
merged m n s false = refl

apart : (m n s : Mode) (t u : Bool) → (t ≡ true → u ≡ true → ⊥)
    → (if t then stronger n (if u then stronger m s else s) else (if u then stronger m s else s))
    ≡ (if u then stronger m (if t then stronger n s else s) else (if t then stronger n s else s))
apart m n s true true h = absurd (h refl refl)
apart m n s true false h = refl
apart m n s false true h = refl
apart m n s false false h = refl

put_by : (block g : ℕ) (m : Mode) (e : ℕ × Mode) (rest : List (ℕ × Mode)) (t u : Bool) → (g == e.0) ≡ u
    → strongest_of block (put g m rest) ≡ (if block == g then stronger m (strongest_of block rest) else strongest_of block rest)
    → strongest_of block (if t then (g, m) ∷ e ∷ rest else if u then (g, stronger m e.1) ∷ rest else e ∷ put g m rest)
    ≡ (if block == g then stronger m (strongest_of block (e ∷ rest)) else strongest_of block (e ∷ rest))
put_by block g m e rest true u k ih = refl
put_by block g m e rest false true k ih = let same : e.0 ≡ g = sym (eqb-true g e.0 k) in
    rw same (merged m e.1 (strongest_of block rest) (block == g))
put_by block g m e rest false false k ih =
    rw ih (apart m e.1 (strongest_of block rest) (block == e.0) (block == g) (λ a b. let x = eqb-true block e.0 a in let y = eqb-true block g b in
    let z : (g == e.0) ≡ true = eq-eqb g e.0 (sym y ∙ x) in cc))

pub strongest_of-put : (block g : ℕ) (m : Mode) (plan : List (ℕ × Mode))
    → strongest_of block (put g m plan) ≡ (if block == g then stronger m (strongest_of block plan) else strongest_of block plan)
strongest_of-put block g m [] = refl
strongest_of-put block g m (e ∷ rest) = put_by block g m e rest (nat_lt g e.0) (g == e.0) refl (strongest_of-put block g m rest)

-- what a slot that asks for a block tells, and what one that asks for none
pub asks-tells : (slot : ℕ × Mode) → asks slot ≡ true → (0 < slot.0) × (is_null slot.1 ≡ false)
asks-tells slot h = let b = neither (slot.0 == 0) (is_null slot.1) h in
    (elim (eqb_tells slot.0 0) [ inl z ↦ cc | inr z ↦ omega (arith, z.1) ], b.1)

pub asks-from : (slot : ℕ × Mode) → 0 < slot.0 → is_null slot.1 ≡ false → asks slot ≡ true
asks-from slot h n = elim (eqb_tells slot.0 0) [ inl z ↦ absurd (omega (arith, z.1)) | inr z ↦ rw (z.0, n) refl ]

is_null-not : (m : Mode) → not (is_null m) ≡ false → m ≡ mode.Null
is_null-not mode.Null h = refl
is_null-not mode.Ro h = cc
is_null-not mode.Const h = cc
is_null-not mode.Rw h = cc
is_null-not mode.Ew h = cc

pub asks-not : (slot : ℕ × Mode) → 0 < slot.0 → asks slot ≡ false → slot.1 ≡ mode.Null
asks-not slot h a = elim (eqb_tells slot.0 0) [ inl z ↦ absurd (omega (arith, z.1)) | inr z ↦ is_null-not slot.1 (rw z.0 at a) ]

slot_by : (block : ℕ) (s : ℕ × Mode) (plan : List (ℕ × Mode)) (best : Mode) (t : Bool) → 0 < block → asks s ≡ t → strongest_of block plan ≡ best
    → strongest_of block (if t then put s.0 s.1 plan else plan) ≡ (if block == s.0 then stronger s.1 best else best)
slot_by block s plan best true h a ih = strongest_of-put block s.0 s.1 plan ∙ ap (λ (v : Mode). if block == s.0 then stronger s.1 v else v) ih
slot_by block s plan best false h a ih = elim (eqb_tells block s.0) [
  | inl z ↦ let n : s.1 ≡ mode.Null = asks-not s (omega (arith, z.1)) a in rw (z.0, n) (ih ∙ sym (null-stronger best))
  | inr z ↦ rw z.0 ih
]

pub strongest_of-plan_of : (block : ℕ) (slots : List (ℕ × Mode)) → 0 < block → strongest_of block (plan_of slots) ≡ strongest_of block slots
strongest_of-plan_of block [] h = refl
strongest_of-plan_of block (s ∷ slots) h = slot_by block s (plan_of slots) (strongest_of block slots) (asks s) h refl (strongest_of-plan_of block slots h)

-- a rising list has a block at most once
pub strongest_of-above : (low block : ℕ) (plan : List (ℕ × Mode)) → RisesFrom low plan → block ≤ low → strongest_of block plan ≡ mode.Null
strongest_of-above low block [] h le = refl
strongest_of-above low block (e ∷ rest) h le = elim (eqb_tells block e.0) [
  | inl z ↦ absurd (omega (arith, z.1, h.0))
  | inr z ↦ rw z.0 (strongest_of-above e.0 block rest h.1 (omega (arith, h.0)))
]

pub strongest_of-rising : (low block : ℕ) (m : Mode) (plan : List (ℕ × Mode)) → RisesFrom low plan → Contains plan (block, m) → strongest_of block plan ≡ m
strongest_of-rising low block m [] h i = absurd (Contains-nil (block, m) i)
strongest_of-rising low block m (e ∷ rest) h i = elim (Contains-cases e (block, m) rest i) [
  | inl q ↦ let a : e.0 ≡ block = ap (λ (p : ℕ × Mode). p.0) q in let b : e.1 ≡ m = ap (λ (p : ℕ × Mode). p.1) q in
      let n : strongest_of block rest ≡ mode.Null = strongest_of-above e.0 block rest h.1 (omega arith) in
      let t : (block == e.0) ≡ true = eq-eqb block e.0 (sym a) in
      rw (t, n) (stronger-null e.1 ∙ b)
  | inr r ↦ let l : e.0 < block = rises_above e.0 rest (block, m) h.1 r in elim (eqb_tells block e.0) [
    | inl z ↦ absurd (omega (arith, z.1))
    | inr z ↦ rw z.0 (strongest_of-rising e.0 block m rest h.1 r)
  ]
]
