-- The laws of modes and plans, for the crates above.
use Rattle.std.proofs.Common.{◌≡◌, ℕ, ◌+◌, ◌<◌, ◌≤◌, length, List, [], ◌∷◌, Bool, true, false, ◌==◌, nat_lt, if◌then◌else◌, inl, inr, refl, sym, arith, ap, ◌∙◌, subst}
use Rattle.std.specs.List.{All, Contains}
use Rattle.std.proofs.lemmas.Bool.{ltb-true, ltb-false, eqb-true, eqb-false}
use Rattle.std.proofs.lemmas.List.Elements.{All-nil, All-cons, All-head, All-tail, All-contains}
use Rattle.ocr_acquire.specs.declared.Mode.{Mode}
use Rattle.ocr_acquire.specs.Mode.{rank_of, is_null}
use Rattle.ocr_acquire.specs.Plan.{RisesFrom, IsWellFormed, IsWanted, stronger, put, asks, plan_of, PlanLaw, OnlyPlanLaw, GivenLaw, LengthLaw}
use Rattle.ocr_acquire.proofs.Ascent.{rises_below, rises_above, same_from_members}
use Rattle.ocr_acquire.proofs.Ranks as rank
use Rattle.ocr_acquire.proofs.Ranks.{strongest_of}

-- a block that is put where it belongs leaves the list rising
rises_by : (low g : ℕ) (m : Mode) (e : ℕ × Mode) (rest : List (ℕ × Mode)) (t u : Bool) → nat_lt g e.0 ≡ t → (g == e.0) ≡ u
    → low < g → RisesFrom low (e ∷ rest) → (e.0 < g → RisesFrom e.0 (put g m rest))
    → RisesFrom low (if t then (g, m) ∷ e ∷ rest else if u then (g, stronger m e.1) ∷ rest else e ∷ put g m rest)
rises_by low g m e rest true u k l lt h ih = (lt, (ltb-true g e.0 k, h.1))
rises_by low g m e rest false true k l lt h ih = (lt, rises_below e.0 g rest (let q = eqb-true g e.0 l in omega arith) h.1)
rises_by low g m e rest false false k l lt h ih = (h.0, ih (let a = ltb-false g e.0 k in let b = eqb-false g e.0 l in omega (arith, a, b)))

pub put_rises : (low g : ℕ) (m : Mode) (plan : List (ℕ × Mode)) → low < g → RisesFrom low plan → RisesFrom low (put g m plan)
put_rises low g m [] lt h = (lt, tt)
put_rises low g m (e ∷ rest) lt h = rises_by low g m e rest (nat_lt g e.0) (g == e.0) refl refl lt h (λ above. put_rises e.0 g m rest above h.1)

abbrev IsUsed : ℕ × Mode → Type 0
IsUsed e = is_null e.1 ≡ false

stronger_used : (m n : Mode) → is_null m ≡ false → is_null n ≡ false → is_null (stronger m n) ≡ false
stronger_used m n h k = elim (rank.stronger-either m n) [ inl e ↦ ap is_null e ∙ h | inr e ↦ ap is_null e ∙ k ]

used_by : (g : ℕ) (m : Mode) (e : ℕ × Mode) (rest : List (ℕ × Mode)) (t u : Bool) → is_null m ≡ false → All IsUsed (e ∷ rest)
    → All IsUsed (put g m rest) → All IsUsed (if t then (g, m) ∷ e ∷ rest else if u then (g, stronger m e.1) ∷ rest else e ∷ put g m rest)
used_by g m e rest true u n h ih = All-cons IsUsed (g, m) (e ∷ rest) n h
used_by g m e rest false true n h ih =
    All-cons IsUsed (g, stronger m e.1) rest (stronger_used m e.1 n (All-head IsUsed e rest h)) (All-tail IsUsed e rest h)
used_by g m e rest false false n h ih = All-cons IsUsed e (put g m rest) (All-head IsUsed e rest h) ih

pub put_used : (g : ℕ) (m : Mode) (plan : List (ℕ × Mode)) → is_null m ≡ false → All IsUsed plan → All IsUsed (put g m plan)
put_used g m [] n h = All-cons IsUsed (g, m) [] n (All-nil IsUsed)
put_used g m (e ∷ rest) n h = used_by g m e rest (nat_lt g e.0) (g == e.0) n h (put_used g m rest n (All-tail IsUsed e rest h))

given_by : (s : ℕ × Mode) (plan : List (ℕ × Mode)) (t : Bool) → asks s ≡ t → IsWellFormed plan → IsWellFormed (if t then put s.0 s.1 plan else plan)
given_by s plan true a h = let b = rank.asks-tells s a in
    record { rising = put_rises 0 s.0 s.1 plan b.0 h.rising; used = put_used s.0 s.1 plan b.1 h.used }
given_by s plan false a h = h

pub given_law : GivenLaw
given_law [] = record { rising = tt; used = All-nil IsUsed }
given_law (s ∷ slots) = given_by s (plan_of slots) (asks s) refl (given_law slots)

-- a block stands in the plan in the mode that is strongest of its slots
to_wanted : (slots : List (ℕ × Mode)) (block : ℕ) (m : Mode) → Contains (plan_of slots) (block, m) → IsWanted slots block m
to_wanted slots block m i =
    let g = given_law slots in
    let above : 0 < block = rises_above 0 (plan_of slots) (block, m) g.rising i in
    let n : is_null m ≡ false = All-contains IsUsed (plan_of slots) (block, m) g.used i in
    let best : strongest_of block slots ≡ m =
    sym (rank.strongest_of-plan_of block slots above) ∙ rank.strongest_of-rising 0 block m (plan_of slots) g.rising i in
    record {
      named = λ z. absurd (omega (arith, z));
      used = n;
      asked = elim (rank.strongest_of-member block slots) [
        | inl z ↦ let r = rank.is_null-rank m n in let e : rank_of m ≡ 0 = ap rank_of (sym best ∙ z) in absurd (omega arith)
        | inr c ↦ subst (λ (v : Mode). Contains slots (block, v)) best c
      ];
      strongest = λ other c. rw (← best) (rank.strongest_of-bounds block other slots c);
    }

from_wanted : (slots : List (ℕ × Mode)) (block : ℕ) (m : Mode) → IsWanted slots block m → Contains (plan_of slots) (block, m)
from_wanted slots block m w =
    let above : 0 < block = omega (arith, w.named) in
    let r = rank.is_null-rank m w.used in
    let low : rank_of m ≤ rank_of (strongest_of block slots) = rank.strongest_of-bounds block m slots w.asked in
    let best : strongest_of block slots ≡ m = rank.rank_of-inj (strongest_of block slots) m (elim (rank.strongest_of-member block slots) [
      | inl z ↦ let e : rank_of (strongest_of block slots) ≡ 0 = ap rank_of z in absurd (omega arith)
      | inr c ↦ let high = w.strongest (strongest_of block slots) c in omega arith
    ]) in
    let here : strongest_of block (plan_of slots) ≡ m = rank.strongest_of-plan_of block slots above ∙ best in
    elim (rank.strongest_of-member block (plan_of slots)) [
      | inl z ↦ let e : rank_of m ≡ 0 = ap rank_of (sym here ∙ z) in absurd (omega arith)
      | inr c ↦ subst (λ (v : Mode). Contains (plan_of slots) (block, v)) here c
    ]

pub plan_law : PlanLaw
plan_law slots = let g = given_law slots in
    record { rising = g.rising; wanted = λ block m. (to_wanted slots block m, from_wanted slots block m) }

pub only_plan_law : OnlyPlanLaw
only_plan_law slots plan h = let g = plan_law slots in
    same_from_members 0 plan (plan_of slots) h.rising g.rising (λ e i. (g.wanted e.0 e.1).1 ((h.wanted e.0 e.1).0 i)) (λ e i. (h.wanted e.0 e.1).1 ((g.wanted e.0 e.1).0 i))

length_by : (g : ℕ) (m : Mode) (e : ℕ × Mode) (rest : List (ℕ × Mode)) (t u : Bool) → length (put g m rest) ≤ length rest + 1
    → length (if t then (g, m) ∷ e ∷ rest else if u then (g, stronger m e.1) ∷ rest else e ∷ put g m rest) ≤ length (e ∷ rest) + 1
length_by g m e rest true u ih = omega arith
length_by g m e rest false true ih = omega arith
length_by g m e rest false false ih = omega arith

length-put : (g : ℕ) (m : Mode) (plan : List (ℕ × Mode)) → length (put g m plan) ≤ length plan + 1
length-put g m [] = omega arith
length-put g m (e ∷ rest) = length_by g m e rest (nat_lt g e.0) (g == e.0) (length-put g m rest)

length_from : (s : ℕ × Mode) (plan : List (ℕ × Mode)) (n : ℕ) (t : Bool) → length plan ≤ n
    → length (if t then put s.0 s.1 plan else plan) ≤ n + 1
length_from s plan n true h = omega (arith, length-put s.0 s.1 plan)
length_from s plan n false h = omega arith

pub length_law : LengthLaw
length_law [] = omega arith
length_law (s ∷ slots) = let h = length_from s (plan_of slots) (length slots) (asks s) (length_law slots) in omega arith
