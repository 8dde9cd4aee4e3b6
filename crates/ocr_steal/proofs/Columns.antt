-- The passes of all hands, of which one column goes to its owner.
use Rattle.std.proofs.Common.{◌≡◌, ◌≢◌, ◌⊎◌, ◌∙◌, ◌<◌, ◌≤◌, ◌+◌, inl, inr, ⊎_elim, eq-eqb, ne_eqb, ℕ, zero, suc, List, [], ◌∷◌, ◌++◌, All, Vec, length, set, get_or, refl, sym, ap, subst, arith}
use Rattle.std.specs.Global.{Global}
use Rattle.std.specs.Prelude.{if◌then◌else◌}
use mathlib.Core.Logic.{dite}
use native.Mathlib.Decide.{ℕ_discrete}
use Rattle.std.specs.List.{sum_by}
use Rattle.std.proofs.lemmas.List.{get_or-map, get_or-set_other, get_or-set_same, length-map}
use Rattle.std.proofs.lemmas.List.Elements.{All-set}
use Rattle.std.proofs.lemmas.List.Sums.{sum_by-append, sum_by-cons, sum_by-set}
use Rattle.std.proofs.Math.Seq.{map-set_same}
use mathlib.Core.Option.{some, some-injective, some-ne-none}
use lib.ListN.{get_elem?}
use Rattle.crossbeam_deque.specs.Handles.{IsPassOf, view}
use Rattle.crossbeam_deque.proofs.Lists.{at_index}
use Rattle.ocr_steal.specs.declared.account.Account.{Account}
use Rattle.ocr_steal.specs.Deque.{joined}
use Rattle.ocr_steal.specs.Parts.{IsIdlePass, Known, Name, deque_of, deques_of_passes}
use Rattle.ocr_steal.specs.Rest.{count_if, Column, HasNothing, HasPart, IsRow, row_weight, rows_weight, taken_weight}
use Rattle.ocr_steal.proofs.Owners.{name_of_pass}
use Rattle.ocr_steal.proofs.Steps.{sum_by-snoc}

pub at_lt : {X : Type 0} (xs : List X) (k : ℕ) (x : X) → get_elem? xs k ≡ some x → k < length xs
at_lt [] k x at = absurd (some-ne-none x (sym at))
at_lt (y ∷ ys) zero x at = omega arith
at_lt (y ∷ ys) (suc k) x at = omega (arith, at_lt ys k x at)

pub row_long : (names : List Name) (ps : List Known) → deques_of_passes ps ≡ names → length ps ≡ length names
row_long names ps same = sym (length-map ps deque_of) ∙ ap (λ (l : List Name). length l) same

-- the row's pass of this deque
pub its_name : (names : List Name) (ps : List Known) (k : ℕ) (p : Known) (name : Name) → deques_of_passes ps ≡ names → get_elem? names k ≡ some name → p ≡ get_or ps k p → deque_of p ≡ name
its_name names ps k p name same at is =
    let within : k < length ps = omega (arith, at_lt names k name at, row_long names ps same) in
    let here : get_elem? (deques_of_passes ps) k ≡ some (deque_of p) =
    at_index (deques_of_passes ps) k (deque_of p) (omega (arith, within, length-map ps deque_of)) (ap deque_of is ∙ sym (get_or-map deque_of ps k p (deque_of p) within)) in
    some-injective (deque_of p) name (sym here ∙ ap (λ (l : List Name). get_elem? l k) same ∙ at)

pub its_pass : (names : List Name) (ps : List Known) (k : ℕ) (p : Known) (name : Name) → IsRow names ps → get_elem? names k ≡ some name → p ≡ get_or ps k p → IsPassOf name p
its_pass names ps k p name row at is =
    let within : k < length ps = omega (arith, at_lt names k name at, row_long names ps row.deques) in
    let same = its_name names ps k p name row.deques at is in
    let idle : IsIdlePass p = subst IsIdlePass (sym is) (row.idle k p within) in
    (ap (λ (d : Name). d.0) same, ap (λ (d : Name). d.1) same, idle.hand, idle.spare)

-- another pass of the same deque in its place
pub row_kept : (names : List Name) (ps qs : List Known) (k : ℕ) (p other : Known) (name : Name) → p ≡ get_or ps k p → qs ≡ set ps k other → deque_of p ≡ name → IsPassOf name other → IsRow names ps → IsRow names qs
row_kept names ps qs k p other name is after same of_it row = record {
  deques = ap deques_of_passes after ∙ map-set_same deque_of ps k other p (name_of_pass other name of_it ∙ sym same ∙ ap deque_of is) ∙ row.deques;
  idle = subst (All IsIdlePass) (sym after) (All-set IsIdlePass ps k other (record { hand = of_it.2; spare = of_it.3 }) row.idle);
}

pub row_loses : (f : ℕ → ℕ) (ps qs : List Known) (k : ℕ) (p other : Known) → k < length ps → p ≡ get_or ps k p → qs ≡ set ps k other → (view other).taken ≡ [] → row_weight f qs + taken_weight f (view p) ≡ row_weight f ps
row_loses f ps qs k p other lt is after none =
    let sums = sum_by-set (λ (x : Known). taken_weight f (view x)) ps k other p lt in
    let here : taken_weight f (view p) ≡ taken_weight f (view (get_or ps k p)) = ap (λ (x : Known). taken_weight f (view x)) is in
    let there : row_weight f qs ≡ row_weight f (set ps k other) = ap (row_weight f) after in
    let zero_weight : taken_weight f (view other) ≡ 0 = ap (sum_by (λ (x : ℕ × ℕ). f x.1)) none in
    omega (arith, sums, here, there, zero_weight)

pub rows_lose : (f : ℕ → ℕ) (rows : List (Vec Known Global)) (i : ℕ) (row new : Vec Known Global) (w : ℕ) → i < length rows → row ≡ get_or rows i row → row_weight f new.items + w ≡ row_weight f row.items
    → rows_weight f (set rows i new) + w ≡ rows_weight f rows
rows_lose f rows i row new w lt is less =
    let sums = sum_by-set (λ (r : Vec Known Global). row_weight f r.items) rows i new row lt in
    let here : row_weight f row.items ≡ row_weight f (get_or rows i row).items = ap (λ (r : Vec Known Global). row_weight f r.items) is in
    omega (arith, sums, here, less)

pub joined_weight : (f : ℕ → ℕ) (v u w : Account) → w ≡ joined v u → taken_weight f w ≡ taken_weight f v + taken_weight f u
joined_weight f v u w is = ap (taken_weight f) is ∙ sum_by-append (λ (x : ℕ × ℕ). f x.1) v.taken u.taken

pub other_column : (Q : Account → Type 0) (rows : List (Vec Known Global)) (i k j : ℕ) (row new : Vec Known Global) (other : Known) → i < length rows → row ≡ get_or rows i row → new.items ≡ set row.items k other → j ≢ k
    → Column Q j rows → Column Q j (set rows i new)
other_column Q rows i k j row new other lt is after apart column =
    let mine : (d : Known) → Q (view (get_or row.items j d)) = subst (λ (r : Vec Known Global). (d : Known) → Q (view (get_or r.items j d))) (sym is) (column i row lt) in
    All-set (λ (r : Vec Known Global). (d : Known) → Q (view (get_or r.items j d))) rows i new
    (λ d. subst (λ (p : Known). Q (view p)) (sym (ap (λ (l : List Known). get_or l j d) after ∙ get_or-set_other row.items k j other d apart)) (mine d)) column

pub cleared : (ps qs : List Known) (k : ℕ) (other : Known) → k < length ps → qs ≡ set ps k other → (view other).taken ≡ [] → (d : Known) → HasNothing (view (get_or qs k d))
cleared ps qs k other lt after none d =
    ap (λ (p : Known). (view p).taken) (ap (λ (l : List Known). get_or l k d) after ∙ get_or-set_same ps k other d lt) ∙ none

pub sum_moves : {X : Type 0} (g : X → ℕ) (whole rest : List X) (x : X) → whole ≡ rest ++ x ∷ [] → sum_by g whole ≡ sum_by g rest + g x
sum_moves g whole rest x is = ap (sum_by g) is ∙ sum_by-snoc g rest x

-- ---- at the end

row_nothing : (f : ℕ → ℕ) (ps : List Known) → ((k : ℕ) (d : Known) → k < length ps → HasNothing (view (get_or ps k d))) → row_weight f ps ≡ 0
row_nothing f [] none = refl
row_nothing f (p ∷ ps) none =
    let mine : taken_weight f (view p) ≡ 0 = ap (sum_by (λ (x : ℕ × ℕ). f x.1)) (none zero p (omega arith)) in
    let rest = row_nothing f ps (λ k d lt. none (suc k) d (omega arith)) in
    let sum = sum_by-cons (λ (x : Known). taken_weight f (view x)) p ps in
    omega (arith, mine, rest, sum)

pub rows_nothing : (f : ℕ → ℕ) (n : ℕ) (rows : List (Vec Known Global)) → All (λ (r : Vec Known Global). length r.items ≡ n) rows → ((k : ℕ) → k < n → Column HasNothing k rows) → rows_weight f rows ≡ 0
rows_nothing f n [] long none = refl
rows_nothing f n (r ∷ rs) long none =
    let own : length r.items ≡ n = long zero r (omega arith) in
    let mine = row_nothing f r.items (λ k d lt. none k (omega arith) zero r (omega arith) d) in
    let rest = rows_nothing f n rs (λ i x lt. long (suc i) x (omega arith)) (λ k within i x lt. none k within (suc i) x (omega arith)) in
    let sum = sum_by-cons (λ (x : Vec Known Global). row_weight f x.items) r rs in
    omega (arith, mine, rest, sum)

-- one number is counted once
pub count_same : (n : ℕ) → count_if n n ≡ 1
count_same n = ap (λ b. if b then 1 else 0) (eq-eqb n n refl)

pub count_other : (k n : ℕ) → k ≢ n → count_if k n ≡ 0
count_other k n apart = ap (λ b. if b then 1 else 0) (ne_eqb n k (λ e. apart (sym e)))

-- a column whose owner is there has its parts
pub still_there : {A B : Type 0} (n : ℕ) → 1 ≤ n → ((n ≡ 1) × A) ⊎ ((n ≡ 0) × B) → (n ≡ 1) × A
still_there n some_left state = ⊎_elim (λ x. x) (λ x. absurd (omega (arith, some_left, x.0))) state

pub gone : {A B : Type 0} (n : ℕ) → n ≡ 0 → ((n ≡ 1) × A) ⊎ ((n ≡ 0) × B) → B
gone n none state = ⊎_elim (λ x. absurd (omega (arith, none, x.0))) (λ x. x.1) state

pub column_after : (rows new : List (Vec Known Global)) (k number before rest : ℕ) → before ≡ rest + count_if k number → ((before ≡ 1) × Column HasPart k rows) ⊎ ((before ≡ 0) × Column HasNothing k rows)
    → Column HasNothing number new → (k ≢ number → (Column HasPart k rows → Column HasPart k new) × (Column HasNothing k rows → Column HasNothing k new))
    → ((rest ≡ 1) × Column HasPart k new) ⊎ ((rest ≡ 0) × Column HasNothing k new)
column_after rows new k number before rest counts state cleared_one others = dite (ℕ_discrete k number)
    (λ (e : k ≡ number).
    let one : count_if k number ≡ 1 = ap (λ n. count_if k n) (sym e) ∙ count_same k in
    let there = still_there before (omega (arith, counts, one)) state in
    inr (omega (arith, counts, one, there.0), subst (λ n. Column HasNothing n new) (sym e) cleared_one))
    (λ (apart : k ≢ number).
    let none = count_other k number apart in
    ⊎_elim (λ x. inl (omega (arith, counts, none, x.0), (others apart).0 x.1)) (λ x. inr (omega (arith, counts, none, x.0), (others apart).1 x.1)) state)
