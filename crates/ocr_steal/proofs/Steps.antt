-- Each step keeps the rule of a deque.
use Rattle.std.proofs.Common.{◌≡◌, ◌≢◌, ◌≤◌, ◌<◌, ◌+◌, ◌-◌, ◌∙◌, ℕ, zero, suc, List, [], ◌∷◌, ◌++◌, length, set, refl, sym, ap, ap₂, subst, ⊎_elim, append_assoc, arith}
use Rattle.std.specs.List.{sum_by}
use Rattle.std.proofs.lemmas.List.Sums.{sum_by-append, sum_by-cons}
use mathlib.Core.Option.{some, some-injective, some-ne-none}
use lib.ListN.{get_elem?}
use Rattle.crossbeam_deque.specs.Tasks.{Admits, FindsFew, Finds, Forks, Merges, Pushes, Takes}
use Rattle.crossbeam_deque.proofs.Lists.{at_set, at_snoc}
use Rattle.ocr_steal.specs.declared.account.Account.{Account}
use Rattle.ocr_steal.specs.Deque.{IsFound, IsState, IsDequeState, TakesFirst, all_parts, joined, newcomer, numbered, pushed_by}

-- ---- one pass changes

pub sum_by-snoc : {X : Type 0} (f : X → ℕ) (xs : List X) (x : X) → sum_by f (xs ++ x ∷ []) ≡ sum_by f xs + f x
sum_by-snoc f xs x = let one : 0 + f x ≡ f x = omega arith in sum_by-append f xs (x ∷ []) ∙ ap (λ n. sum_by f xs + n) one

total_set : (f : Account → ℕ) (ps : List Account) (k : ℕ) (v w : Account) → get_elem? ps k ≡ some v → sum_by f (set ps k w) + f v ≡ sum_by f ps + f w
total_set f [] k v w e = absurd (some-ne-none v (sym e))
total_set f (x ∷ xs) zero v w e =
    let same : f x ≡ f v = ap f (some-injective x v e) in
    let before = sum_by-cons f x xs in
    let after : sum_by f (set (x ∷ xs) zero w) ≡ f w + sum_by f xs = sum_by-cons f w xs in omega arith
total_set f (x ∷ xs) (suc k) v w e =
    let rest = total_set f xs k v w e in
    let before = sum_by-cons f x xs in
    let after : sum_by f (set (x ∷ xs) (suc k) w) ≡ f x + sum_by f (set xs k w) = sum_by-cons f x (set xs k w) in omega arith

head_set : (ps : List Account) (k : ℕ) (v w : Account) → get_elem? ps k ≡ some v → w.pushed ≡ v.pushed → pushed_by (set ps k w) ≡ pushed_by ps
head_set [] k v w e same = absurd (some-ne-none v (sym e))
head_set (x ∷ xs) zero v w e same = same ∙ ap (λ (p : Account). p.pushed) (sym (some-injective x v e))
head_set (x ∷ xs) (suc k) v w e same = refl

pub head_here : (ps : List Account) (v w : Account) → get_elem? ps 0 ≡ some v → (pushed_by ps ≡ v.pushed) × (pushed_by (set ps 0 w) ≡ w.pushed)
head_here [] v w e = absurd (some-ne-none v (sym e))
head_here (x ∷ xs) v w e = (ap (λ (p : Account). p.pushed) (some-injective x v e), refl)

head_other : (ps : List Account) (k : ℕ) (w : Account) → (k ≡ 0 → ⊥) → pushed_by (set ps k w) ≡ pushed_by ps
head_other [] k w other = refl
head_other (x ∷ xs) zero w other = absurd (other refl)
head_other (x ∷ xs) (suc k) w other = refl

head_snoc : (ps : List Account) (w : Account) → w.pushed ≡ [] → pushed_by (ps ++ w ∷ []) ≡ pushed_by ps
head_snoc [] w none = none
head_snoc (x ∷ xs) w none = refl

abbrev pub AreIdle : List Account → Type 0
AreIdle ps = (k : ℕ) (p : Account) → get_elem? ps k ≡ some p → p.parts ≡ 0 → p.taken ≡ []

idle_set : (ps : List Account) (k : ℕ) (w : Account) → (w.parts ≡ 0 → w.taken ≡ []) → AreIdle ps → AreIdle (set ps k w)
idle_set ps k w mine idle j u at none =
    ⊎_elim (λ (x : (j ≡ k) × (w ≡ u)). subst (λ (y : Account). y.parts ≡ 0 → y.taken ≡ []) x.1 mine none)
    (λ (x : (j ≢ k) × (get_elem? ps j ≡ some u)). idle j u x.1 none) (at_set ps k j w u at)

idle_snoc : (ps : List Account) (w : Account) → w.taken ≡ [] → AreIdle ps → AreIdle (ps ++ w ∷ [])
idle_snoc ps w mine idle j u at none =
    ⊎_elim (λ x. idle j u x none) (λ (is : w ≡ u). ap (λ (y : Account). y.taken) (sym is) ∙ mine) (at_snoc ps w u j at)

numbered-append : (n : ℕ) (xs ys : List ℕ) → numbered n (xs ++ ys) ≡ numbered n xs ++ numbered (n + length xs) ys
numbered-append n [] ys = ap (λ k. numbered k ys) (omega arith)
numbered-append n (x ∷ xs) ys =
    ap (λ l. (n, x) ∷ l) (numbered-append (suc n) xs ys ∙ ap (λ k. numbered (suc n) xs ++ numbered k ys) (omega arith))

numbered-from : (xs ys : List ℕ) → numbered 0 (xs ++ ys) ≡ numbered 0 xs ++ numbered (length xs) ys
numbered-from xs ys = numbered-append 0 xs ys ∙ ap (λ k. numbered 0 xs ++ numbered k ys) (omega arith)

-- ---- passes come, are split and joined

pub begins : IsDequeState [] (newcomer all_parts ∷ [])
begins = (
  [],
  record {
    order = refl;
    once = λ f. refl;
    parts = omega arith;
    idle = idle_snoc [] (newcomer all_parts) refl (λ k p at. absurd (some-ne-none p (sym at)));
  },
)

pub admits : Admits IsDequeState (newcomer 0)
admits items ps h = (
  h.0,
  record {
    order = head_snoc ps (newcomer 0) refl ∙ h.1.order;
    once = λ f. let sum = sum_by-snoc (λ (p : Account). sum_by f p.taken) ps (newcomer 0) in let was = h.1.once f in omega arith;
    parts = let sum = sum_by-snoc (λ (p : Account). p.parts) ps (newcomer 0) in let was = h.1.parts in omega arith;
    idle = idle_snoc ps (newcomer 0) refl h.1.idle;
  },
)

pub forks : (port : ℕ) (v : Account) → 1 < v.parts → Forks IsDequeState port v (record v { parts = v.parts - 1 }) (newcomer 1)
forks port v some_left items ps h at =
    let left : Account = record v { parts = v.parts - 1 } in
    let new : Account = newcomer 1 in (
      h.0,
      record {
        order = head_snoc (set ps port left) new refl ∙ head_set ps port v left at refl ∙ h.1.order;
        once = λ f.
            let sum = sum_by-snoc (λ (p : Account). sum_by f p.taken) (set ps port left) new in
            let step = total_set (λ (p : Account). sum_by f p.taken) ps port v left at in
            let was = h.1.once f in omega arith;
        parts =
            let sum = sum_by-snoc (λ (p : Account). p.parts) (set ps port left) new in
            let step = total_set (λ (p : Account). p.parts) ps port v left at in
            let was = h.1.parts in omega arith;
        idle = idle_snoc (set ps port left) new refl (idle_set ps port left (λ none. absurd (omega arith)) h.1.idle);
      },
    )

pub merges : (port : ℕ) (v : Account) (other : ℕ) (u : Account) → port ≡ 0 → Merges IsDequeState port v other u (joined v u) (newcomer 0)
merges port v other u owner items ps h at apart at' =
    let both : Account = joined v u in
    let none : Account = newcomer 0 in
    let was : get_elem? ps other ≡ some u = ⊎_elim (λ x. absurd (apart x.0)) (λ x. x.1) (at_set ps port other both u at') in
    let one : List Account = set ps port both in (
      h.0,
      record {
        order = head_other one other none (λ e. apart (e ∙ sym owner)) ∙ head_set ps port v both at refl ∙ h.1.order;
        once = λ f.
            let first = total_set (λ (p : Account). sum_by f p.taken) ps port v both at in
            let second = total_set (λ (p : Account). sum_by f p.taken) one other u none at' in
            let sum = sum_by-append f v.taken u.taken in
            let old = h.1.once f in omega arith;
        parts =
            let first = total_set (λ (p : Account). p.parts) ps port v both at in
            let second = total_set (λ (p : Account). p.parts) one other u none at' in
            let old = h.1.parts in omega arith;
        idle = idle_set one other none (λ _. refl)
            (idle_set ps port both (λ no. ap₂ (λ xs ys. xs ++ ys) (h.1.idle port v at (omega arith)) (h.1.idle other u was (omega arith))) h.1.idle);
      },
    )

-- ---- tasks come and go

pub pushes : (port : ℕ) (v : Account) (xs : List ℕ) → port ≡ 0 → Pushes IsDequeState port v xs (λ w. w ≡ record v { pushed = v.pushed ++ xs })
pushes port v xs owner items ps h at =
    let w : Account = record v { pushed = v.pushed ++ xs } in
    let here = head_here ps v w (subst (λ k. get_elem? ps k ≡ some v) owner at) in (
      w,
      (
        h.0,
        record {
          order = ap (λ k. pushed_by (set ps k w)) owner ∙ here.1 ∙ ap (λ l. l ++ xs) (sym here.0 ∙ h.1.order) ∙ append_assoc h.0 items xs;
          once = λ f.
              let step = total_set (λ (p : Account). sum_by f p.taken) ps port v w at in
              let old = h.1.once f in omega arith;
          parts =
              let step = total_set (λ (p : Account). p.parts) ps port v w at in
              let old = h.1.parts in omega arith;
          idle = idle_set ps port w (λ no. h.1.idle port v at no) h.1.idle;
        },
      ),
      refl,
    )

pub takes : (port : ℕ) (v : Account) (most : ℕ) → 0 < v.parts → Takes IsDequeState port v most (TakesFirst port v)
takes port v most some_part xs items ps some_xs few h at =
    let w : Account = record v { taken = v.taken ++ numbered (length h.0) xs } in (
      w,
      (
        h.0 ++ xs,
        record {
          order = head_set ps port v w at refl ∙ h.1.order ∙ sym (append_assoc h.0 xs items);
          once = λ f.
              let step = total_set (λ (p : Account). sum_by f p.taken) ps port v w at in
              let mine = sum_by-append f v.taken (numbered (length h.0) xs) in
              let all = ap (sum_by f) (numbered-from h.0 xs) ∙ sum_by-append f (numbered 0 h.0) (numbered (length h.0) xs) in
              let old = h.1.once f in omega arith;
          parts =
              let step = total_set (λ (p : Account). p.parts) ps port v w at in
              let old = h.1.parts in omega arith;
          idle = idle_set ps port w (λ no. absurd (omega arith)) h.1.idle;
        },
      ),
      record { rest = items; found = record { gone = h.0; passes = ps; state = h.1; knows = at }; then_knows = refl },
    )

pub finds : (port : ℕ) (v : Account) → Finds IsDequeState port v (IsFound port [] v)
finds port v ps h at = record { gone = h.0; passes = ps; state = h.1; knows = at }

pub no_items : {X : Type 0} (items : List X) → length items ≤ 0 → items ≡ []
no_items [] few = refl
no_items (x ∷ xs) few = absurd (omega arith)

pub finds_none : (most port : ℕ) (v : Account) → most ≡ 0 → FindsFew IsDequeState most port v ((at : ℕ) × IsFound at [] v)
finds_none most port v zero_most items ps few h at =
    let none = no_items items (omega arith) in
    (port, record { gone = h.0; passes = ps; state = subst (λ l. IsState h.0 l ps) none h.1; knows = at })

-- the owner's pass has the number 0
pub takes_own : (port : ℕ) (v : Account) → port ≡ 0 → 0 < v.parts → Takes IsDequeState port v 1 (TakesFirst 0 v)
takes_own port v owner some_part =
    subst (λ (k : ℕ). Takes IsDequeState port v 1 (TakesFirst k v)) owner (takes port v 1 some_part)

pub takes_other : (port : ℕ) (v : Account) → 0 < v.parts → Takes IsDequeState port v 1 (λ xs w. (at : ℕ) × TakesFirst at v xs w)
takes_other port v some_part xs items ps some_xs few h at =
    let taken = takes port v 1 some_part xs items ps some_xs few h at in
    (taken.0, taken.1, (port, taken.2))
