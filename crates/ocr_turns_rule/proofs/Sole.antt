-- While no other seat is out, the root's view tells the history whole.
use Rattle.std.proofs.Common.{◌≡◌, ◌≢◌, ℕ, zero, suc, ◌+◌, ◌<◌, ◌≤◌, ◌==◌, true, false, if◌then◌else◌, List, [], ◌∷◌, length, refl, ap, sym, ◌∙◌, subst, arith, eq-eqb, eqb-true}
use mathlib.Core.Option.{some, some-injective}
use mathlib.Core.Logic.{dite}
use native.Mathlib.Decide.{dec_le, ℕ_discrete}
use lib.ListN.{get_elem?}
use Rattle.ocr_turns_rule.specs.declared.view.View.{View}
use Rattle.ocr_turns_rule.specs.declared.view.Terms.{Terms}
use Rattle.ocr_turns_rule.specs.Meaning.{Meaning}
use Rattle.ocr_turns_rule.specs.Rule.{Fits, LogOf, LogsOf, Over, weighed}
use Rattle.ocr_turns_rule.specs.Sums.{weigh, weigh_all, below, one_at}
use Rattle.ocr_turns_rule.proofs.Totals.{below_ones}

module _ {E : Type 0} where
  weigh_here : (n : ℕ) (log : List (ℕ × E)) → 1 ≤ weigh (one_at n) log → (k : ℕ) × (e : E) × (get_elem? log k ≡ some (n, e))
  weigh_here n [] some_of = absurd (omega arith)
  weigh_here n (x ∷ xs) some_of = elim (n == x.0) as (λ b. (n == x.0) ≡ b → 1 ≤ (if b then 1 else 0) + weigh (one_at n) xs → (k : ℕ) × (e : E) × (get_elem? (x ∷ xs) k ≡ some (n, e))) [
    | true ↦ λ is h. (0, x.1, ap (λ (m : ℕ). some (m, x.1)) (sym (eqb-true n x.0 is)))
    | false ↦ λ is h. let r = weigh_here n xs (omega arith) in (suc r.0, r.1, r.2)
  ] refl some_of

  all_here : (n : ℕ) (logs : List (List (ℕ × E))) → 1 ≤ weigh_all (one_at n) logs → (j : ℕ) × (l : List (ℕ × E)) × (get_elem? logs j ≡ some l) × (1 ≤ weigh (one_at n) l)
  all_here n [] some_of = absurd (omega arith)
  all_here n (l ∷ ls) some_of = dite (dec_le 1 (weigh (one_at n) l))
      (λ y. (0, l, refl, y))
      (λ off. let none : ¬ (1 ≤ weigh (one_at n) l) = off in let r = all_here n ls (omega arith) in (suc r.0, r.1, r.2, r.3))

  same_items : (xs ys : List E) → length xs ≡ length ys → ((n : ℕ) → n < length xs → (e : E) × (get_elem? xs n ≡ some e) × (get_elem? ys n ≡ some e)) → xs ≡ ys
  same_items [] [] len each = refl
  same_items [] (y ∷ ys) len each = absurd (omega (arith, len))
  same_items (x ∷ xs) [] len each = absurd (omega (arith, len))
  same_items (x ∷ xs) (y ∷ ys) len each =
      let f = each 0 (omega arith) in let h : x ≡ y = some-injective x f.0 f.1 ∙ sym (some-injective y f.0 f.2) in
      let r = same_items xs ys (omega (arith, len)) (λ n lt. each (suc n) (omega arith)) in
      ap (λ (z : E). z ∷ xs) h ∙ ap (λ (l : List E). y ∷ l) r

pub below_here : (n m : ℕ) → n < m → 1 ≤ below (one_at n) m
below_here n zero lt = absurd (omega arith)
below_here n (suc m) lt = dite (ℕ_discrete n m)
    (λ e. let one : one_at n m ≡ 1 = rw (eq-eqb n m e) refl in omega arith)
    (λ ne. let other : n ≢ m = ne in let r = below_here n m (omega arith) in omega arith)

module _ {G E P N F : Type 0} where
  -- logs that are whole histories are of one
  pub same_logs : (v w : View G E P N F) (J K : List E) → v.log ≡ w.log → v.joined ≡ w.joined → LogOf J v.log → LogsOf J v.joined → ((f : ℕ → ℕ) → weighed f v ≡ below f (length J)) → LogOf K w.log → LogsOf K w.joined → ((f : ℕ → ℕ) → weighed f w ≡ below f (length K)) → J ≡ K
  same_logs v w J K logs joins f_log f_joined f_sole of_log of_joined of_sole =
      let g_sole : (h : ℕ → ℕ) → weighed h v ≡ below h (length K) = λ h. (λ i. weigh h (logs i) + weigh_all h (joins i)) ∙ of_sole h in
      let g_log : LogOf K v.log = subst (LogOf K) (sym logs) of_log in
      let g_joined : (j : ℕ) (l : List (ℕ × E)) → get_elem? v.joined j ≡ some l → LogOf K l = subst (λ (ls : List (List (ℕ × E))). (j : ℕ) (l : List (ℕ × E)) → get_elem? ls j ≡ some l → LogOf K l) (sym joins) of_joined in
      let all : length J ≡ length K = (let a = f_sole (λ _. 1) in let b = g_sole (λ _. 1) in omega (arith, below_ones (length J), below_ones (length K))) in
      same_items J K all (λ n lt.
      let some_of : 1 ≤ weighed (one_at n) v = (let a = f_sole (one_at n) in let b = below_here n (length J) lt in omega arith) in
      dite (dec_le 1 (weigh (one_at n) v.log))
      (λ y. let r = weigh_here n v.log y in (r.1, f_log r.0 n r.1 r.2, g_log r.0 n r.1 r.2))
      (λ off. let no_log : ¬ (1 ≤ weigh (one_at n) v.log) = off in
      let l = all_here n v.joined (omega arith) in let r = weigh_here n l.1 l.3 in
      (r.1, f_joined l.0 l.1 l.2 r.0 n r.1 r.2, g_joined l.0 l.1 l.2 r.0 n r.1 r.2)))

module _ {G E P N F : Type 0} (m : Meaning G E P N F) (t : Terms G) where
  pub same_histories : (v w : View G E P N F) (J K : List E) → v.log ≡ w.log → v.joined ≡ w.joined → v.root ≡ 1 → v.out ≡ 0 → w.root ≡ 1 → w.out ≡ 0 → Fits m t J v → Fits m t K w → J ≡ K
  same_histories v w J K logs joins is_root none root_w none_w f g = same_logs v w J K logs joins f.log f.joined (f.sole is_root none) g.log g.joined (g.sole root_w none_w)

  -- and what the root knows of an ended run is of the history that it fits
  pub same_end : (v w : View G E P N F) (J K : List E) → v.log ≡ w.log → v.joined ≡ w.joined → v.root ≡ 1 → v.out ≡ 0 → w.root ≡ 1 → w.out ≡ 0 → Fits m t J v → Over m t K w → J ≡ K
  same_end v w J K logs joins is_root none root_w none_w f g = same_logs v w J K logs joins f.log f.joined (f.sole is_root none) g.log g.joined (g.sole root_w none_w)

  pub same_history : (v : View G E P N F) (J K : List E) → v.root ≡ 1 → v.out ≡ 0 → Fits m t J v → Fits m t K v → J ≡ K
  same_history v J K is_root none f g = same_histories v v J K refl refl is_root none is_root none f g
