-- Entries that are taken from the ends of logs which rise, the highest number first.
use Rattle.std.proofs.Common.{◌≡◌, ℕ, zero, suc, ◌+◌, ◌-◌, ◌<◌, ◌≤◌, List, [], ◌∷◌, ◌++◌, length, set, drop, reverse, refl, ap, sym, subst, ◌∙◌, arith, ⊎_elim}
use Rattle.std.proofs.Math.Seq.{drop-length}
use Rattle.std.proofs.lemmas.List.{length-append, reverse-append}
use mathlib.Core.Option.{some, some-injective, some-ne-none}
use mathlib.Core.Logic.{dite}
use native.Mathlib.Decide.{dec_le}
use lib.ListN.{get_elem?}
use Rattle.atomic_table.proofs.Lists.{at_last, at_longer, at_set, drop_at}
use Rattle.ocr_turns_rule.specs.Rule.{AllRise, LogOf, LogsOf}
use Rattle.ocr_turns_rule.specs.Sums.{Rises, weigh, weigh_all, below, one_at}
use Rattle.ocr_turns_rule.proofs.Totals.{append_none, at_less, one_else, weigh_at}
use Rattle.ocr_journal_merge.specs.Numbered.{AreByNumber, EndsAt, HasEnd}
use Rattle.ocr_journal_merge.proofs.Numbers.{in_any}
use Rattle.ocr_turns_rule.proofs.Sole.{below_here}

none_below : (n m : ℕ) → m ≤ n → below (one_at n) m ≡ 0
none_below n zero le = refl
none_below n (suc m) le = let z = one_else n m (λ e. omega arith) in let r = none_below n m (omega arith) in omega arith

pub below_last : (f : ℕ → ℕ) (n m : ℕ) → suc n ≡ m → below f m ≡ f n + below f n
below_last f n m is = ap (below f) (sym is)

there : {A : Type 0} (xs : List A) (k : ℕ) → k < length xs → (x : A) × (get_elem? xs k ≡ some x)
there [] k lt = absurd (omega arith)
there (x ∷ xs) zero lt = (x, refl)
there (x ∷ xs) (suc k) lt = there xs k (omega arith)

module _ {E : Type 0} where
  weigh_one : (f : ℕ → ℕ) (logs : List (List (ℕ × E))) (j : ℕ) (log : List (ℕ × E)) → get_elem? logs j ≡ some log → weigh f log ≤ weigh_all f logs
  weigh_one f [] j log at = absurd (some-ne-none log (sym at))
  weigh_one f (l ∷ ls) zero log at = let e = ap (weigh f) (some-injective l log at) in omega arith
  weigh_one f (l ∷ ls) (suc j) log at = let r = weigh_one f ls j log at in omega arith

  weigh_set : (f : ℕ → ℕ) (logs : List (List (ℕ × E))) (j : ℕ) (log new : List (ℕ × E)) → get_elem? logs j ≡ some log → weigh_all f (set logs j new) + weigh f log ≡ weigh_all f logs + weigh f new
  weigh_set f [] j log new at = absurd (some-ne-none log (sym at))
  weigh_set f (l ∷ ls) zero log new at = let e = ap (weigh f) (some-injective l log at) in omega arith
  weigh_set f (l ∷ ls) (suc j) log new at = let r = weigh_set f ls j log new at in omega arith

  -- the number of a rising log after which it has no greater one is its last
  last_ends : (log : List (ℕ × E)) (n k : ℕ) (e : E) → Rises log → get_elem? log k ≡ some (n, e) → ((m : ℕ) → n < m → weigh (one_at m) log ≡ 0) → EndsAt n log
  last_ends log n k e rises at none =
      let lt = at_less log k (n, e) at in
      dite (dec_le (length log) (suc k))
      (λ le. (e, subst (λ (i : ℕ). get_elem? log i ≡ some (n, e)) (omega arith) at))
      (λ no.
      let next = there log (suc k) (omega arith) in let x = next.0 in
      let more = rises k n x.0 e x.1 at next.1 in
      let z = none x.0 more in let w = weigh_at log (suc k) x.0 x.1 next.1 in absurd (omega arith))

  -- THE LOGS that hold each number below m once have one that ends with the greatest
  pub end_there : (logs : List (List (ℕ × E))) (n m : ℕ) → suc n ≡ m → AllRise logs → ((f : ℕ → ℕ) → weigh_all f logs ≡ below f m) → HasEnd n logs
  end_there logs n m is rise once =
      let found = in_any logs n (let o = once (one_at n) in let b = below_here n m (omega arith) in omega arith) in
      let e = found.0 in let j = found.1.0 in let log = found.1.1 in let at = found.1.2 in (
        j,
        log,
        at,
        last_ends log n found.1.3.0 e (rise j log at) found.1.3.1
            (λ k more. let w = weigh_one (one_at k) logs j log at in let o = once (one_at k) in let z = none_below k m (omega arith) in omega arith),
      )

  -- the number of a log's end is that of its last entry
  pub ends_with : (log front : List (ℕ × E)) (x : ℕ × E) (n : ℕ) → log ≡ front ++ x ∷ [] → EndsAt n log → n ≡ x.0
  ends_with log front x n is ends =
      let many : length front ≡ length log - 1 = (let a = ap length is in let b = length-append front (x ∷ []) in omega arith) in
      let last : get_elem? log (length log - 1) ≡ some x = subst (λ (l : List (ℕ × E)). get_elem? l (length log - 1) ≡ some x) (sym is) (at_last front x (length log - 1) many) in
      ap (λ y. y.0) (some-injective (n, ends.0) x (sym ends.1 ∙ last))

  -- what stands before the rest of a log
  in_front : (log front rest : List (ℕ × E)) (k : ℕ) (x : ℕ × E) → log ≡ front ++ rest → get_elem? front k ≡ some x → get_elem? log k ≡ some x
  in_front log front rest k x is at = subst (λ (l : List (ℕ × E)). get_elem? l k ≡ some x) (sym is) (at_longer front rest k x at)

  pub front_list : (list : List E) (log front rest : List (ℕ × E)) → log ≡ front ++ rest → LogOf list log → LogOf list front
  front_list list log front rest is of k n e at = of k n e (in_front log front rest k (n, e) is at)

  front_rises : (log front rest : List (ℕ × E)) → log ≡ front ++ rest → Rises log → Rises front
  front_rises log front rest is rises i n m a b at next =
      rises i n m a b (in_front log front rest i (n, a) is at) (in_front log front rest (suc i) (m, b) is next)

  pub last_stands : (log before front rest : List (ℕ × E)) (x : ℕ × E) → log ≡ before ++ rest → before ≡ front ++ x ∷ [] → get_elem? log (length front) ≡ some x
  last_stands log before front rest x is last =
      in_front log before rest (length front) x is (in_front before (front ++ x ∷ []) [] (length front) x (last ∙ sym (append_none (front ++ x ∷ []))) (at_last front x (length front) refl))

  set_all : (P : List (ℕ × E) → Type 0) (logs : List (List (ℕ × E))) (j : ℕ) (new : List (ℕ × E)) → ((i : ℕ) (l : List (ℕ × E)) → get_elem? logs i ≡ some l → P l) → P new → (i : ℕ) (l : List (ℕ × E)) → get_elem? (set logs j new) i ≡ some l → P l
  set_all P logs j new each here i l at = ⊎_elim (λ h. subst P h.1 here) (λ h. each i l h.1) (at_set logs j i new l at)

  -- one more is taken
  pub taken_more : (list taken : List E) (n m : ℕ) (e : E) → suc n ≡ m → get_elem? list n ≡ some e → reverse taken ≡ drop m list → reverse (taken ++ e ∷ []) ≡ drop n list
  taken_more list taken n m e is at so_far =
      reverse-append taken (e ∷ []) ∙ (ap (λ (l : List E). e ∷ l) (so_far ∙ ap (λ k. drop k list) (sym is)) ∙ sym (drop_at list n e at))

  -- the list's entries below `left` stand in the logs, and the others have been taken, the last first
  pub record Remain (left : ℕ) (list : List E) (logs : List (List (ℕ × E))) (out : List E) : Type 0 where
    pub of : LogsOf list logs
    pub once : (f : ℕ → ℕ) → weigh_all f logs ≡ below f left
    pub taken : reverse out ≡ drop left list

  pub all_remain : (list : List E) (logs : List (List (ℕ × E))) (count : ℕ) → AreByNumber logs list → length list ≡ count → Remain count list logs []
  all_remain list logs count is len = record {
    of = is.of;
    once = λ f. is.once f ∙ ap (below f) len;
    taken = sym (ap (λ k. drop k list) (sym len) ∙ drop-length list);
  }

  -- where nothing is left, the list was taken
  pub all_taken : (left : ℕ) (list : List E) (logs : List (List (ℕ × E))) (out : List E) → Remain left list logs out → left ≡ 0 → reverse out ≡ list
  all_taken left list logs out is none = is.taken ∙ ap (λ n. drop n list) none

  -- THE STEP: one log keeps its front, and the numbers of what it loses are the next down from `left`
  pub remain_less : (list : List E) (logs : List (List (ℕ × E))) (j : ℕ) (log front rest : List (ℕ × E)) (left less : ℕ) (taken more : List E) → Remain left list logs taken → get_elem? logs j ≡ some log → log ≡ front ++ rest → ((f : ℕ → ℕ) → weigh f log + below f less ≡ weigh f front + below f left) → (LogOf list log → reverse taken ≡ drop left list → reverse more ≡ drop less list) → Remain less list (set logs j front) more
  remain_less list logs j log front rest left less taken more old at is numbers takes = record {
    of = set_all (LogOf list) logs j front old.of (front_list list log front rest is (old.of j log at));
    once = λ f. let a = weigh_set f logs j log front at in let b = old.once f in let d = numbers f in omega arith;
    taken = takes (old.of j log at) old.taken;
  }

  pub rise_less : (logs : List (List (ℕ × E))) (j : ℕ) (log front rest : List (ℕ × E)) → AllRise logs → get_elem? logs j ≡ some log → log ≡ front ++ rest → AllRise (set logs j front)
  rise_less logs j log front rest rise at is = set_all Rises logs j front rise (front_rises log front rest is (rise j log at))
