-- What a step does to the units and to the live word.
use Rattle.std.proofs.Common.{◌≡◌, ◌≢◌, ℕ, zero, suc, ◌+◌, ◌*◌, ◌<◌, ◌≤◌, ⊎_elim, Bool, true, false, if◌then◌else◌, List, [], ◌∷◌, ◌++◌, length, refl, ap, sym, subst, ◌∙◌, arith, get_or-set_same, get_or-set_other, None, Some, Option}
use Rattle.std.specs.Prelude.{slice_index, slice_set, MatchOption}
use mathlib.Core.Option as maybe
use mathlib.Core.Option.{some}
use mathlib.Core.Logic.{dite}
use native.Mathlib.Decide.{ℕ_discrete, dec_le}
use lib.ListN.{get_elem?}
use Rattle.std.specs.Option.{option_or}
use Rattle.atomic_table.specs.Table.{State}
use Rattle.atomic_table.proofs.Lists.{at_set}
use Rattle.ocr_base.specs.Mail.{tally, named, without, Has}
use Rattle.ocr_turns_rule.specs.Counts.{is_true, state_at, READY, UNMADE}
use Rattle.ocr_turns_rule.specs.Meaning.{Meaning}
use Rattle.ocr_turns_rule.specs.Debts.{owed_slots, both_debts, without_all}
use Rattle.ocr_turns_rule.specs.Rule.{Alive, Kept, Lively, OPEN}
use Rattle.ocr_turns_rule.specs.Steps.{Deed, delivered, freed, needed, logged}
use Rattle.ocr_turns_rule.specs.Sums.{total, weigh, sum_of, up_to, is_free, one_at}
use Rattle.ocr_turns_rule.specs.Units.{one_each, claim_count, units, ready_count, MOST_RAISED}
use Rattle.ocr_turns_rule.specs.declared.view.View.{View}
use Rattle.ocr_turns_rule.specs.declared.view.Terms.{Terms}
use Rattle.ocr_turns_rule.proofs.Totals.{total_bound, total_set, total_one, tally_append, drop_tally, has_tally, sum_append, weigh_append, one_here, one_else, up_to_none}
use Rattle.ocr_turns_rule.proofs.Same.{after}

-- SUMS UP TO A NUMBER
pub up_to_same : (f g : ℕ → ℕ) (n : ℕ) → ((k : ℕ) → 1 ≤ k → k ≤ n → f k ≡ g k) → up_to f n ≡ up_to g n
up_to_same f g zero same = refl
up_to_same f g (suc n) same = let a = same (suc n) (omega arith) (omega arith) in let r = up_to_same f g n (λ k lo hi. same k lo (omega arith)) in omega arith

-- another value at one of them
pub up_to_set : (f g : ℕ → ℕ) (k n : ℕ) → 1 ≤ k → k ≤ n → ((j : ℕ) → 1 ≤ j → j ≢ k → f j ≡ g j) → up_to f n + g k ≡ up_to g n + f k
up_to_set f g k zero lo hi other = absurd (omega arith)
up_to_set f g k (suc n) lo hi other = dite (ℕ_discrete k (suc n))
    (λ e. let a = ap f e in let b = ap g e in let r = up_to_same f g n (λ j one small. other j one (λ h. omega arith)) in omega arith)
    (λ ne. let a = other (suc n) (omega arith) (λ h. ne (sym h)) in let r = up_to_set f g k n lo (omega arith) other in omega arith)

-- THE READY EDTS
module _ (ws us : List ℕ) (slots limit : ℕ) where
  pub ready_same : ((i : ℕ) → 24 + slots ≤ i → slice_index us i ≡ slice_index ws i) → ready_count us slots limit ≡ ready_count ws slots limit
  ready_same same = up_to_same (λ n. is_free (slice_index us (state_at slots n))) (λ n. is_free (slice_index ws (state_at slots n))) limit
      (λ k _ _. ap is_free (same (state_at slots k) (omega arith)))

pub ready_put : (ws : List ℕ) (slots limit i x : ℕ) → ((n : ℕ) → 1 ≤ n → n ≤ limit → i ≢ state_at slots n) → ready_count (slice_set ws i x) slots limit ≡ ready_count ws slots limit
ready_put ws slots limit i x apart = up_to_same (λ n. is_free (slice_index (slice_set ws i x) (state_at slots n))) (λ n. is_free (slice_index ws (state_at slots n))) limit
    (λ k lo hi. ap is_free (get_or-set_other ws i (state_at slots k) x 0 (λ e. apart k lo hi (sym e))))

-- the word of one of them is another
pub ready_set : (ws : List ℕ) (slots limit n x : ℕ) → 1 ≤ n → n ≤ limit → state_at slots n < length ws → ready_count (slice_set ws (state_at slots n) x) slots limit + is_free (slice_index ws (state_at slots n)) ≡ ready_count ws slots limit + is_free x
ready_set ws slots limit n x lo hi within =
    let here = ap is_free (get_or-set_same ws (state_at slots n) x 0 within) in
    let sum = up_to_set (λ k. is_free (slice_index (slice_set ws (state_at slots n) x) (state_at slots k))) (λ k. is_free (slice_index ws (state_at slots k))) n limit lo hi
    (λ j one ne. ap is_free (get_or-set_other ws (state_at slots n) (state_at slots j) x 0 (λ h. absurd (ne (omega arith))))) in omega arith

-- one alone is ready
pub one_ready : (ws : List ℕ) (slots limit n : ℕ) → 1 ≤ n → n ≤ limit → slice_index ws (state_at slots n) ≡ READY → ((k : ℕ) → 1 ≤ k → k ≤ limit → k ≢ n → slice_index ws (state_at slots k) ≡ UNMADE) → ready_count ws slots limit ≡ 1
one_ready ws slots limit n lo hi here other =
    up_to_same (λ k. is_free (slice_index ws (state_at slots k))) (one_at n) limit
    (λ k la ha. dite (ℕ_discrete k n)
    (λ e. ap (λ j. is_free (slice_index ws (state_at slots j))) e ∙ (ap is_free here ∙ sym (ap (one_at n) e ∙ one_here n)))
    (λ ne. ap is_free (other k la ha ne) ∙ sym (one_else n k (λ h. ne (sym h)))))
    ∙ up_to_only n limit lo hi
  where
    up_to_only : (n limit : ℕ) → 1 ≤ n → n ≤ limit → up_to (one_at n) limit ≡ 1
    up_to_only n zero lo hi = absurd (omega arith)
    up_to_only n (suc limit) lo hi = dite (ℕ_discrete n (suc limit))
        (λ e. let a : one_at n (suc limit) ≡ 1 = ap (one_at n) (sym e) ∙ one_here n in let b = up_to_none n limit (omega arith) in omega arith)
        (λ ne. let a = one_else n (suc limit) ne in let r = up_to_only n limit lo (omega arith) in omega arith)

-- AN ENTRY
-- the claims that it ends
pub claims_left : (test : ℕ → Bool) (ns : List ℕ) → sum_of one_each (without_all test ns) + sum_of (λ n. is_true (test n)) ns ≡ sum_of one_each ns
claims_left test [] = refl
claims_left test (n ∷ ns) = let r = claims_left test ns in elim (test n) as (λ b. sum_of one_each (if b then without_all test ns else n ∷ without_all test ns) + (is_true b + sum_of (λ k. is_true (test k)) ns) ≡ 1 + sum_of one_each ns) [
  | true ↦ omega arith
  | false ↦ omega arith
]

pub named_units : {N : Type 0} (n i : ℕ) (ms : List N) → tally one_each (named n i ms) ≡ length ms
named_units n i [] = refl
named_units n i (x ∷ xs) = let r = named_units n (suc i) xs in omega arith

pub left_units : {N : Type 0} (d : Option (ℕ × ℕ)) (xs : List (ℕ × ℕ × N)) → Has d xs → tally one_each (without d xs) + delivered d ≡ tally one_each xs
left_units None xs has = omega arith
left_units (Some nm) xs has = drop_tally one_each nm xs (has_tally xs nm has.0 has.1 has.2)

module _ {G E P N F : Type 0} where
  -- an entry leaves as many units as there were
  pub logged_units : (v : View G E P N F) (n : ℕ) (d : Deed E P N F) → Has d.delivers v.owed → d.debts.put ≡ [] → needed d ≤ v.spares + freed v d → units (logged v n d) ≡ units v
  logged_units v n d has put may =
      let a = left_units d.delivers v.owed has in let b = named_units n 0 d.sends in let c = tally_append one_each (without d.delivers v.owed) (named n 0 d.sends) in
      let e = tally_append one_each v.debts.unput d.debts.unput in let f = tally_append one_each v.debts.put d.debts.put in let g = ap (tally one_each) put in
      let h = weigh_append one_each v.debts.made d.debts.made in let i = sum_append one_each v.debts.resumes d.debts.resumes in
      let j = claims_left d.leaves v.claims in omega arith

  -- A SEAT COMES HOME
  pub gathered_units : (v w both : View G E P N F) → both.spares ≡ v.spares + w.spares → both.owed ≡ v.owed ++ w.owed → both.debts ≡ both_debts v.debts w.debts → both.claims ≡ v.claims ++ w.claims → units both ≡ units v + units w
  gathered_units v w both spares owed debts claims =
      let a = ap (tally one_each) owed in let b = tally_append one_each v.owed w.owed in
      let c = ap (λ d. owed_slots one_each d + (weigh one_each d.made + sum_of one_each d.resumes)) debts in
      let d = tally_append one_each v.debts.unput w.debts.unput in let e = tally_append one_each v.debts.put w.debts.put in
      let f = weigh_append one_each v.debts.made w.debts.made in let g = sum_append one_each v.debts.resumes w.debts.resumes in
      let h = ap (sum_of one_each) claims in let i = sum_append one_each v.claims w.claims in omega arith

-- A STEP OF ONE SEAT
module _ {G E P N F : Type 0} (m : Meaning G E P N F) (t : Terms G) (J : List E) (s : State (Option P) (View G E P N F)) (a : Alive m t J s) (id : ℕ) (v w : View G E P N F) (at : get_elem? s.views id ≡ some v) where
  -- a seat that has a unit: nobody knows the live word as 0
  pub some_live : 1 ≤ units v → 1 ≤ slice_index s.words 16
  some_live some_unit = let one = total_one (λ (u : View G E P N F). units u) s.views id v at in let word = a.word in omega arith

  never_quiet : (o : Option ℕ) (x y : ℕ) (Q R : ℕ → Type 0) → 1 ≤ x → MatchOption o (Unit {0}) (λ n. (x ≡ 0) × Q n) → MatchOption o (Unit {0}) (λ n. (y ≡ 0) × R n)
  never_quiet None x y Q R more h = tt
  never_quiet (Some n) x y Q R more h = let z = h.0 in absurd (omega arith)

  -- how another view stands to a live word that was not 0
  pub others_live : (K : List E) (x : ℕ) (u : View G E P N F) → 1 ≤ slice_index s.words 16 → Lively m t J (slice_index s.words 16) u → Lively m t K x u
  others_live K x u more old = record {
    raised = old.raised;
    gained = old.gained;
    stop = old.stop;
    still = λ z. let none = old.still z in absurd (omega arith);
    quiet = never_quiet u.quiet (slice_index s.words 16) x (λ n. length J ≡ n) (λ n. length K ≡ n) more old.quiet;
    spent = old.spent;
  }

  -- the table after the step
  module _ (K : List E) (ws : List ℕ) (hs : List (maybe.Option (Option P))) (same_homes : length hs ≡ length s.homes)
      (sum : slice_index ws 16 + (units v + ready_count s.words (length s.homes) t.limit) ≡ slice_index s.words 16 + (units w + ready_count ws (length s.homes) t.limit))
      (most : slice_index ws 16 + (v.raised + v.gained) ≤ slice_index s.words 16 + (w.raised + w.gained))
      (stopped : OPEN ≤ slice_index ws 0 → 1 ≤ total (λ (u : View G E P N F). u.ended) (slice_set s.views id w))
      (mine : Lively m t K (slice_index ws 16) w) (others : (i : ℕ) (u : View G E P N F) → i ≢ id → get_elem? s.views i ≡ some u → Lively m t K (slice_index ws 16) u) where
    pub alive_after : Alive m t K (after s ws hs id w)
    alive_after =
        let all = total_set (λ (u : View G E P N F). units u) s.views id v w at in
        let raised = total_set (λ (u : View G E P N F). u.raised + u.gained) s.views id v w at in
        let old = a.word in let few = a.most in record {
          word = let same = ap (λ (h : ℕ). ready_count ws h t.limit) same_homes in omega arith;
          most = omega arith;
          stopped = stopped;
          each = λ i u u_at. ⊎_elim (λ h. subst (Lively m t K (slice_index ws 16)) h.1 mine) (λ h. others i u h.0 h.1) (at_set s.views id i w u u_at);
        }

  ended_same : w.ended ≡ v.ended → total (λ (u : View G E P N F). u.ended) (slice_set s.views id w) ≡ total (λ (u : View G E P N F). u.ended) s.views
  ended_same is = let to = total_set (λ (u : View G E P N F). u.ended) s.views id v w at in omega arith

  -- how the view of the seat stands to the same live word
  module _ (raised : (w.raised ≡ v.raised) × (w.gained ≡ v.gained)) (ended : w.ended ≡ v.ended) (stake : v.spares + claim_count v ≤ w.spares + claim_count w) (knows : (w.live ≡ v.live) × (w.quiet ≡ v.quiet)) (seat : (w.root ≡ v.root) × (w.seat ≡ v.seat) × (w.seats ≡ v.seats)) (out : 0 < v.root + v.seat) where
    mine_same : Lively m t J (slice_index s.words 16) w
    mine_same = let old = a.each id v at in let r0 = raised.0 in let r1 = raised.1 in let s0 = seat.0 in let s1 = seat.1 in let s2 = seat.2 in record {
      raised = let x = old.raised in omega arith;
      gained = λ _. let x = old.gained out in omega arith;
      stop = λ some_end. let x = old.stop (omega arith) in omega arith;
      still = λ z. old.still (sym knows.0 ∙ z);
      quiet = subst (λ o. MatchOption o (Unit {0}) (λ n. (slice_index s.words 16 ≡ 0) × (length J ≡ n))) (sym knows.1) old.quiet;
      spent = λ z. absurd (omega arith);
    }

    -- a step on another word, which leaves the sum of the units and the ready EDTs
    pub alive_same : (ws : List ℕ) (hs : List (maybe.Option (Option P))) → length hs ≡ length s.homes → slice_index ws 16 ≡ slice_index s.words 16 → (OPEN ≤ slice_index ws 0 → OPEN ≤ slice_index s.words 0)
        → units w + ready_count ws (length s.homes) t.limit ≡ units v + ready_count s.words (length s.homes) t.limit → Alive m t J (after s ws hs id w)
    alive_same ws hs homes word closed sum = alive_after J ws hs homes (omega arith) (let r0 = raised.0 in let r1 = raised.1 in omega arith)
        (λ past. let e = ended_same ended in let o = a.stopped (closed past) in omega arith)
        (subst (λ x. Lively m t J x w) (sym word) mine_same)
        (λ i u _ u_at. subst (λ x. Lively m t J x u) (sym word) (a.each i u u_at))

-- where two views know so much of an end of it all, so does that of both
pub quiet_both : (x n : ℕ) (o q : Option ℕ) → MatchOption o (Unit {0}) (λ k. (x ≡ 0) × (n ≡ k)) → MatchOption q (Unit {0}) (λ k. (x ≡ 0) × (n ≡ k)) → MatchOption (option_or o q) (Unit {0}) (λ k. (x ≡ 0) × (n ≡ k))
quiet_both x n None q h i = i
quiet_both x n (Some k) q h i = h

-- what was raised in all, where the seat id raised no more than its share: the live word does not wrap
module _ {G E P N F : Type 0} (m : Meaning G E P N F) (t : Terms G) (J : List E) (s : State (Option P) (View G E P N F)) (k : Kept m t J s) (a : Alive m t J s) (id : ℕ) (v : View G E P N F) (at : get_elem? s.views id ≡ some v) (is_out : 0 < v.root + v.seat) where
  pub raised_most : (w : View G E P N F) → w.seats ≡ v.seats → w.gained ≡ v.gained → w.raised ≤ MOST_RAISED → total (λ (u : View G E P N F). u.raised + u.gained) (slice_set s.views id w) ≤ 9223372036854775808
  raised_most w seats gained few =
      let each : (i : ℕ) (u : View G E P N F) → get_elem? (slice_set s.views id w) i ≡ some u → u.raised + u.gained ≤ u.seats * 72057594037927936 =
      λ i u u_at. ⊎_elim
      (λ z. subst (λ (y : View G E P N F). y.raised + y.gained ≤ y.seats * 72057594037927936) z.1 (let old = (a.each id v at).gained is_out in omega arith))
      (λ z. dite (dec_le 1 (u.root + u.seat))
      (λ out. let l = a.each i u z.1 in let x = l.raised in let y = l.gained out in omega arith)
      (λ no. let none : ¬ (1 ≤ u.root + u.seat) = no in let l = (a.each i u z.1).spent (omega arith) in let r = l.1 in omega arith))
      (at_set s.views id i w u u_at) in
      let all = total_bound (λ (u : View G E P N F). u.raised + u.gained) (λ (u : View G E P N F). u.seats) 72057594037927936 (slice_set s.views id w) each in
      let same = total_set (λ (u : View G E P N F). u.seats) s.views id v w at in let roster = k.roster.seats in omega arith

  -- the live word fits in 64 bits, and so do the units of each view
  pub live_small : slice_index s.words 16 ≤ 9223372036854775810
  live_small = let most = a.most in let all = raised_most v refl refl (a.each id v at).raised in let to = total_set (λ (u : View G E P N F). u.raised + u.gained) s.views id v v at in omega arith

  pub units_small : units v ≤ 9223372036854775810
  units_small = let one = total_one (λ (u : View G E P N F). units u) s.views id v at in let word = a.word in let small = live_small in omega arith
