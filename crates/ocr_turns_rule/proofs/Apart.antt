-- Steps that leave the words that count, and all that is owed and claimed, keep the second rule.
use Rattle.std.proofs.Common.{◌≡◌, ◌≢◌, ℕ, zero, suc, ◌+◌, ◌<◌, ◌≤◌, ◌⊎◌, inl, inr, ⊎_elim, List, [], ◌∷◌, ◌++◌, length, refl, ap, sym, subst, ◌∙◌, arith, get_or-set_other, Some, Option}
use Rattle.std.specs.Prelude.{slice_index, slice_set}
use Rattle.std.proofs.Math.ListN.{length-set}
use mathlib.Core.Option as maybe
use mathlib.Core.Option.{some, some-injective, some-ne-none}
use mathlib.Core.Logic.{dite}
use native.Mathlib.Decide.{dec_le}
use lib.ListN.{get_elem?}
use Rattle.atomic_table.specs.Table.{State}
use Rattle.atomic_table.proofs.Lists.{at_set}
use Rattle.ocr_base.specs.Mail.{tally}
use Rattle.ocr_turns_rule.specs.declared.view.View.{View}
use Rattle.ocr_turns_rule.specs.declared.view.Terms.{Terms}
use Rattle.ocr_turns_rule.specs.Counts.{IsInOrder, Counted, IsBegunIn, Stakes, account, slots_of, tied_to, state_at, payload_at}
use Rattle.ocr_turns_rule.specs.Meaning.{Meaning}
use Rattle.ocr_turns_rule.specs.Debts.{owed_slots, of_edt, of_slot, making, times, no_debts, both_debts}
use Rattle.ocr_turns_rule.specs.Sums.{total, weigh, one_at}
use Rattle.ocr_turns_rule.proofs.Totals.{total_set, tally_append, sum_append, at_snoc_at}
use Rattle.ocr_turns_rule.proofs.Accounts.{account_is}
use Rattle.ocr_turns_rule.proofs.Claims.{begun_root, begun_home}
use Rattle.ocr_turns_rule.proofs.Owed.{making_append}

module _ {G E P N F : Type 0} where
  -- the same is owed and claimed in all
  pub record SameSums (us vs : List (View G E P N F)) : Type 0 where
    pub made : (n : ℕ) → total (λ u. making n u.debts.made) us ≡ total (λ u. making n u.debts.made) vs
    pub owed : (f : ℕ × ℕ → ℕ) → total (λ u. owed_slots f u.debts) us ≡ total (λ u. owed_slots f u.debts) vs
    pub unput : (f : ℕ × ℕ → ℕ) → total (λ u. tally f u.debts.unput) us ≡ total (λ u. tally f u.debts.unput) vs
    pub claims : (n : ℕ) → total (λ u. times n u.claims) us ≡ total (λ u. times n u.claims) vs
    pub resumes : (n : ℕ) → total (λ u. times n u.debts.resumes) us ≡ total (λ u. times n u.debts.resumes) vs
    pub lasts : (n : ℕ) → total (λ u. times n u.debts.lasts) us ≡ total (λ u. times n u.debts.lasts) vs

  -- a number of views is the same in both lists, where it rests on debts and claims alone
  abbrev pub Alike : List (View G E P N F) → List (View G E P N F) → Type 0
  Alike us vs = (f : View G E P N F → ℕ) → ((a b : View G E P N F) → a.debts ≡ b.debts → a.claims ≡ b.claims → f a ≡ f b) → total f us ≡ total f vs

  pub same_sums : (us vs : List (View G E P N F)) → Alike us vs → SameSums us vs
  same_sums us vs alike = record {
    made = λ n. alike (λ u. making n u.debts.made) (λ a b d c. ap (λ x. making n x.made) d);
    owed = λ f. alike (λ u. owed_slots f u.debts) (λ a b d c. ap (owed_slots f) d);
    unput = λ f. alike (λ u. tally f u.debts.unput) (λ a b d c. ap (λ x. tally f x.unput) d);
    claims = λ n. alike (λ u. times n u.claims) (λ a b d c. ap (times n) c);
    resumes = λ n. alike (λ u. times n u.debts.resumes) (λ a b d c. ap (λ x. times n x.resumes) d);
    lasts = λ n. alike (λ u. times n u.debts.lasts) (λ a b d c. ap (λ x. times n x.lasts) d);
  }

module _ {G E P N F : Type 0} (m : Meaning G E P N F) (t : Terms G) (past : List E) (s : State (Option P) (View G E P N F)) (k : Counted m t past s) where
  abbrev Vs : Type 0
  Vs = View G E P N F

  -- the table after a step that changes neither the words that count nor the number of slots
  module _ (words : List ℕ) (homes : List (maybe.Option (Option P))) (views : List Vs) (same_length : length words ≡ length s.words) (same_homes : length homes ≡ length s.homes)
      (same_words : (i : ℕ) → 24 + length s.homes ≤ i → slice_index words i ≡ slice_index s.words i) (sums : SameSums views s.views)
      (seated : (id : ℕ) (v : Vs) → get_elem? views id ≡ some v → Stakes m t past v) where
    pub counted_same : Counted m t past record { words = words; homes = homes; views = views }
    counted_same = record {
      words = let w = k.words in omega arith;
      told = k.told;
      each = λ n lo hi. subst (IsInOrder (slots_of m t past n))
          (account_is (account m t s.words (length s.homes) s.views past n) (account m t words (length homes) views past n)
          (sym (same_words (state_at (length s.homes) n) (omega arith)) ∙ ap (λ (h : ℕ). slice_index words (state_at h n)) (sym same_homes))
          (sym (sums.made n)) (sym (sums.owed (of_edt n))) refl (sym (sums.claims n)) (sym (sums.resumes n)) refl refl refl (ap (λ z. z + one_at m.first.0 n) (sym (sums.lasts n))))
          (k.each n lo hi);
      stage = λ n q. let old = k.stage n q in let same = sums.owed (of_slot n q) in omega arith;
      payload = λ n q x is none. ap (λ (h : ℕ). slice_index words (payload_at h n q)) same_homes
          ∙ (same_words (payload_at (length s.homes) n q) (omega arith) ∙ k.payload n q x is (sym (sums.unput (of_slot n q)) ∙ none));
      seated = seated;
    }

  -- a step of one seat that changes neither what it owes nor what it has claimed, and still keeps what its claims tie it to
  module _ (id : ℕ) (v w : Vs) (at : get_elem? s.views id ≡ some v) (debts : w.debts ≡ v.debts) (claims : w.claims ≡ v.claims) (is_out : 0 < w.root + w.seat)
      (keeps : (n p : ℕ) → 1 ≤ times n v.claims → tied_to m t past n ≡ Some p → 1 ≤ weigh (one_at p) w.parts) (begun : (n : ℕ) → IsBegunIn m v n → IsBegunIn m w n) where
    same_set : Alike (slice_set s.views id w) s.views
    same_set f alike = let to = total_set f s.views id v w at in let e = alike w v debts claims in omega arith

    stakes_same : Stakes m t past w
    stakes_same = let old = k.seated id v at in record {
      unput = λ i n q x there. old.unput i n q x (ap (λ d. get_elem? d.unput i) (sym debts) ∙ there);
      made = λ i n d there. old.made i n d (ap (λ x. get_elem? x.made i) (sym debts) ∙ there);
      claims = λ n has. old.claims n (subst (λ l. 1 ≤ times n l) claims has);
      tied = λ n p has is. keeps n p (subst (λ l. 1 ≤ times n l) claims has) is;
      begun = λ n has is. begun n (old.begun n (subst (λ l. 1 ≤ times n l) claims has) is);
      spent = λ z. absurd (omega arith);
    }

    pub counted_elsewhere : (words : List ℕ) (homes : List (maybe.Option (Option P))) → length words ≡ length s.words → length homes ≡ length s.homes
        → ((i : ℕ) → 24 + length s.homes ≤ i → slice_index words i ≡ slice_index s.words i)
        → Counted m t past record { words = words; homes = homes; views = slice_set s.views id w }
    counted_elsewhere words homes same_length same_homes same_words =
        counted_same words homes (slice_set s.views id w) same_length same_homes same_words (same_sums (slice_set s.views id w) s.views same_set)
        (λ i u u_at. ⊎_elim (λ h. subst (Stakes m t past) h.1 stakes_same) (λ h. k.seated i u h.1) (at_set s.views id i w u u_at))

    -- where the word is one before those that count
    pub counted_at : (i x : ℕ) (homes : List (maybe.Option (Option P))) → i < 24 + length s.homes → length homes ≡ length s.homes
        → Counted m t past record { words = slice_set s.words i x; homes = homes; views = slice_set s.views id w }
    counted_at i x homes lt same_homes = counted_elsewhere (slice_set s.words i x) homes (length-set s.words i x) same_homes
        (λ j past_it. get_or-set_other s.words i j x 0 (λ e. absurd (omega arith)))

    -- a new seat, which owes nothing
    pub counted_split : (r : Vs) → r.debts ≡ no_debts → r.claims ≡ [] → Counted m t past record { words = s.words; homes = s.homes; views = slice_set s.views id w ++ r ∷ [] }
    counted_split r none empty = counted_same s.words s.homes (slice_set s.views id w ++ r ∷ []) refl refl (λ i _. refl)
        (record {
          made = λ n. more (λ u. making n u.debts.made) (ap (λ d. making n d.made) none) (ap (λ d. making n d.made) debts);
          owed = λ f. more (λ u. owed_slots f u.debts) (ap (owed_slots f) none) (ap (owed_slots f) debts);
          unput = λ f. more (λ u. tally f u.debts.unput) (ap (λ d. tally f d.unput) none) (ap (λ d. tally f d.unput) debts);
          claims = λ n. more (λ u. times n u.claims) (ap (times n) empty) (ap (times n) claims);
          resumes = λ n. more (λ u. times n u.debts.resumes) (ap (λ d. times n d.resumes) none) (ap (λ d. times n d.resumes) debts);
          lasts = λ n. more (λ u. times n u.debts.lasts) (ap (λ d. times n d.lasts) none) (ap (λ d. times n d.lasts) debts);
        })
        (λ i u u_at. ⊎_elim
        (λ h. ⊎_elim (λ y. subst (Stakes m t past) y.1 stakes_same) (λ y. k.seated i u y.1) (at_set s.views id i w u h.1))
        (λ h. subst (Stakes m t past) h.1 fresh_stakes)
        (at_snoc_at (slice_set s.views id w) r u i u_at))
      where
        total_snoc : (f : Vs → ℕ) (vs : List Vs) (x : Vs) → total f (vs ++ x ∷ []) ≡ total f vs + f x
        total_snoc f [] x = omega arith
        total_snoc f (y ∷ ys) x = let r = total_snoc f ys x in omega arith

        more : (f : Vs → ℕ) → f r ≡ 0 → f w ≡ f v → total f (slice_set s.views id w ++ r ∷ []) ≡ total f s.views
        more f nil same = let a = total_snoc f (slice_set s.views id w) r in let b = total_set f s.views id v w at in omega arith

        fresh_stakes : Stakes m t past r
        fresh_stakes = record {
          unput = λ i n q x there. absurd (some-ne-none (n, q, x) (sym (ap (λ d. get_elem? d.unput i) (sym none) ∙ there)));
          made = λ i n d there. absurd (some-ne-none (n, d) (sym (ap (λ x. get_elem? x.made i) (sym none) ∙ there)));
          claims = λ n has. absurd (let z = ap (times n) empty in omega arith);
          tied = λ n p has is. absurd (let z = ap (times n) empty in omega arith);
          begun = λ n has is. absurd (let z = ap (times n) empty in omega arith);
          spent = λ z. (none, empty);
        }

  at_either : {A : Type 0} (l r : List A) (j : ℕ) (b : A) → get_elem? (l ++ r) j ≡ some b → (get_elem? l j ≡ some b) ⊎ ((i : ℕ) × (get_elem? r i ≡ some b))
  at_either [] r j b e = inr (j, e)
  at_either (x ∷ xs) r zero b e = inl e
  at_either (x ∷ xs) r (suc j) b e = at_either xs r j b e

  -- A SEAT COMES HOME: the root's view takes in all that it owed and had claimed
  module _ (id : ℕ) (v : Vs) (at : get_elem? s.views id ≡ some v) (other : ℕ) (w : Vs) (apart : other ≢ id) (both spent : Vs) (is_out : 0 < both.root + both.seat) (bt : get_elem? (slice_set s.views id both) other ≡ some w)
      (debts : both.debts ≡ both_debts v.debts w.debts) (claims : both.claims ≡ v.claims ++ w.claims) (parts : (p : ℕ) → weigh (one_at p) both.parts ≡ weigh (one_at p) v.parts + weigh (one_at p) w.parts)
      (log : both.log ≡ v.log) (joined : both.joined ≡ v.joined ++ w.log ∷ w.joined)
      (none : spent.debts ≡ no_debts) (empty : spent.claims ≡ []) where
    w_at : get_elem? s.views other ≡ some w
    w_at = ⊎_elim (λ h. absurd (apart h.0)) (λ h. h.1) (at_set s.views id other both w bt)

    moved : (f : Vs → ℕ) → f both ≡ f v + f w → f spent ≡ 0 → total f (slice_set (slice_set s.views id both) other spent) ≡ total f s.views
    moved f sum nil = let a = total_set f s.views id v both at in let b = total_set f (slice_set s.views id both) other w spent bt in omega arith

    both_times : (n : ℕ) → times n both.claims ≡ times n v.claims + times n w.claims
    both_times n = ap (times n) claims ∙ sum_append (one_at n) v.claims w.claims

    both_stakes : Stakes m t past both
    both_stakes = let old = k.seated id v at in let his = k.seated other w w_at in record {
      unput = λ i n q x there. ⊎_elim (λ h. old.unput i n q x h) (λ h. his.unput h.0 n q x h.1) (at_either v.debts.unput w.debts.unput i (n, q, x) (ap (λ d. get_elem? d.unput i) (sym debts) ∙ there));
      made = λ i n d there. ⊎_elim (λ h. old.made i n d h) (λ h. his.made h.0 n d h.1) (at_either v.debts.made w.debts.made i (n, d) (ap (λ x. get_elem? x.made i) (sym debts) ∙ there));
      claims = λ n has. let sum = both_times n in dite (dec_le 1 (times n v.claims)) (λ y. old.claims n y) (λ no. his.claims n (omega arith));
      tied = λ n p has is. let sum = both_times n in let all = parts p in dite (dec_le 1 (times n v.claims)) (λ y. let h = old.tied n p y is in omega arith) (λ no. let h = his.tied n p (omega arith) is in omega arith);
      begun = λ n has is. let sum = both_times n in dite (dec_le 1 (times n v.claims)) (λ y. begun_root m n v w both log joined (old.begun n y is)) (λ no. begun_home m n v w both log joined (his.begun n (omega arith) is));
      spent = λ z. absurd (omega arith);
    }

    spent_stakes : Stakes m t past spent
    spent_stakes = record {
      unput = λ i n q x there. absurd (some-ne-none (n, q, x) (sym (ap (λ d. get_elem? d.unput i) (sym none) ∙ there)));
      made = λ i n d there. absurd (some-ne-none (n, d) (sym (ap (λ x. get_elem? x.made i) (sym none) ∙ there)));
      claims = λ n has. absurd (let z = ap (times n) empty in omega arith);
      tied = λ n p has is. absurd (let z = ap (times n) empty in omega arith);
      begun = λ n has is. absurd (let z = ap (times n) empty in omega arith);
      spent = λ z. (none, empty);
    }

    pub counted_joined : Counted m t past record { words = s.words; homes = s.homes; views = slice_set (slice_set s.views id both) other spent }
    counted_joined = counted_same s.words s.homes (slice_set (slice_set s.views id both) other spent) refl refl (λ i _. refl)
        (record {
          made = λ n. moved (λ u. making n u.debts.made) (ap (λ d. making n d.made) debts ∙ making_append n v.debts.made w.debts.made) (ap (λ d. making n d.made) none);
          owed = λ f. moved (λ u. owed_slots f u.debts) (ap (owed_slots f) debts ∙ (let a = tally_append f v.debts.unput w.debts.unput in let b = tally_append f v.debts.put w.debts.put in omega arith)) (ap (owed_slots f) none);
          unput = λ f. moved (λ u. tally f u.debts.unput) (ap (λ d. tally f d.unput) debts ∙ tally_append f v.debts.unput w.debts.unput) (ap (λ d. tally f d.unput) none);
          claims = λ n. moved (λ u. times n u.claims) (both_times n) (ap (times n) empty);
          resumes = λ n. moved (λ u. times n u.debts.resumes) (ap (λ d. times n d.resumes) debts ∙ sum_append (one_at n) v.debts.resumes w.debts.resumes) (ap (λ d. times n d.resumes) none);
          lasts = λ n. moved (λ u. times n u.debts.lasts) (ap (λ d. times n d.lasts) debts ∙ sum_append (one_at n) v.debts.lasts w.debts.lasts) (ap (λ d. times n d.lasts) none);
        })
        (λ i u u_at. ⊎_elim
        (λ h. subst (Stakes m t past) h.1 spent_stakes)
        (λ h. ⊎_elim (λ y. subst (Stakes m t past) y.1 both_stakes) (λ y. k.seated i u y.1) (at_set s.views id i both u h.1))
        (at_set (slice_set s.views id both) other i spent u u_at))

  -- a step on a word before those that count, which takes no part away
  pub counted_beside : (id : ℕ) (v w : Vs) → get_elem? s.views id ≡ some v → w.debts ≡ v.debts → w.claims ≡ v.claims → 0 < w.root + w.seat → ((p : ℕ) → weigh (one_at p) v.parts ≤ weigh (one_at p) w.parts) → ((n : ℕ) → IsBegunIn m v n → IsBegunIn m w n)
      → (i x : ℕ) (homes : List (maybe.Option (Option P))) → i < 24 + length s.homes → length homes ≡ length s.homes
      → Counted m t past record { words = slice_set s.words i x; homes = homes; views = slice_set s.views id w }
  counted_beside id v w at debts claims is_out more begun i x homes lt same_homes =
      counted_at id v w at debts claims is_out (λ n p has is. let held = (k.seated id v at).tied n p has is in let le = more p in omega arith) begun i x homes lt same_homes
