-- The EDTs that a view has claimed.
use Rattle.std.proofs.Common.{◌≡◌, ℕ, zero, suc, ◌+◌, ◌≤◌, inl, inr, ⊎_elim, Bool, true, false, ◌||◌, List, [], ◌∷◌, ◌++◌, length, reverse, refl, ap, sym, ◌∙◌, arith, Some, Option}
use Rattle.std.proofs.lemmas.Bool.{or_left}
use mathlib.Core.Option.{some}
use lib.ListN.{get_elem?}
use Rattle.atomic_table.specs.Table.{State}
use Rattle.atomic_table.proofs.Lists.{at_longer}
use Rattle.ocr_turns_rule.specs.declared.view.View.{View}
use Rattle.ocr_turns_rule.specs.declared.view.Terms.{Terms}
use Rattle.ocr_turns_rule.specs.Counts.{Counted, IsBegunIn, IsSet, account, slots_of, payload_of, is_ended, is_none, unset_of, is_true}
use Rattle.ocr_turns_rule.specs.Meaning.{Meaning}
use Rattle.ocr_turns_rule.specs.Debts.{times}
use Rattle.ocr_turns_rule.specs.Rule.{Claimed}
use Rattle.ocr_turns_rule.specs.Sums.{entries, is_among}
use Rattle.ocr_turns_rule.proofs.Accounts.{busy}
use Rattle.ocr_turns_rule.proofs.Owed.{below_zero, is_some}
use Rattle.ocr_turns_rule.proofs.Slots.{true_is}
use Rattle.ocr_turns_rule.proofs.Totals.{among_append, entries_append, total_one}

or_last : (a b : Bool) → b ≡ true → (a || (b || false)) ≡ true
or_last true b is = refl
or_last false true is = refl
or_last false false is = cc is

among_snoc : {E : Type 0} (test : E → Bool) (log : List (ℕ × E)) (num : ℕ) (e : E) → is_among test (entries (log ++ (num, e) ∷ [])) ≡ (is_among test (entries log) || (test e || false))
among_snoc test log num e = ap (is_among test) (entries_append log ((num, e) ∷ [])) ∙ among_append test (entries log) (e ∷ [])

-- THE FIRST ENTRY of an EDT stands in the logs
module _ {G E P N F : Type 0} (m : Meaning G E P N F) (n : ℕ) where
  abbrev Vs : Type 0
  Vs = View G E P N F

  -- with one more entry
  module _ (v w : Vs) (num : ℕ) (e : E) (log : w.log ≡ v.log ++ (num, e) ∷ []) (joined : w.joined ≡ v.joined) where
    pub begun_more : IsBegunIn m v n → IsBegunIn m w n
    begun_more is = ⊎_elim
        (λ h. inl (ap (λ l. is_among (λ x. m.starts x n) (entries l)) log ∙ (among_snoc (λ x. m.starts x n) v.log num e ∙ or_left (is_among (λ x. m.starts x n) (entries v.log)) (m.starts e n || false) h)))
        (λ h. inr (h.0, h.1, ap (λ ls. get_elem? ls h.0) joined ∙ h.2, h.3))
        is

    pub begun_now : m.starts e n ≡ true → IsBegunIn m w n
    begun_now on = inl (ap (λ l. is_among (λ x. m.starts x n) (entries l)) log ∙ (among_snoc (λ x. m.starts x n) v.log num e ∙ or_last (is_among (λ x. m.starts x n) (entries v.log)) (m.starts e n) on))

  -- in those of the root that another seat was joined into
  module _ (v w both : Vs) (log : both.log ≡ v.log) (joined : both.joined ≡ v.joined ++ w.log ∷ w.joined) where
    pub begun_root : IsBegunIn m v n → IsBegunIn m both n
    begun_root is = ⊎_elim
        (λ h. inl (ap (λ l. is_among (λ x. m.starts x n) (entries l)) log ∙ h))
        (λ h. inr (h.0, h.1, ap (λ ls. get_elem? ls h.0) joined ∙ at_longer v.joined (w.log ∷ w.joined) h.0 h.1 h.2, h.3))
        is

    pub begun_home : IsBegunIn m w n → IsBegunIn m both n
    begun_home is = ⊎_elim
        (λ h. inr (length v.joined, w.log, ap (λ ls. get_elem? ls (length v.joined)) joined ∙ behind v.joined (w.log ∷ w.joined) 0 (length v.joined) w.log (omega arith) refl, h))
        (λ h. inr (length v.joined + suc h.0, h.1, ap (λ ls. get_elem? ls (length v.joined + suc h.0)) joined ∙ behind v.joined (w.log ∷ w.joined) (suc h.0) (length v.joined + suc h.0) h.1 refl h.2, h.3))
        is
      where
        behind : {A : Type 0} (xs ys : List A) (k i : ℕ) (x : A) → i ≡ length xs + k → get_elem? ys k ≡ some x → get_elem? (xs ++ ys) i ≡ some x
        behind [] ys k i x is at = ap (λ (j : ℕ). get_elem? ys j) (let same : i ≡ k = omega arith in same) ∙ at
        behind (z ∷ xs) ys k zero x is at = absurd (omega arith)
        behind (z ∷ xs) ys k (suc i) x is at = behind xs ys k i x (omega arith) at

module _ {G E P N F : Type 0} (m : Meaning G E P N F) (t : Terms G) where
  -- where no slot is unset, each is set
  pub set_all : (past : List E) (n d : ℕ) → slots_of m t past n ≡ Some d → unset_of (slots_of m t past n) (payload_of m t past n) ≡ 0 → IsSet m t past n
  set_all past n d made none = record {
    slots = d;
    made = made;
    all_set = λ k lt. is_some (payload_of m t past n k) (below_zero (λ j. is_none (payload_of m t past n j)) d (sym (ap (λ o. unset_of o (payload_of m t past n)) made) ∙ none) k lt);
  }

  -- WHAT A VIEW MAY RELY ON of them
  pub claimed_is : (J : List E) (s : State (Option P) (View G E P N F)) (c : Counted m t (reverse J) s) (id : ℕ) (v : View G E P N F) → get_elem? s.views id ≡ some v → (n : ℕ) → 1 ≤ times n v.claims → Claimed m t J v n
  claimed_is J s c id v at n has =
      let past : List E = reverse J in
      let stakes = c.seated id v at in let range = stakes.claims n has in
      let one = total_one (λ (u : View G E P N F). times n u.claims) s.views id v at in
      let order = busy (slots_of m t past n) (account m t s.words (length s.homes) s.views past n) (c.each n range.0 range.1) (omega arith) in
      let counted = order.0.counted in let runs = order.0.runs in record {
        set = set_all past n order.1.0 order.1.1 (omega arith);
        unended = λ on. let begun = ap is_true on in let single = runs (omega arith) in true_is (is_ended m t past n) (omega arith);
        begun = stakes.begun n has;
        tied = λ p is. stakes.tied n p has is;
      }
