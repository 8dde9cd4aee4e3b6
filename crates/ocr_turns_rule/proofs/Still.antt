-- Where the live word is 0, nothing can come any more.
use Rattle.std.proofs.Common.{◌≡◌, ℕ, zero, suc, ◌-◌, ◌≤◌, ◌⊎◌, inl, inr, ⊎_elim, Bool, true, false, List, [], ◌∷◌, length, reverse, refl, ap, sym, subst, ◌∙◌, arith, None, Some, Option}
use Rattle.std.specs.Prelude.{slice_index}
use mathlib.Core.Option.{some}
use mathlib.Core.Logic.{dite}
use native.Mathlib.Decide.{ℕ_discrete}
use lib.ListN.{get_elem?}
use Rattle.atomic_table.specs.Table.{State}
use Rattle.ocr_base.specs.Mail.{tally}
use Rattle.ocr_turns_rule.specs.Counts.{Counted, IsBusy, IsCounting, IsInOrder, IsParked, IsSet, account, awaited, is_ended, is_none, is_true, payload_of, slots_of, state_at, unset_of}
use Rattle.ocr_turns_rule.specs.Meaning.{Meaning, Open}
use Rattle.ocr_turns_rule.specs.Debts.{making, owed_slots, of_edt, times}
use Rattle.ocr_turns_rule.specs.Rule.{Alive, IsStill, Kept, mail}
use Rattle.ocr_turns_rule.specs.Sums.{is_free, sum_of, total, up_to, weigh}
use Rattle.ocr_turns_rule.specs.Units.{one_each, units}
use Rattle.ocr_turns_rule.specs.declared.view.View.{View}
use Rattle.ocr_turns_rule.specs.declared.view.Terms.{Terms}
use Rattle.ocr_turns_rule.proofs.Owed.{below_nought, some_view}
use Rattle.ocr_turns_rule.proofs.Totals.{total_none, total_one}

-- A list without units is empty, so it weighs nothing by any measure.
pub no_tally : {N : Type 0} (f : ℕ × ℕ → ℕ) (xs : List (ℕ × ℕ × N)) → tally one_each xs ≡ 0 → tally f xs ≡ 0
no_tally f [] none = refl
no_tally f (x ∷ xs) none = absurd (omega arith)

pub no_mail : {N : Type 0} (xs : List (ℕ × ℕ × N)) → tally one_each xs ≡ 0 → xs ≡ []
no_mail [] none = refl
no_mail (x ∷ xs) none = absurd (omega arith)

pub no_making : (n : ℕ) (xs : List (ℕ × ℕ)) → weigh one_each xs ≡ 0 → making n xs ≡ 0
no_making n [] none = refl
no_making n (x ∷ xs) none = absurd (omega arith)

pub no_times : (n : ℕ) (xs : List ℕ) → sum_of one_each xs ≡ 0 → times n xs ≡ 0
no_times n [] none = refl
no_times n (x ∷ xs) none = absurd (omega arith)

up_to_each : (f : ℕ → ℕ) (n k : ℕ) → 1 ≤ k → k ≤ n → f k ≤ up_to f n
up_to_each f zero k lo hi = absurd (omega arith)
up_to_each f (suc n) k lo hi = dite (ℕ_discrete k (suc n)) (λ e. let a = ap f e in omega arith) (λ ne. let r = up_to_each f n k lo (omega arith) in omega arith)

module _ {G E P N F : Type 0} (m : Meaning G E P N F) (t : Terms G) (J : List E) (s : State (Option P) (View G E P N F)) (k : Kept m t J s) (c : Counted m t (reverse J) s) (a : Alive m t J s) (zero_live : slice_index s.words 16 ≡ 0) where
  abbrev Vs : Type 0
  Vs = View G E P N F

  -- no view has a unit
  none_at : (i : ℕ) (u : Vs) → get_elem? s.views i ≡ some u → units u ≡ 0
  none_at i u at = let one = total_one (λ (x : Vs). units x) s.views i u at in let word = a.word in omega arith

  nobody : (f : Vs → ℕ) → ((u : Vs) → units u ≡ 0 → f u ≡ 0) → total f s.views ≡ 0
  nobody f none = total_none f s.views (λ i u at. none u (none_at i u at))

  no_letters : mail m t J ≡ []
  no_letters = no_mail (mail m t J) (let owed = k.owed one_each in let none = nobody (λ u. tally one_each u.owed) (λ u z. omega arith) in omega arith)

  not_ended : Open m.stops J
  not_ended = ⊎_elim (λ h. h.1)
      (λ h. absurd (
      let some_end = a.stopped h.0 in
      let there = some_view (λ (u : Vs). u.ended) s.views some_end in
      let stake = (a.each there.0 there.1 there.2).stop there.3 in let none = none_at there.0 there.1 there.2 in omega arith))
      k.ledger.word

  -- what is held against the word of an EDT of which all slots are set
  all_set : (n d : ℕ) → slots_of m t (reverse J) n ≡ Some d → IsSet m t (reverse J) n → unset_of (slots_of m t (reverse J) n) (payload_of m t (reverse J) n) ≡ 0
  all_set n d made set =
      let same : ◌≡◌ {A = Option ℕ} (Some set.slots) (Some d) = sym set.made ∙ made in let eq : set.slots ≡ d = cc same in
      ap (λ o. unset_of o (payload_of m t (reverse J) n)) made
      ∙ below_nought (λ q. is_none (payload_of m t (reverse J) n q)) d (λ q lt. let h = set.all_set q (omega arith) in ap is_none h.1)

  is_one : (b : Bool) → 1 ≤ is_true b → b ≡ true
  is_one true h = refl
  is_one false h = absurd (omega arith)

  -- it has ended or waits
  settled : (n : ℕ) → IsSet m t (reverse J) n → (is_ended m t (reverse J) n ≡ true) ⊎ ((p : ℕ) × (awaited m t (reverse J) n ≡ Some p))
  settled n set =
      let made = set.made in let r = c.told.made n set.slots made in
      let unset = all_set n set.slots made set in
      let no_makings = nobody (λ u. making n u.debts.made) (λ u z. no_making n u.debts.made (omega arith)) in
      let no_slots = nobody (λ u. owed_slots (of_edt n) u.debts) (λ u z. let x = no_tally (of_edt n) u.debts.unput (omega arith) in let y = no_tally (of_edt n) u.debts.put (omega arith) in omega arith) in
      let no_claims = nobody (λ u. times n u.claims) (λ u z. no_times n u.claims (omega arith)) in
      let no_resumes = nobody (λ u. times n u.debts.resumes) (λ u z. no_times n u.debts.resumes (omega arith)) in
      let free = up_to_each (λ q. is_free (slice_index s.words (state_at (length s.homes) q))) t.limit n r.0 r.1 in
      let word = a.word in
      let not_ready : is_free (slice_index s.words (state_at (length s.homes) n)) ≡ 0 = omega arith in
      by_word (subst (λ o. IsInOrder o (account m t s.words (length s.homes) s.views (reverse J) n)) made (c.each n r.0 r.1)) unset no_makings no_slots no_claims no_resumes not_ready
    where
      by_word : IsCounting (account m t s.words (length s.homes) s.views (reverse J) n) ⊎ (IsBusy (account m t s.words (length s.homes) s.views (reverse J) n) ⊎ IsParked (account m t s.words (length s.homes) s.views (reverse J) n))
          → unset_of (slots_of m t (reverse J) n) (payload_of m t (reverse J) n) ≡ 0 → total (λ u. making n u.debts.made) s.views ≡ 0 → total (λ u. owed_slots (of_edt n) u.debts) s.views ≡ 0 → total (λ u. times n u.claims) s.views ≡ 0 → total (λ u. times n u.debts.resumes) s.views ≡ 0 → is_free (slice_index s.words (state_at (length s.homes) n)) ≡ 0
          → (is_ended m t (reverse J) n ≡ true) ⊎ ((p : ℕ) × (awaited m t (reverse J) n ≡ Some p))
      by_word h unset makings slots claims resumes busy_word = ⊎_elim
          (λ y. let w = y.word in absurd (let z : slice_index s.words (state_at (length s.homes) n) ≡ 0 = omega arith in let f = ap is_free z in omega arith))
          (λ y. ⊎_elim (λ z. let held = z.held in inl (is_one (is_ended m t (reverse J) n) (omega arith))) (λ z. let w = z.waits in inr (waits (awaited m t (reverse J) n) (omega arith))) y)
          h
        where
          waits : (o : Option ℕ) → 1 - is_none o ≡ 1 → (p : ℕ) × (o ≡ Some p)
          waits None z = absurd (omega arith)
          waits (Some p) z = (p, refl)

  pub still : IsStill m t J
  still = record { unended = not_ended; delivered = no_letters; each = settled }
