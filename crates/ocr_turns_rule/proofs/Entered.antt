-- The step that enters an entry keeps the second rule.
use Rattle.std.proofs.Common.{◌≡◌, ◌≢◌, ℕ, zero, suc, ◌+◌, ◌-◌, ◌<◌, ◌≤◌, ◌⊎◌, inl, inr, ⊎_elim, Bool, true, false, ◌||◌, ◌&&◌, if◌then◌else◌, List, [], ◌∷◌, ◌++◌, length, reverse, refl, ap, sym, subst, ◌∙◌, arith, None, Some, Option}
use Rattle.std.specs.Prelude.{slice_index, slice_set}
use Rattle.std.proofs.lemmas.Bool.{or_cases}
use mathlib.Core.Option.{some, some-injective, some-ne-none}
use mathlib.Core.Logic.{dite}
use native.Mathlib.Decide.{ℕ_discrete, dec_le}
use lib.ListN.{get_elem?}
use Rattle.atomic_table.specs.Table.{State}
use Rattle.atomic_table.proofs.Lists.{at_set}
use Rattle.ocr_base.specs.Mail.{tally}
use Rattle.ocr_turns_rule.specs.declared.debts.Debts.{Debts}
use Rattle.ocr_turns_rule.specs.declared.view.View.{View}
use Rattle.ocr_turns_rule.specs.declared.view.Terms.{Terms}
use Rattle.ocr_turns_rule.specs.Counts.{CountingLaws, MayCome, Account, IsInOrder, IsCounting, IsBusy, IsParked, IsBlank, Counted, Stakes, account, slots_of, payload_of, awaited, tied_to, is_started, is_ended, is_in, is_none, is_true, unset_of, debts_by, leaves, state_at, payload_at}
use Rattle.ocr_turns_rule.specs.Meaning.{Meaning, Lawful}
use Rattle.ocr_turns_rule.specs.Debts.{listed, making, owed_slots, of_edt, of_slot, times, without_all, both_debts}
use Rattle.ocr_turns_rule.specs.Sums.{is_free, total, weigh, below, sum_of, one_at, up_to, made_sum}
use Rattle.ocr_turns_rule.proofs.Totals.{total_set, total_one, total_two, tally_append, sum_append}
use Rattle.ocr_turns_rule.proofs.Accounts.{busy}
use Rattle.ocr_turns_rule.proofs.Claims.{begun_now, begun_more}
use Rattle.ocr_turns_rule.proofs.Owed.{some_view, making_append, times_without, in_times, below_same, below_one, below_all}
use Rattle.ocr_turns_rule.proofs.Slots.{bools, options, clash, none_is, count_here, count_else, makes_for, pay_here, pay_else, sets_for, slot_for, after_none, after_resumed, after_same, tied_back, tied_now, created_none, slots_later, payload_later, told_more}

pub nil_append : {A : Type 0} (xs : List A) → xs ++ [] ≡ xs
nil_append [] = refl
nil_append (x ∷ xs) = ap (λ l. x ∷ l) (nil_append xs)

at_either : {A : Type 0} (l r : List A) (j : ℕ) (b : A) → get_elem? (l ++ r) j ≡ some b → (get_elem? l j ≡ some b) ⊎ ((i : ℕ) × (get_elem? r i ≡ some b))
at_either [] r j b e = inr (j, e)
at_either (x ∷ xs) r zero b e = inl e
at_either (x ∷ xs) r (suc j) b e = at_either xs r j b e

at_listed : {A : Type 0} (o : Option A) (i : ℕ) (x : A) → get_elem? (listed o) i ≡ some x → o ≡ Some x
at_listed None i x e = absurd (some-ne-none x (sym e))
at_listed (Some y) zero x e = ap Some (some-injective y x e)
at_listed (Some y) (suc i) x e = absurd (some-ne-none x (sym e))

below_least : (f : ℕ → ℕ) (d k : ℕ) → k < d → f k ≤ below f d
below_least f zero k lt = absurd (omega arith)
below_least f (suc d) k lt = dite (ℕ_discrete k d) (λ e. let h = ap f e in omega arith) (λ ne. let r = below_least f d k (omega arith) in omega arith)

module _ {G E P N F : Type 0} (m : Meaning G E P N F) (laws : CountingLaws m) (runs : Lawful m) (t : Terms G) (past : List E) (e : E) (may : MayCome m t past e)
    (unmade : (n : ℕ) → 1 ≤ sum_of (one_at n) (m.makes e) → (1 ≤ n) × (n ≤ t.limit) × (up_to (one_at n) m.opened + made_sum m.makes (one_at n) (reverse past) ≡ 0))
    (s : State (Option P) (View G E P N F)) (k : Counted m t past s) (id : ℕ) (v w : View G E P N F) (at : get_elem? s.views id ≡ some v) (is_out : 0 < w.root + w.seat)
    (words : List ℕ) (same_length : length words ≡ length s.words) (same_words : (i : ℕ) → 24 + length s.homes ≤ i → slice_index words i ≡ slice_index s.words i)
    (debts : w.debts ≡ both_debts v.debts (debts_by m e (m.counting.resumes t.setting.value t.limit (reverse past) e) (m.counting.creates t.setting.value t.limit (reverse past) e))) (claims : w.claims ≡ without_all (leaves m e) v.claims)
    (log : (num : ℕ) × (w.log ≡ v.log ++ (num, e) ∷ []) × (w.joined ≡ v.joined)) (starter : (n : ℕ) → m.starts e n ≡ true → 1 ≤ times n v.claims) (waiter : (n p : ℕ) → m.counting.waits e n ≡ Some p → 1 ≤ times n v.claims)
    (sleeps : (n : ℕ) → 1 ≤ times n (m.counting.resumes t.setting.value t.limit (reverse past) e) → times n v.claims ≡ 0)
    (keeps : (p : ℕ) → 1 ≤ m.touches t.limit e p → 1 ≤ weigh (one_at p) v.parts) (same_parts : (p : ℕ) → weigh (one_at p) w.parts ≡ weigh (one_at p) v.parts)
    (sole : (i : ℕ) (u : View G E P N F) → i ≢ id → get_elem? s.views i ≡ some u → (p : ℕ) → 1 ≤ weigh (one_at p) v.parts → weigh (one_at p) u.parts ≡ 0) where
  abbrev Vs : Type 0
  Vs = View G E P N F

  abbrev homes : ℕ
  homes = length s.homes

  abbrev views : List Vs
  views = slice_set s.views id w

  -- the EDTs that it resumes
  abbrev woken : List ℕ
  woken = m.counting.resumes t.setting.value t.limit (reverse past) e

  tot : (f : Vs → ℕ) → total f views + f v ≡ total f s.views + f w
  tot f = total_set f s.views id v w at

  more_made : (n : ℕ) → total (λ u. making n u.debts.made) views ≡ total (λ u. making n u.debts.made) s.views + making n (listed (m.counting.creates t.setting.value t.limit (reverse past) e))
  more_made n = let a = tot (λ u. making n u.debts.made) in let b = ap (λ d. making n d.made) debts in let h = making_append n v.debts.made (listed (m.counting.creates t.setting.value t.limit (reverse past) e)) in omega arith

  more_unput : (f : ℕ × ℕ → ℕ) → total (λ u. tally f u.debts.unput) views ≡ total (λ u. tally f u.debts.unput) s.views + tally f (listed (m.counting.sets e))
  more_unput f = let a = tot (λ u. tally f u.debts.unput) in let b = ap (λ d. tally f d.unput) debts in let h = tally_append f v.debts.unput (listed (m.counting.sets e)) in omega arith

  more_owed : (f : ℕ × ℕ → ℕ) → total (λ u. owed_slots f u.debts) views ≡ total (λ u. owed_slots f u.debts) s.views + tally f (listed (m.counting.sets e))
  more_owed f = let a = tot (λ u. owed_slots f u.debts) in let b = ap (owed_slots f) debts in let h = tally_append f v.debts.unput (listed (m.counting.sets e)) in let g = ap (tally f) (nil_append v.debts.put) in omega arith

  more_resumes : (n : ℕ) → total (λ u. times n u.debts.resumes) views ≡ total (λ u. times n u.debts.resumes) s.views + times n woken
  more_resumes n = let a = tot (λ u. times n u.debts.resumes) in let b = ap (λ d. times n d.resumes) debts in let h = sum_append (one_at n) v.debts.resumes woken in omega arith

  same_lasts : (n : ℕ) → total (λ u. times n u.debts.lasts) views ≡ total (λ u. times n u.debts.lasts) s.views
  same_lasts n = let a = tot (λ u. times n u.debts.lasts) in let b = ap (λ d. times n d.lasts) debts in let g = ap (times n) (nil_append v.debts.lasts) in omega arith

  abbrev claims_now : ℕ → ℕ
  claims_now n = total (λ u. times n u.claims) views

  abbrev claims_before : ℕ → ℕ
  claims_before n = total (λ u. times n u.claims) s.views

  -- the claims of an EDT are as before, but where the entry ends them
  claims_after : (n : ℕ) → ((leaves m e n ≡ true) × (claims_now n + times n v.claims ≡ claims_before n) × (times n w.claims ≡ 0)) ⊎ ((leaves m e n ≡ false) × (claims_now n ≡ claims_before n) × (times n w.claims ≡ times n v.claims))
  claims_after n =
      let a = tot (λ u. times n u.claims) in let b = ap (times n) claims in let r = times_without (leaves m e) n v.claims in
      ⊎_elim (λ y. let h = r.0 y in inl (y, omega arith, omega arith)) (λ y. let h = r.1 y in inr (y, omega arith, omega arith)) (bools (leaves m e n))

  mine : (n : ℕ) → times n v.claims ≤ claims_before n
  mine n = total_one (λ (u : Vs). times n u.claims) s.views id v at

  no_start : (n : ℕ) → times n v.claims ≡ 0 → m.starts e n ≡ false
  no_start n none = ⊎_elim (λ y. let h = starter n y in absurd (omega arith)) (λ y. y) (bools (m.starts e n))

  no_wait : (n : ℕ) → times n v.claims ≡ 0 → m.counting.waits e n ≡ None
  no_wait n none = ⊎_elim (λ y. y) (λ y. let h = waiter n y.0 y.1 in absurd (omega arith)) (options (m.counting.waits e n))

  no_resume : (n : ℕ) → awaited m t past n ≡ None → times n woken ≡ 0
  no_resume n none = dite (dec_le 1 (times n woken)) (λ y. let r = (laws.resuming t past e n may y).1 in absurd (clash (awaited m t past n) r.0 none r.1)) (λ h. omega arith)

  started_none : (n : ℕ) → m.starts e n ≡ false → is_true (is_started m t past n) ≡ 0 → is_true (is_started m t (e ∷ past) n) ≡ 0
  started_none n off z = ap (λ b. is_true (b || is_started m t past n)) off ∙ z

  waits_none : (n : ℕ) → m.counting.waits e n ≡ None → awaited m t past n ≡ None → 1 - is_none (awaited m t (e ∷ past) n) ≡ 0
  waits_none n none was = ap (λ o. 1 - is_none o) (after_none (m.starts e n) (m.ends e n) (m.counting.waits e n) (is_in n woken) (awaited m t past n) none was)

  -- where its slots are all set, the entry sets none of them
  sets_none : (n d : ℕ) → slots_of m t past n ≡ Some d → unset_of (slots_of m t past n) (payload_of m t past n) ≡ 0 → (q x : ℕ) → m.counting.sets e ≡ Some (n, q, x) → ⊥
  sets_none n d made all q x is =
      let law = laws.setting t past e n q x may is in
      let few : unset_of (Some law.0.0) (payload_of m t past n) ≡ 0 = subst (λ o. unset_of o (payload_of m t past n) ≡ 0) law.0.1 all in
      let least = below_least (λ j. is_none (payload_of m t past n j)) law.0.0 q law.0.2 in
      let one = ap is_none law.1 in absurd (omega arith)

  same_unset : (n d : ℕ) → slots_of m t past n ≡ Some d → ((q x : ℕ) → m.counting.sets e ≡ Some (n, q, x) → ⊥)
      → unset_of (slots_of m t (e ∷ past) n) (payload_of m t (e ∷ past) n) ≡ unset_of (slots_of m t past n) (payload_of m t past n)
  same_unset n d made never =
      ap (λ o. unset_of o (payload_of m t (e ∷ past) n)) (slots_later m laws runs t past e may k.told unmade n d made)
      ∙ (below_same (λ j. is_none (payload_of m t (e ∷ past) n j)) (λ j. is_none (payload_of m t past n j)) d (λ j _. ap is_none (pay_else (m.counting.sets e) n j (payload_of m t past n j) (never j)).0)
      ∙ sym (ap (λ o. unset_of o (payload_of m t past n)) made))

  -- what is owed and what is not set stay together
  owed_unset : (n d : ℕ) → slots_of m t past n ≡ Some d
      → tally (of_edt n) (listed (m.counting.sets e)) + unset_of (slots_of m t (e ∷ past) n) (payload_of m t (e ∷ past) n) ≡ unset_of (slots_of m t past n) (payload_of m t past n)
  owed_unset n d made = ⊎_elim
      (λ y.
      let q : ℕ = y.0 in let here = pay_here (m.counting.sets e) n q y.1 (payload_of m t past n q) y.2 in
      let law = laws.setting t past e n q y.1 may y.2 in
      let slots : ◌≡◌ {A = Option ℕ} (Some law.0.0) (Some d) = sym law.0.1 ∙ made in
      let eq : law.0.0 ≡ d = cc slots in let lt = law.0.2 in
      let one = below_one (λ j. is_none (payload_of m t past n j)) (λ j. is_none (payload_of m t (e ∷ past) n j)) d q (omega arith)
      (let a = ap is_none law.1 in let b = ap is_none here.0 in omega arith)
      (λ j ne. sym (ap is_none (pay_else (m.counting.sets e) n j (payload_of m t past n j) (λ x is. ne (slot_same y.0 j y.1 x (sym y.2 ∙ is)))).0)) in
      let new = ap (λ o. unset_of o (payload_of m t (e ∷ past) n)) (slots_later m laws runs t past e may k.told unmade n d made) in
      let old = ap (λ o. unset_of o (payload_of m t past n)) made in
      let w1 = here.2 in omega arith)
      (λ y. let a = same_unset n d made y.1 in let b = y.0 in omega arith)
      (sets_for (m.counting.sets e) n)
    where
      slot_same : (q j x y : ℕ) → ◌≡◌ {A = Option (ℕ × ℕ × ℕ)} (Some (n, q, x)) (Some (n, j, y)) → j ≡ q
      slot_same q j x y e = sym (ap second_of_it e)
        where
          second_of_it : Option (ℕ × ℕ × ℕ) → ℕ
          second_of_it None = 0
          second_of_it (Some z) = z.1

  abbrev before : ℕ → Account
  before n = account m t s.words homes s.views past n

  abbrev after : ℕ → Account
  after n = account m t words homes views (e ∷ past) n

  same_word : (n : ℕ) → (after n).word ≡ (before n).word
  same_word n = same_words (state_at homes n) (omega arith)

  -- who waits is made
  unmade_rests : (n : ℕ) → slots_of m t past n ≡ None → awaited m t past n ≡ None
  unmade_rests n none = ⊎_elim (λ y. y) (λ y. let r = (k.told.rests n y.0 y.1).2 in absurd (clash (slots_of m t past n) r.0 none r.1)) (options (awaited m t past n))

  unmade_sets : (n : ℕ) → slots_of m t past n ≡ None → tally (of_edt n) (listed (m.counting.sets e)) ≡ 0
  unmade_sets n none = ⊎_elim (λ y. let r = (laws.setting t past e n y.0 y.1 may y.2).0 in absurd (clash (slots_of m t past n) r.0 none r.1)) (λ y. y.0) (sets_for (m.counting.sets e) n)

  unmade_payload : (n q : ℕ) → slots_of m t past n ≡ None → payload_of m t (e ∷ past) n q ≡ None
  unmade_payload n q none = ⊎_elim
      (λ y. let r = (laws.setting t past e n q y.0 may y.1).0 in absurd (clash (slots_of m t past n) r.0 none r.1))
      (λ y. (pay_else (m.counting.sets e) n q (payload_of m t past n q) y).0
      ∙ ⊎_elim (λ z. z) (λ z. let r = k.told.set n q z.0 z.1 in absurd (clash (slots_of m t past n) r.0 none r.1)) (options (payload_of m t past n q)))
      (slot_for (m.counting.sets e) n q)

  -- AN EDT THAT WAS NOT MADE
  from_unmade : (n : ℕ) → slots_of m t past n ≡ None → IsBlank (before n) → IsInOrder (slots_of m t (e ∷ past) n) (after n)
  from_unmade n none h =
      let bare = h.bare in let my = mine n in let word = h.word in let same = same_word n in
      let off = no_start n (omega arith) in let still = no_wait n (omega arith) in
      let rests = unmade_rests n none in
      let sum1 = more_made n in let sum2 = more_owed (of_edt n) in let sum3 = more_resumes n in
      let lasts = same_lasts n in let sets = unmade_sets n none in let wakes = no_resume n rests in
      let waits = waits_none n still rests in let started = started_none n off (omega arith) in
      let cl : claims_now n ≤ claims_before n = ⊎_elim (λ y. let z = y.1 in omega arith) (λ y. let z = y.1 in omega arith) (claims_after n) in
      ⊎_elim
      (λ y.
      let here = count_here (m.counting.creates t.setting.value t.limit (reverse past) e) n y.0 (slots_of m t past n) y.1 in let owes = here.1 in
      let small = (laws.creating t past e n y.0 may y.1).1 in
      let all : unset_of (slots_of m t (e ∷ past) n) (payload_of m t (e ∷ past) n) ≡ y.0 =
      ap (λ o. unset_of o (payload_of m t (e ∷ past) n)) here.0 ∙ below_all (λ j. is_none (payload_of m t (e ∷ past) n j)) y.0 (λ j. ap is_none (unmade_payload n j none)) in
      let is : IsCounting (after n) = record { word = omega arith; most = omega arith; bare = omega arith; once = (let z = ap is_free (same ∙ word) in omega arith) } in
      subst (λ o. IsInOrder o (after n)) (sym here.0) (inl is))
      (λ y.
      let none_made = count_else (m.counting.creates t.setting.value t.limit (reverse past) e) n (slots_of m t past n) y in let owes = none_made.1 in
      let is : IsBlank (after n) = record { word = omega arith; bare = omega arith } in
      subst (λ o. IsInOrder o (after n)) (sym (none_made.0 ∙ none)) is)
      (makes_for (m.counting.creates t.setting.value t.limit (reverse past) e) n)

  -- AN EDT THAT WAS MADE
  module _ (n d : ℕ) (made : slots_of m t past n ≡ Some d) where
    stays_made : slots_of m t (e ∷ past) n ≡ Some d
    stays_made = slots_later m laws runs t past e may k.told unmade n d made

    no_more_made : making n (listed (m.counting.creates t.setting.value t.limit (reverse past) e)) ≡ 0
    no_more_made = ⊎_elim (λ y. absurd (clash (slots_of m t past n) d (created_none m laws runs t past e may k.told unmade n y.0 y.1) made)) (λ y. (count_else (m.counting.creates t.setting.value t.limit (reverse past) e) n None y).1) (makes_for (m.counting.creates t.setting.value t.limit (reverse past) e) n)

    from_counting : IsCounting (before n) → IsCounting (after n)
    from_counting h =
        let bare = h.bare in let my = mine n in let word = h.word in let most = h.most in let same = same_word n in
        let off = no_start n (omega arith) in let still = no_wait n (omega arith) in
        let rests : awaited m t past n ≡ None = none_is (awaited m t past n) (omega arith) in
        let sum1 = more_made n in let none = no_more_made in let sum2 = more_owed (of_edt n) in let sum3 = more_resumes n in
        let unset = owed_unset n d made in let wakes = no_resume n rests in
        let waits = waits_none n still rests in let started = started_none n off (omega arith) in
        let cl : claims_now n ≤ claims_before n = ⊎_elim (λ y. let z = y.1 in omega arith) (λ y. let z = y.1 in omega arith) (claims_after n) in
        record { word = omega arith; most = omega arith; bare = omega arith; once = (let o = h.once in let z = ap is_free same in let l = same_lasts n in omega arith) }

    -- whoever enters an entry on the place that the claim of an EDT is tied to has the claim
    holder : IsBusy (before n) → is_ended m t past n ≡ false → (p : ℕ) → tied_to m t past n ≡ Some p → 1 ≤ m.touches t.limit e p → 1 ≤ times n v.claims
    holder h goes_on p tied touched =
        let unended = ap is_true goes_on in let held = h.held in
        let there = some_view (λ (u : Vs). times n u.claims) s.views (omega arith) in
        let his = (k.seated there.0 there.1 there.2).tied n p there.3 tied in
        let mine_too = keeps p touched in
        dite (ℕ_discrete there.0 id)
        (λ eq. let same = some-injective there.1 v (sym there.2 ∙ (ap (get_elem? s.views) eq ∙ at)) in let z = ap (λ u. times n u.claims) same in let some_claim = there.3 in omega arith)
        (λ ne. let z = sole there.0 there.1 ne there.2 p mine_too in absurd (omega arith))

    -- an EDT whose claim a view has is resumed by no entry of another
    busy_sleeps : IsBusy (before n) → times n woken ≡ 0
    busy_sleeps h = dite (dec_le 1 (times n woken))
        (λ y.
        let law = (laws.resuming t past e n may y).1 in let p : ℕ = law.0 in
        let rest = k.told.rests n p law.1 in
        let tied : tied_to m t past n ≡ Some p = ap (λ b. if b then (if is_ended m t past n then None else Some (m.core t.limit n)) else awaited m t past n) rest.0 ∙ law.1 in
        let mine_too = holder h rest.1 p tied law.2 in let none = sleeps n y in absurd (omega arith))
        (λ y. omega arith)

    -- who ends it while it runs has its claim
    busy_ends : IsBusy (before n) → m.runs e n ≡ true → is_started m t past n ≡ true → is_ended m t past n ≡ false → 1 ≤ times n v.claims
    busy_ends h runs_it on off =
        let touched = runs.on_core t.setting.value t.limit (reverse past) e n may.limits may.run may.legal runs_it in
        let tied : tied_to m t past n ≡ Some (m.core t.limit n) = (λ i. if on i then (if off i then None else Some (m.core t.limit n)) else awaited m t past n) in
        holder h off (m.core t.limit n) tied touched

    ended_on : m.ends e n ≡ true → is_true (is_ended m t (e ∷ past) n) ≡ 1
    ended_on on = ap (λ b. is_true (b || is_ended m t past n)) on

    ended_same : m.ends e n ≡ false → is_true (is_ended m t (e ∷ past) n) ≡ is_true (is_ended m t past n)
    ended_same off = ap (λ b. is_true (b || is_ended m t past n)) off

    both_on : (a b : Bool) → (a && b) ≡ true → b ≡ true
    both_on true b is = is
    both_on false b is = cc is

    started_on : m.starts e n ≡ false → is_true (is_started m t (e ∷ past) n) ≡ is_true (is_started m t past n)
    started_on off = ap (λ b. is_true (b || is_started m t past n)) off

    -- who starts it finds it unended
    first_unended : m.starts e n ≡ true → is_true (is_ended m t past n) ≡ 0
    first_unended on = ap is_true (laws.starting t past e n may on).unended

    -- it is claimed or has ended, as before, or ends by the entry of whoever has its claim, or is destroyed
    abbrev still_held : Type 0
    still_held = (1 ≤ claims_now n + is_true (is_ended m t (e ∷ past) n)) × (claims_now n ≤ 1) × (1 ≤ is_true (is_started m t (e ∷ past) n) → claims_now n + is_true (is_ended m t (e ∷ past) n) ≡ 1)

    held_on : IsBusy (before n) → still_held
    held_on h =
        let held = h.held in let sole = h.sole in let my = mine n in let before_runs = h.runs in
        ⊎_elim
        (λ on. let law = laws.ending t past e n may on in let now = ended_on on in let unended = ap is_true law.0 in
        ⊎_elim
        (λ own. let some_claim = busy_ends h own.0 own.1 law.0 in let is : leaves m e n ≡ true = (λ i. own.0 i && on i) in
        ⊎_elim (λ y. let cl = y.1 in (omega arith, omega arith, λ _. omega arith)) (λ y. let off = y.0 in absurd (cc (is, off))) (claims_after n))
        (λ other. let off : leaves m e n ≡ false = ap (λ b. b && m.ends e n) other.0 in
        let no_start : m.starts e n ≡ false = ⊎_elim (λ y. let z = runs.starting e n y in let w = other.0 in absurd (cc (z, w))) (λ y. y) (bools (m.starts e n)) in
        let still = started_on no_start in let none = ap is_true other.1 in
        ⊎_elim (λ y. let is = y.0 in absurd (cc (is, off))) (λ y. let cl = y.1 in (omega arith, omega arith, λ some. absurd (omega arith))) (claims_after n))
        law.1)
        (λ off. let same = ended_same off in
        ⊎_elim (λ y. let is = both_on (m.runs e n) (m.ends e n) y.0 in absurd (cc (is, off)))
        (λ y. let cl = y.1 in (
          omega arith,
          omega arith,
          λ some. ⊎_elim
              (λ begins. let unended = first_unended begins in omega arith)
              (λ no. let still = started_on no in let one = before_runs (omega arith) in omega arith)
              (bools (m.starts e n)),
        ))
        (claims_after n))
        (bools (m.ends e n))

    from_busy : IsBusy (before n) → IsBusy (after n)
    from_busy h =
        let word = h.word in let same = same_word n in let counted = h.counted in let none_owed = h.none in
        let sum1 = more_made n in let none = no_more_made in let sum2 = more_owed (of_edt n) in let sum3 = more_resumes n in
        let unset = owed_unset n d made in let wakes = busy_sleeps h in
        let now = held_on h in record { word = same ∙ word; counted = omega arith; held = now.0; sole = now.1; runs = now.2; none = omega arith; once = (let o = h.once in let l = same_lasts n in omega arith) }

    -- an EDT that has started does not wait
    ended_awake : is_started m t past n ≡ true → awaited m t past n ≡ None
    ended_awake on = ⊎_elim (λ y. y) (λ y. let off = (k.told.rests n y.0 y.1).0 in absurd (cc (on, off))) (options (awaited m t past n))

    parked_waits : IsParked (before n) → 1 - is_none (awaited m t (e ∷ past) n) + times n woken ≡ 1 - is_none (awaited m t past n)
    parked_waits h =
        let none = h.none in let my = mine n in
        let off = no_start n (omega arith) in let still = no_wait n (omega arith) in let r = in_times n woken in
        ⊎_elim
        (λ y. let law = laws.resuming t past e n may (r.0 y) in let one = law.0 in
        let was : 1 - is_none (awaited m t past n) ≡ 1 = ap (λ o. 1 - is_none o) law.1.1 in
        let now : 1 - is_none (awaited m t (e ∷ past) n) ≡ 0 = ap (λ o. 1 - is_none o) (after_resumed (m.starts e n) (m.ends e n) (m.counting.waits e n) (is_in n woken) (awaited m t past n) still y) in omega arith)
        (λ y. let zero_times = r.1 y in
        let same = ap (λ o. 1 - is_none o) (after_same (m.starts e n) (m.ends e n) (m.counting.waits e n) (is_in n woken) (awaited m t past n) off still y (λ on. ⊎_elim (λ own. ended_awake own.1) (λ other. other.2) (laws.ending t past e n may on).1)) in omega arith)
        (bools (is_in n woken))

    from_parked : IsParked (before n) → IsParked (after n)
    from_parked h =
        let word = h.word in let same = same_word n in let counted = h.counted in let waits = h.waits in let none_claims = h.none in let my = mine n in
        let off = no_start n (omega arith) in
        let sum1 = more_made n in let none = no_more_made in let sum2 = more_owed (of_edt n) in let sum3 = more_resumes n in
        let unset = owed_unset n d made in let moved = parked_waits h in let started = started_none n off (omega arith) in
        let cl : claims_now n ≤ claims_before n = ⊎_elim (λ y. let z = y.1 in omega arith) (λ y. let z = y.1 in omega arith) (claims_after n) in
        record { word = same ∙ word; counted = omega arith; waits = omega arith; none = omega arith; once = (let o = h.once in let l = same_lasts n in omega arith) }

    from_made : IsInOrder (slots_of m t past n) (before n) → IsInOrder (slots_of m t (e ∷ past) n) (after n)
    from_made h =
        let is : IsCounting (before n) ⊎ (IsBusy (before n) ⊎ IsParked (before n)) = subst (λ o. IsInOrder o (before n)) made h in
        subst (λ o. IsInOrder o (after n)) (sym stays_made) (⊎_elim (λ y. inl (from_counting y)) (λ y. ⊎_elim (λ z. inr (inl (from_busy z))) (λ z. inr (inr (from_parked z))) y) is)

  each_after : (n : ℕ) → 1 ≤ n → n ≤ t.limit → IsInOrder (slots_of m t (e ∷ past) n) (after n)
  each_after n lo hi = ⊎_elim
      (λ none. from_unmade n none (subst (λ o. IsInOrder o (before n)) none (k.each n lo hi)))
      (λ y. from_made n y.0 y.1 (k.each n lo hi))
      (options (slots_of m t past n))

  stage_after : (n q : ℕ) → total (λ u. owed_slots (of_slot n q) u.debts) views + is_none (payload_of m t (e ∷ past) n q) ≤ 1
  stage_after n q =
      let old = k.stage n q in let sum = more_owed (of_slot n q) in
      ⊎_elim
      (λ y. let here = pay_here (m.counting.sets e) n q y.0 (payload_of m t past n q) y.1 in let law = (laws.setting t past e n q y.0 may y.1).1 in
      let a = ap is_none here.0 in let b = ap is_none law in let one = here.1 in omega arith)
      (λ y. let r = pay_else (m.counting.sets e) n q (payload_of m t past n q) y in let a = ap is_none r.0 in let z = r.1 in omega arith)
      (slot_for (m.counting.sets e) n q)

  payload_after : (n q x : ℕ) → payload_of m t (e ∷ past) n q ≡ Some x → total (λ u. tally (of_slot n q) u.debts.unput) views ≡ 0 → slice_index words (payload_at homes n q) ≡ x
  payload_after n q x is none =
      let sum = more_unput (of_slot n q) in
      ⊎_elim
      (λ y. let one = (pay_here (m.counting.sets e) n q y.0 (payload_of m t past n q) y.1).1 in absurd (omega arith))
      (λ y. let r = pay_else (m.counting.sets e) n q (payload_of m t past n q) y in
      same_words (payload_at homes n q) (omega arith) ∙ k.payload n q x (sym r.0 ∙ is) (let z = r.1 in omega arith))
      (slot_for (m.counting.sets e) n q)

  -- what was so of a view's debts is so
  unput_later : (u : Vs) → Stakes m t past u → (i n q x : ℕ) → get_elem? u.debts.unput i ≡ some (n, q, x) → payload_of m t (e ∷ past) n q ≡ Some x
  unput_later u old i n q x there = payload_later m laws runs t past e may k.told unmade n q x (old.unput i n q x there)

  made_later : (u : Vs) → Stakes m t past u → (i n d : ℕ) → get_elem? u.debts.made i ≡ some (n, d) → slots_of m t (e ∷ past) n ≡ Some d
  made_later u old i n d there = slots_later m laws runs t past e may k.told unmade n d (old.made i n d there)

  mine_after : Stakes m t (e ∷ past) w
  mine_after = let old = k.seated id v at in record {
    unput = λ i n q x there. ⊎_elim
        (λ h. unput_later v old i n q x h)
        (λ h. (pay_here (m.counting.sets e) n q x (payload_of m t past n q) (at_listed (m.counting.sets e) h.0 (n, q, x) h.1)).0)
        (at_either v.debts.unput (listed (m.counting.sets e)) i (n, q, x) (ap (λ d. get_elem? d.unput i) (sym debts) ∙ there));
    made = λ i n d there. ⊎_elim
        (λ h. made_later v old i n d h)
        (λ h. (count_here (m.counting.creates t.setting.value t.limit (reverse past) e) n d (slots_of m t past n) (at_listed (m.counting.creates t.setting.value t.limit (reverse past) e) h.0 (n, d) h.1)).0)
        (at_either v.debts.made (listed (m.counting.creates t.setting.value t.limit (reverse past) e)) i (n, d) (ap (λ x. get_elem? x.made i) (sym debts) ∙ there));
    claims = λ n has. ⊎_elim (λ y. let z = y.2 in absurd (omega arith)) (λ y. let z = y.2 in old.claims n (omega arith)) (claims_after n);
    tied = λ n p has is. ⊎_elim (λ y. let z = y.2 in absurd (omega arith))
        (λ y. let z = y.2 in let same = same_parts p in
        ⊎_elim
        (λ x. let law = runs.on_core t.setting.value t.limit (reverse past) e n may.limits may.run may.legal (runs.starting e n x.0) in
        let held = keeps (m.core t.limit n) law in let eq = ap (λ r. weigh (one_at r) v.parts) x.1 in omega arith)
        (λ x. ⊎_elim
        (λ b. let law = (laws.waiting t past e n p may b).1 in let held = keeps p law in omega arith)
        (λ b. let held = old.tied n p (omega arith) b in omega arith)
        x)
        (tied_now (m.starts e n) (m.ends e n) (is_started m t past n) (is_ended m t past n) (m.counting.waits e n) (is_in n woken) (awaited m t past n) (m.core t.limit n) p is))
        (claims_after n);
    begun = λ n has is. ⊎_elim (λ y. let z = y.2 in absurd (omega arith))
        (λ y. let z = y.2 in ⊎_elim
        (λ on. begun_now m n v w log.0 e log.1 log.2 on)
        (λ was. begun_more m n v w log.0 e log.1 log.2 (old.begun n (omega arith) was))
        (or_cases (m.starts e n) (is_started m t past n) is))
        (claims_after n);
    spent = λ z. absurd (omega arith);
  }

  theirs_after : (i : ℕ) (u : Vs) → i ≢ id → get_elem? s.views i ≡ some u → Stakes m t (e ∷ past) u
  theirs_after i u ne u_at = let old = k.seated i u u_at in record {
    unput = unput_later u old;
    made = made_later u old;
    claims = old.claims;
    tied = λ n p has is.
        let none = not_mine n has in
        old.tied n p has (tied_back (m.starts e n) (m.ends e n) (is_started m t past n) (is_ended m t past n) (m.counting.waits e n) (is_in n woken) (awaited m t past n) (m.core t.limit n) p (no_start n none) (no_wait n none) is);
    begun = λ n has is. old.begun n has (⊎_elim (λ on. let off = no_start n (not_mine n has) in absurd (cc (on, off))) (λ was. was) (or_cases (m.starts e n) (is_started m t past n) is));
    spent = old.spent;
  }
    where
      not_mine : (n : ℕ) → 1 ≤ times n u.claims → times n v.claims ≡ 0
      not_mine n has =
          let r = (k.seated i u u_at).claims n has in let two = total_two (λ (x : Vs). times n x.claims) s.views i id u v ne u_at at in
          let b = (busy (slots_of m t past n) (before n) (k.each n r.0 r.1) (omega arith)).0.sole in omega arith

  pub entered_kept : Counted m t (e ∷ past) record { words = words; homes = s.homes; views = views }
  entered_kept = record {
    words = let z = k.words in omega arith;
    told = told_more m laws runs t past e may k.told unmade;
    each = each_after;
    stage = stage_after;
    payload = payload_after;
    seated = λ i u u_at. ⊎_elim (λ h. subst (Stakes m t (e ∷ past)) h.1 mine_after) (λ h. theirs_after i u h.0 h.1) (at_set s.views id i w u u_at);
  }

-- no claim ends
pub without_none : (test : ℕ → Bool) (ns : List ℕ) → ((n : ℕ) → test n ≡ false) → ns ≡ without_all test ns
without_none test [] off = refl
without_none test (n ∷ ns) off = ap (λ l. n ∷ l) (without_none test ns off) ∙ sym (ap (λ b. if b then without_all test ns else n ∷ without_all test ns) (off n))

-- an entry that nobody waits by, is resumed by or is made by adds nothing to what is owed
pub adds_none : {G E P N F : Type 0} (m : Meaning G E P N F) (e : E) (d : Debts) (rs : List ℕ) (one : Option (ℕ × ℕ)) → one ≡ None → m.counting.sets e ≡ None → rs ≡ [] → d ≡ both_debts d (debts_by m e rs one)
adds_none m e d rs one creates sets none = λ i. record {
  unput = sym (ap (λ o. d.unput ++ listed o) sets ∙ nil_append d.unput) i;
  put = sym (nil_append d.put) i;
  made = sym (ap (λ o. d.made ++ listed o) creates ∙ nil_append d.made) i;
  resumes = sym (ap (λ l. d.resumes ++ l) none ∙ nil_append d.resumes) i;
  lasts = sym (nil_append d.lasts) i;
  readied = sym (nil_append d.readied) i;
}
